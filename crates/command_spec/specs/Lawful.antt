-- Requests that are done in memory.
use Rattle.std.specs.Prelude.{◌≡◌, ◌≤◌, true}
use Rattle.memory_spec.specs.Prelude.{is_name, REQUEST_SECTORS, Request}
use Rattle.pur_base.specs.declared.request.Request.TheVariants as request

-- a logged request with a lawful new name or count
abbrev pub IsLawful : Request → Type 0
IsLawful (request.Create n size) = is_name n ≡ true
IsLawful (request.Write n lba count) = count ≤ REQUEST_SECTORS
IsLawful (request.Fill n lba count byte) = count ≤ REQUEST_SECTORS
IsLawful (request.Zero n lba count) = count ≤ REQUEST_SECTORS
IsLawful (request.Snapshot n new) = is_name new ≡ true
IsLawful (request.Clone n new) = is_name new ≡ true
IsLawful (request.Copy n lba m to count) = 1 ≤ count
IsLawful (request.Destroy n) = Unit {0}
IsLawful _ = ⊥
