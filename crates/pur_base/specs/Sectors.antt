-- Sectors of one byte. It unfolds only on request, so that no goal holds 512 numbers.
use Rattle.std.specs.Prelude.{ℕ, List, replicate}
use Rattle.pur_base.specs.declared.limits.TheConstants.{SECTOR_BYTES}

-- the sector of that byte
unfoldable pub filled : ℕ → List ℕ
filled byte = replicate SECTOR_BYTES byte
