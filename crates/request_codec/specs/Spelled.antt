-- Requests that words spell.
use Rattle.std.specs.Prelude.{◌≡◌, ℕ, ◌<◌, ◌≤◌, ◌^◌, true, List}
use Rattle.world.specs.Prelude.{is_name, NUMBER_DIGITS, REQUEST_SECTORS, Request}
use Rattle.pur_base.specs.declared.request.Request.TheVariants as request

-- a lawful name, a number of at most 15 digits, and 1 to 64 sectors
pub record IsSpelledSpan (name : List ℕ) (lba count : ℕ) : Type 0 where
  pub named : is_name name ≡ true
  pub number : lba < 10 ^ NUMBER_DIGITS
  pub some : 1 ≤ count
  pub few : count ≤ REQUEST_SECTORS

-- lawful names, numbers of at most 15 digits, and one sector or more
pub record IsSpelledCopy (name : List ℕ) (lba : ℕ) (other : List ℕ) (to count : ℕ) : Type 0 where
  pub named : is_name name ≡ true
  pub number : lba < 10 ^ NUMBER_DIGITS
  pub other_named : is_name other ≡ true
  pub to_number : to < 10 ^ NUMBER_DIGITS
  pub some : 1 ≤ count

-- The fields of a request of a form in force are within their bounds. Of the other forms nothing is said.
abbrev pub IsSpelledRequest : Request → Type 0
IsSpelledRequest (request.Create n sectors) = (is_name n ≡ true) × (sectors < 10 ^ NUMBER_DIGITS)
IsSpelledRequest (request.Write n lba count) = IsSpelledSpan n lba count
IsSpelledRequest (request.Fill n lba count byte) = IsSpelledSpan n lba count × (byte < 256)
IsSpelledRequest (request.Zero n lba count) = IsSpelledSpan n lba count
IsSpelledRequest (request.Read n lba count) = IsSpelledSpan n lba count
IsSpelledRequest (request.Snapshot n new) = (is_name n ≡ true) × (is_name new ≡ true)
IsSpelledRequest (request.Clone n new) = (is_name n ≡ true) × (is_name new ≡ true)
IsSpelledRequest (request.Copy n lba m to count) = IsSpelledCopy n lba m to count
IsSpelledRequest (request.Destroy n) = is_name n ≡ true
IsSpelledRequest _ = Unit {0}
