-- The first and the last of what is said of the keys between two.
use Rattle.std.specs.Prelude.{◌≡◌, ℕ, ◌<◌, ◌≤◌, Option, Some, None}

-- nothing is said of the keys from the first to the last
abbrev pub IsSilent : {F : Type 0} → (ℕ → Option F) → ℕ → ℕ → Type 0
IsSilent said from to = (k : ℕ) → from ≤ k → k ≤ to → said k ≡ None

-- the fact is said of a key between the two, and nothing of those behind it
pub record IsLastSaid {F : Type 0} (key : F → ℕ) (said : ℕ → Option F) (from to : ℕ) (f : F) : Type 0 where
  pub begun : from ≤ key f
  pub within : key f ≤ to
  pub is_said : said (key f) ≡ Some f
  pub behind : (k : ℕ) → key f < k → k ≤ to → said k ≡ None

-- the fact is said of a key between the two, and nothing of those in front of it
pub record IsFirstSaid {F : Type 0} (key : F → ℕ) (said : ℕ → Option F) (from to : ℕ) (f : F) : Type 0 where
  pub begun : from ≤ key f
  pub within : key f ≤ to
  pub is_said : said (key f) ≡ Some f
  pub before : (k : ℕ) → from ≤ k → k < key f → said k ≡ None
