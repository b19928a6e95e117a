-- What the writers of a field do.
use Rattle.std.specs.Prelude.{◌≡◌, ℕ, ◌+◌, List, ◌++◌, length, take}

-- the text stands at the place and stops there, and what stood before it stays
pub record IsWritten (old new : List ℕ) (at stop : ℕ) (text : List ℕ) : Type 0 where
  pub end : stop ≡ at + length text
  pub front : take stop new ≡ take at old ++ text
