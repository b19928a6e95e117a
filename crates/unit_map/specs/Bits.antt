-- One bit of a word.
use Rattle.std.specs.Prelude.{ℕ, Bool, ◌≡◌, ◌≢◌, ◌==◌, ◌<◌}
use Rattle.std.specs.Int.{bit_at}

-- whether the bit at a place is set
abbrev pub has_bit : ℕ → ℕ → Bool
has_bit word at = bit_at word at == 1

-- the bit at a place is this one, and the others are as they were
pub record IsBitChanged (old new at value : ℕ) : Type 0 where
  pub changed : bit_at new at ≡ value
  pub others : (i : ℕ) → i < 64 → i ≢ at → bit_at new i ≡ bit_at old i

-- the bit at a place is set, and none below it is
pub record IsLowestBit (word at : ℕ) : Type 0 where
  pub within : at < 64
  pub set : bit_at word at ≡ 1
  pub below : (i : ℕ) → i < at → bit_at word i ≡ 0
