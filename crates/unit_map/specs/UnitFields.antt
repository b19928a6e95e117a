-- How the units of a drive lie in words of 64 bits.
use Rattle.std.specs.Prelude.{ℕ, Bool, false, ◌≡◌, ◌<◌, ◌≤◌, ◌/◌, ◌%◌, List, length, map, count_by, slice_index}
use Rattle.std.specs.List.{range_with_len}
use Rattle.std.specs.Int.{bit_at}
use Rattle.pur_base.specs.declared.limits.TheConstants.{BOOT_UNITS, UNITS_MAX}
use Rattle.unit_map.specs.Bits.{has_bit}

-- whether a unit is free
abbrev pub unit_free : List ℕ → ℕ → Bool
unit_free words unit = has_bit (slice_index words (unit / 64)) (unit % 64)

-- whether each of so many units is free
abbrev pub units_of : List ℕ → ℕ → List Bool
units_of words units = map (unit_free words) (range_with_len 0 units)

-- The count and the summary are true of the words; no unit of the boot region or past the last is free.
pub record IsTidy (units free filled : ℕ) (words : List ℕ) : Type 0 where
  pub size : length words ≡ 64
  pub limit : units ≤ UNITS_MAX
  pub counted : free ≡ count_by (λ is_free. is_free) (units_of words units)
  pub filled_only : (i : ℕ) → i < 64 → bit_at filled i ≡ 1 → 0 < slice_index words i
  pub filled_all : (i : ℕ) → i < 64 → 0 < slice_index words i → bit_at filled i ≡ 1
  pub boot : (unit : ℕ) → unit < BOOT_UNITS → unit_free words unit ≡ false
  pub past : (unit : ℕ) → units ≤ unit → unit < UNITS_MAX → unit_free words unit ≡ false
