-- The units of a drive: whether each is free.
use Rattle.std.specs.Prelude.{ℕ, Bool, true, false, ◌≡◌, ◌<◌, ◌-◌, ◌++◌, List, length, replicate, slice_index_or}
use Rattle.pur_base.specs.declared.limits.TheConstants.{BOOT_UNITS}

-- so many units, free but for those of the boot region
abbrev pub fresh : ℕ → List Bool
fresh units = replicate BOOT_UNITS false ++ replicate (units - BOOT_UNITS) true

-- the unit is free, and none below it is
pub record IsLowestFree (free : List Bool) (unit : ℕ) : Type 0 where
  pub within : unit < length free
  pub free_there : slice_index_or free unit false ≡ true
  pub used_below : (k : ℕ) → k < unit → slice_index_or free k false ≡ false
