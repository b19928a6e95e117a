-- The devices whose calls failed between two moments, and what goes missing with them.
use Rattle.std.specs.Prelude.{◌≤◌, ◌^◌, ◌-◌, ℕ, Bool, ◌||◌, nat_lt, nat_le, if◌then◌else◌}
use Rattle.pur_base.specs.declared.device.Device.{Device}
use Rattle.pur_base.specs.Prelude.{Geometry, Condition, Conditions, Sound, Missing, LeftOut}
use Rattle.world.specs.Shelf.{Shelved, Stop}

-- the size of the shelf
abbrev pub geometry_of : Shelved → Geometry
geometry_of shelf = record { slots = shelf.drives; units = shelf.units }

-- a count rose, or stands at its end
abbrev pub has_risen : ℕ → ℕ → Bool
has_risen before now = nat_lt before now || nat_le (2 ^ 64 - 1) before

-- whether a call on the device failed between two moments
abbrev pub has_failed : Stop → Stop → Device → Bool
has_failed from to device = has_risen (from.faults device) (to.faults device)

-- whether a write or a sync on it did
abbrev pub has_lost_writes : Stop → Stop → Device → Bool
has_lost_writes from to device = has_risen (from.write_faults device) (to.write_faults device)

-- a sound device of which this is true goes missing
abbrev pub missing_if : Bool → Condition → Condition
missing_if failed Sound = if failed then Missing else Sound
missing_if failed Missing = Missing
missing_if failed LeftOut = LeftOut

-- so each device of which it is true
abbrev pub losing : (Device → Bool) → Conditions → Conditions
losing failed conditions = λ device. missing_if (failed device) (conditions device)

-- no count falls
pub record IsLater (from to : Stop) : Type 0 where
  pub faults : (device : Device) → from.faults device ≤ to.faults device
  pub write_faults : (device : Device) → from.write_faults device ≤ to.write_faults device
