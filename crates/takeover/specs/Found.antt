-- The record that was found, and settled on the drives that hold it.
use Rattle.std.specs.Prelude.{◌≡◌, ◌⊎◌, ℕ, ◌<◌, ◌-◌, ◌^◌, List, true, Result, Ok, Err, ⊤}
use Rattle.session_spec.specs.Prelude.{Device, Drive, Nv, SECTOR_BYTES, Conditions, Sound, LeftOut, drive, Array, A, B, other_slot, body_in, gate_place, names, spelling, IsNamedByNone, IsInForce, geometry_of, Shelved, Stop, MayStop, IsIn}
use Rattle.boot_region.specs.declared.loading.Loaded.{Loaded}
use Rattle.boot_region.specs.Prelude.{IsMember, slot_in, StandsNow, IsInForceOn}
use Rattle.takeover.specs.declared.faults.OpenFault.{OpenFault}
use Rattle.takeover.specs.declared.faults.OpenFault.TheVariants as open_fault

-- the gates' sectors of both slots, on each drive
abbrev pub OnGates : Device → ℕ → Type 0
OnGates (Drive d) i = IsIn (record { start = gate_place A; size = SECTOR_BYTES }) i ⊎ IsIn (record { start = gate_place B; size = SECTOR_BYTES }) i
OnGates (Nv n) i = ⊥

-- the record is in force on the drives that were found, which are some of those that it names, and the devices stand for the arrays
pub record IsFoundOn (shelf : Shelved) (x : Loaded) (missing : Conditions) (arrays : List Array) : Type 0 where
  pub in_force : IsInForceOn shelf x.drives missing (other_slot (slot_in x.slot)) x.record
  pub in_its_slot : IsInForce (slot_in x.slot) x.record
  pub named : (i : ℕ) → IsMember x.drives i → names x.record (drive i) ≡ true
  pub bodies : (i : ℕ) → IsMember x.drives i → body_in (slot_in x.slot) (shelf.disk (drive i)).bytes ≡ spelling x.record
  pub room : x.record.generation < 2 ^ 48 - 16
  pub stands : StandsNow shelf missing arrays
  pub left_out : (start : Stop) → MayStop shelf start → (d : Device) → missing d ≡ LeftOut → IsNamedByNone (geometry_of shelf) start.image missing d

-- Where no more is missing than is borne, the record is found, or memory was wanting.
abbrev pub IsFoundBy : Shelved → Conditions → List Array → Result Loaded OpenFault → Type 0
IsFoundBy new missing arrays (Ok x) = IsFoundOn new x missing arrays
IsFoundBy new missing arrays (Err (open_fault.Memory m)) = ⊤
IsFoundBy new missing arrays (Err e) = ⊥

-- of a device that isn't missing the count of faults goes on
abbrev pub AreCounted : Shelved → Conditions → Type 0
AreCounted shelf missing = (d : Device) → missing d ≡ Sound → (shelf.disk d).faults < 2 ^ 64 - 1
