-- Conditions that tell what has failed: those that lose the devices whose counts rose.
use Rattle.std.proofs.Common.{arith}
use Rattle.std.proofs.lemmas.Bool.Decides.{nat_tests}
use Rattle.std.proofs.Common.{◌≡◌, inl, inr, ℕ, List, refl, Bool, true, false}
use Rattle.array_spec.specs.Prelude.{Device, Condition, Conditions, Sound, Missing, LeftOut, IsBearable, MayBecome, IsWithin, drive, BootSlot}
use Rattle.world.specs.Prelude.{Shelved, geometry_of, has_risen, missing_if, losing}
use Rattle.boot_region.specs.Storing.{AccountsFor, TellsFailed}

goes : (b : Bool) (c : Condition) → MayBecome c (missing_if b c)
goes true Sound = inr refl
goes false Sound = inl refl
goes b Missing = refl
goes b LeftOut = refl

pub losing_within : (failed : Device → Bool) (missing : Conditions) → IsWithin missing (losing failed missing)
losing_within failed missing device = goes (failed device) (missing device)

none_failed : (b : Bool) (c : Condition) → missing_if b c ≡ Sound → b ≡ false
none_failed true Sound e = absurd (cc e)
none_failed false Sound e = refl
none_failed b Missing e = absurd (cc e)
none_failed b LeftOut e = absurd (cc e)

-- in a takeover: a device on which any call failed goes missing, and what stands in the slot may be newer
pub failed_calls : (shelf : Shelved) (members : List Bool) (missing : Conditions) (slot : BootSlot) (held : List ℕ) (faults write_faults : Device → ℕ)
    → IsBearable (geometry_of shelf) (losing (λ d. has_risen (shelf.disk d).faults (faults d)) missing)
    → AccountsFor shelf members missing slot held faults write_faults (losing (λ d. has_risen (shelf.disk d).faults (faults d)) missing)
failed_calls shelf members missing slot held faults write_faults bears = grind (arith, nat_tests, losing_within, has_risen, none_failed, drive)

pub tells_failed : (shelf : Shelved) (members : List Bool) (missing : Conditions) (faults : Device → ℕ)
    → IsBearable (geometry_of shelf) (losing (λ d. has_risen (shelf.disk d).faults (faults d)) missing)
    → TellsFailed shelf members missing faults (losing (λ d. has_risen (shelf.disk d).faults (faults d)) missing)
tells_failed shelf members missing faults bears = grind (arith, nat_tests, losing_within, has_risen, none_failed, drive)
