-- What an array that goes on passes through, and who holds it on the way.
use Rattle.std.specs.Prelude.{◌≡◌, ◌⊎◌, Bool, true, false, List, ◌++◌}
use Rattle.session_spec.specs.Prelude.{Command, after_all, Device, Conditions, Sound, LeftOut, IsBearable, BootRecord, names, Rises, geometry_of, Shelved, Stop, Continues, LeavesOnly, IsCountedBy, StandsAmong}
use Rattle.pur_base.specs.Plain as plain
use Rattle.array_core.specs.declared.array.Array.{Array}
use Rattle.array_core.specs.Holding.{HasEnough, IsHolder, NamesHolders}
use Rattle.array_core.specs.Losing.{lost_by}

-- ---- the frame

-- device calls alone, and of honest devices each stop has the counts of the beginning, or more
pub record Calls (old new : Shelved) : Type 0 where
  pub continues : Continues old new
  pub counted : old.honest → LeavesOnly old new (IsCountedBy old)

-- ---- causes

-- the devices that may leave the array though no write on them fails, and those that may join it
pub record Causes : Type 0 where
  pub gone : Device → Bool
  pub joined : Device → Bool

-- none leaves but for a write or a sync that failed, and none joins
abbrev pub by_faults : Causes
by_faults = record { gone = λ d. false; joined = λ d. false }

-- A holder is one still, or lost a write, or leaves for a cause. None joins without one, and the record names no other. Where it named just the holders it does so still.
-- No device that holds the array behind it lost a write, but before it joined; and where enough drives held it they still do.
pub record HandsOn (why : Causes) (old new : Shelved) (a b : Array) : Type 0 where
  pub leaves : (d : Device) → IsHolder a d → IsHolder b d ⊎ Rises (old.disk d).write_faults (new.disk d).write_faults ⊎ (why.gone d ≡ true)
  pub holders : (d : Device) → IsHolder b d → IsHolder a d ⊎ (why.joined d ≡ true)
  pub named : (d : Device) → names b.register.record d ≡ true → (names a.register.record d ≡ true) ⊎ IsHolder a d ⊎ (why.joined d ≡ true)
  pub names_holders : NamesHolders a → NamesHolders b
  pub unlost : (d : Device) → IsHolder b d → ((new.disk d).write_faults ≡ (old.disk d).write_faults) ⊎ (why.joined d ≡ true)
  pub enough : HasEnough a.register → HasEnough b.register

-- ---- at a stop

-- after some of the commands, from the first on
pub record IsOnWay (x : plain.Array) (commands : List Command) (y : plain.Array) : Type 0 where
  pub front : List Command
  pub rest : List Command
  pub whole : commands ≡ front ++ rest
  pub is : y ≡ after_all x front

-- The conditions agree with the record, and with the causes: it names each device that is sound, and that one isn't to leave; and none that was left out, and that one isn't to join.
pub record AgreesFor (why : Causes) (boot : BootRecord) (now : Conditions) : Type 0 where
  pub sound : (d : Device) → now d ≡ Sound → (names boot d ≡ true) × (why.gone d ≡ false)
  pub left_out : (d : Device) → now d ≡ LeftOut → (names boot d ≡ false) × (why.joined d ≡ false)

-- a session can go on with an array on the way, in all such conditions, as long as what has lost writes by then is borne
abbrev pub GoesOnAt : Causes → Shelved → BootRecord → plain.Array → List Command → Stop → Type 0
GoesOnAt why old boot x commands stop = (now : Conditions) → AgreesFor why boot now → IsBearable (geometry_of old) (lost_by old stop now)
    → StandsAmong (geometry_of old) stop.image (lost_by old stop now) (IsOnWay x commands)
