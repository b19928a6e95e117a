-- What the making of an array does, from which each history of sessions begins.
use Rattle.std.specs.Prelude.{◌≡◌, ◌≢◌, ◌⊎◌, ◌<◌, ◌++◌, [], ◌∷◌, length, List, ℕ, Some}
use Rattle.memory_spec.specs.Prelude.{Device, Status, Geometry, Image, View, Conditions, Sound, LeftOut, IsBearable, MayShow, line_text, BootSlot, B, Effective, IsEffective, spelling, Means}
use Rattle.pur_base.specs.declared.reply.Reply.TheVariants as reply
use Rattle.pur_base.specs.declared.reply.Status.TheVariants as status
use Rattle.world.specs.Prelude.{Rises, geometry_of, Shelved, Stop, IsOf, IsSame, MayLeave, MayStop, Streamed}
use Rattle.session_spec.specs.First.{first_record}
use Rattle.session_spec.specs.Entering.{Enters, IsStanding}
use Rattle.session_spec.specs.Ends.{RisesIf, is_sink}

-- no device is missing
abbrev pub none_missing : Conditions
none_missing = λ d. Sound

-- nothing is dirty on any device
abbrev pub AreClean : Shelved → Type 0
AreClean shelf = (d : Device) → (shelf.disk d).dirty ≡ []

-- ---- what the devices give

-- each device shows what stands on it
abbrev pub view_now : Shelved → View
view_now shelf = λ d. Some (shelf.disk d).bytes

-- the view gives a body
pub record ShowsBody (shelf : Geometry) (view : View) : Type 0 where
  pub slot : BootSlot
  pub body : List ℕ
  pub effective : IsEffective shelf view slot body

-- a body is in force as reads give the drives, that of a lawful record or not
abbrev pub GivesBody : Shelved → Type 0
GivesBody shelf = ShowsBody (geometry_of shelf) (view_now shelf)

-- no body is
abbrev pub IsBlank : Shelved → Type 0
IsBlank shelf = ¬ (GivesBody shelf)

-- no device is left out
abbrev pub NoneLeftOut : Conditions → Type 0
NoneLeftOut more = (d : Device) → more d ≢ LeftOut

-- the body is that of the first record, in slot B, and the view means the array of nothing by it
pub record MeansNothing (shelf : Geometry) (view : View) (slot : BootSlot) (body : List ℕ) : Type 0 where
  pub in_slot : slot ≡ B
  pub spelled : body ≡ spelling (first_record shelf)
  pub effective : Effective shelf view
  pub by_slot : effective.slot ≡ B
  pub by_record : effective.boot ≡ first_record shelf
  pub means : Means shelf view effective []

-- whichever devices are missing, bearably, they give no body, or the first record's
abbrev pub IsNoneOrEmpty : Geometry → Image → Type 0
IsNoneOrEmpty shelf image = (more : Conditions) (view : View) → IsBearable shelf more → NoneLeftOut more → MayShow image more view
    → (slot : BootSlot) (body : List ℕ) → IsEffective shelf view slot body → MeansNothing shelf view slot body

-- ---- what failed, and what stays

-- no call on a device of the shelf failed
abbrev pub NoneFailed : Shelved → Shelved → Type 0
NoneFailed old new = (d : Device) → IsOf old d → ((new.disk d).faults ≡ (old.disk d).faults) × ((new.disk d).write_faults ≡ (old.disk d).write_faults)

-- one did
pub record OneFailed (old new : Shelved) : Type 0 where
  pub device : Device
  pub is_there : IsOf old device
  pub rose : Rises (old.disk device).faults (new.disk device).faults

-- each device holds what it held
abbrev pub AreSame : Shelved → Shelved → Type 0
AreSame old new = (d : Device) → IsSame (old.disk d) (new.disk d)

-- ---- the making

-- The devices stand for the array of nothing, by the first record and no other, and none is missing: a session may begin.
pub record IsMade (shelf : Shelved) : Type 0 where
  pub enters : Enters shelf none_missing ([] ∷ [])
  pub first : (stop : Stop) → MayStop shelf stop → IsNoneOrEmpty (geometry_of shelf) stop.image

-- What the making of an array does, by its status.
abbrev pub MakesBy : Status → Shelved → Shelved → Type 0
-- there was none, and it's made and told
MakesBy status.Done old new = NoneFailed old new × IsBlank old × IsMade new × (new.output ≡ old.output ++ line_text reply.Done)
-- there is one, and it's left alone
MakesBy status.NotBlank old new = NoneFailed old new × GivesBody old × AreSame old new × (new.output ≡ old.output)
MakesBy status.Halted old new = OneFailed old new × (new.output ≡ old.output)
MakesBy status.Memory old new = NoneFailed old new × AreSame old new × (new.output ≡ old.output)
-- it's made, and a part of the line that tells it was given
MakesBy status.Sink old new = NoneFailed old new × IsBlank old × IsMade new
    × (cut missing : List ℕ) × (0 < length missing) × (line_text reply.Done ≡ cut ++ missing) × (new.output ≡ old.output ++ cut)
MakesBy _ old new = ⊥

-- At a stop: where a record was in force each device holds what it held. Else the devices give none, or the first one, and once
-- a byte of the reply was given they stand for the array of nothing, so that a session can go on from there.
pub record IsInMaking (old : Shelved) (stop : Stop) : Type 0 where
  pub untaken : stop.taken ≡ old.taken
  pub kept : GivesBody old → (d : Device) → MayLeave (old.disk d) (stop.image d)
  pub blank : IsBlank old → IsNoneOrEmpty (geometry_of old) stop.image
  pub told : (stop.output ≡ old.output) ⊎ (IsBlank old × IsStanding (geometry_of old) stop.image none_missing ([] ∷ []))

-- Of `init`, over honest devices on which nothing is dirty, and to a sink that tells its bytes.
pub record Makes (old new : Shelved) (sink sink_given : Streamed) (ended : Status) : Type 0 where
  pub sink_counts : RisesIf (is_sink ended) sink.faults sink_given.faults
  pub made : AreClean old → MakesBy ended old new
  -- wherever it's stopped, however it ends
  pub each : AreClean old → (stop : Stop) → new.left_since old.moment stop → IsInMaking old stop
