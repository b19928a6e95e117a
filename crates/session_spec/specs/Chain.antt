-- Laws of sessions: how one follows another, and that no claim comes without its cause.
use Rattle.std.specs.Prelude.{◌≡◌, Bool, true, false, List, [], length, drop, Some, None, ℕ, ◌⊎◌, Contains}
use Rattle.memory_spec.specs.Prelude.{Device, IsBytes, Geometry, Image, Conditions, Sound, IsOn, IsBearable, IsWithin, MayShowAs, Array, Item, requests, Answer, MayBeMarked, After, Runs, Stands, Status, named_sound}
use Rattle.world.specs.Prelude.{Shelved, Stop, MayStop, IsQuietBy, geometry_of, has_lost_writes, losing, IsLater, Streamed}
use Rattle.pur_base.specs.declared.reply.Status.TheVariants as status
use Rattle.session_spec.specs.Headline.{Survives, Serving, Opening, Replied, IsAfter, IsOpenedBearably, Served, Unopened}
use Rattle.session_spec.specs.Entering.{IsStanding, IsLeft, Enters, Found, IsTakenOver, StandsStill, HasRoom, failed_by, failed_since, read_now}
use Rattle.session_spec.specs.Faring.{DropsOnlyLost, Point, Fares, IsBorneSince, StayElided, now_missing}

-- ---- one session after another

-- What was left is found again: devices may have gone missing since; missing ones may be blank, or show anything where no record names them.
pub record Finds (shelf : Geometry) (was : Image) (now : Conditions) (image : Image) (missing : Conditions) : Type 0 where
  pub marked : Conditions
  pub marks : MayBeMarked shelf was now marked
  pub within : IsWithin marked missing
  pub shows : (d : Device) → MayShowAs (missing d) (was d) (Some (image d))

-- Another session begins on devices that one has left: each stop now finds an image that may have been left, nothing is dirty on devices that aren't missing, and there is room for generations.
pub record Resumes (shelf : Geometry) (left : Image → Type 0) (now : Conditions) (next : Shelved) (missing : Conditions) : Type 0 where
  pub same : geometry_of next ≡ shelf
  pub bearable : IsBearable shelf missing
  pub clean : (d : Device) → missing d ≡ Sound → (next.disk d).dirty ≡ []
  pub finds : (later : Stop) → MayStop next later → (was : Image) × left was × Finds shelf was now later.image missing
  pub room : (later : Stop) → MayStop next later → HasRoom (geometry_of next) later.image missing

-- A session was stopped: what it left then is what the next one asks for.
abbrev pub StopsChain : Shelved → Type 0
StopsChain next = (shelf : Geometry) (stop : Stop) (now missing : Conditions) (arrays : List Array)
    → IsStanding shelf stop.image now arrays → Resumes shelf (λ was. was ≡ stop.image) now next missing → Enters next missing arrays

-- A session ended, and the next one goes on with its devices, on which missing ones may hold dirty ranges.
abbrev pub EndsChain : Shelved → Shelved → Type 0
EndsChain ended next = (now missing : Conditions) (arrays : List Array)
    → IsLeft ended now arrays
    → Resumes (geometry_of ended) (λ was. (stop : Stop) × MayStop ended stop × (was ≡ stop.image)) now next missing → Enters next missing arrays

-- Where nothing happens in between, a session goes on where one ended.
abbrev pub GoesOnAtOnce : Shelved → Type 0
GoesOnAtOnce shelf = (now : Conditions) (arrays : List Array) → IsLeft shelf now arrays → IsBearable (geometry_of shelf) now
    → ((stop : Stop) → MayStop shelf stop → HasRoom (geometry_of shelf) stop.image now) → Enters shelf now arrays

-- The next session enters with arrays that may stand at the stop.
pub record EntersWith (next : Shelved) (later : Conditions) (P : Array → Type 0) : Type 0 where
  pub arrays : List Array
  pub each : (array : Array) → Contains arrays array → P array
  pub enters : Enters next later arrays

-- At a stop in the opening nothing was taken or given, and the next session enters with the same arrays, as long as what has failed by then is borne.
pub record GoesOnFromOpening (old next : Shelved) (missing : Conditions) (arrays : List Array) (stop : Stop) : Type 0 where
  pub quiet : IsQuietBy old stop
  pub enters : IsBearable (geometry_of old) (failed_by old stop missing)
      → (later : Conditions) → Resumes (geometry_of old) (λ was. was ≡ stop.image) (failed_by old stop missing) next later → Enters next later arrays

-- At a stop after it so many replies were whole, and the next session enters with arrays that may stand there, where the array wasn't halted at the last reply, as long as what is missing is borne.
pub record GoesOnFrom (old new next : Shelved) (input left : List ℕ) (ended : Status) (o : Opening old) (stop : Stop) : Type 0 where
  pub s : Serving true old new input left ended o
  pub at : Replied true (geometry_of old) (new.left_since o.moment) s.first (requests input) stop
  pub enters : at.point.halted ≡ false → IsBearable (geometry_of old) (now_missing at.point stop)
      → (later : Conditions) → Resumes (geometry_of old) (λ was. was ≡ stop.image) (now_missing at.point stop) next later
      → EntersWith next later (IsAfter at.point (drop (length at.replies) (requests input)))

-- A session that was served was stopped at any moment, and the next one finds what it left.
abbrev pub ServedFollows : Shelved → Shelved → Shelved → Type 0
ServedFollows old new next = (input left : List ℕ) (ended : Status) (s : Served old new input left ended)
    → (missing : Conditions) (arrays : List Array) → Enters old missing arrays → (stop : Stop) → new.left_since old.moment stop
    → GoesOnFromOpening old next missing arrays stop ⊎ (IsLater s.opening.stop stop × (IsOpenedBearably old s.opening missing → GoesOnFrom old new next input left ended s.opening stop))

-- One that wasn't opened was stopped, and the next one finds the same arrays.
abbrev pub UnopenedFollows : Shelved → Shelved → Shelved → Type 0
UnopenedFollows old new next = (input left : List ℕ) (ended : Status) (u : Unopened old new input left ended)
    → (missing : Conditions) (arrays : List Array) → Enters old missing arrays → (stop : Stop) → new.left_since old.moment stop
    → IsBearable (geometry_of old) (failed_by old stop missing)
    → (later : Conditions) → Resumes (geometry_of old) (λ was. was ≡ stop.image) (failed_by old stop missing) next later
    → Enters next later arrays

-- Where nothing was done, the devices still stand for the arrays.
abbrev pub NothingDone : Shelved → Type 0
NothingDone shelf = (missing : Conditions) (arrays : List Array) → Enters shelf missing arrays
    → (stop : Stop) → MayStop shelf stop → StandsStill shelf None missing arrays stop

-- Want of memory before anything was done is an end of a session.
abbrev pub MayWantMemory : Shelved → Streamed → Streamed → Type 0
MayWantMemory shelf source sink = Survives shelf shelf source source sink sink status.Memory

-- ---- the replies

-- the replies that the devices fare by are lawful ones
abbrev pub FaresRun : (Stop → Type 0) → Type 0
FaresRun left = (shelf : Geometry) (from to : Point) (items : List Item) (qs : List Answer) → Fares true shelf left from items qs to → Runs from.array items qs to.array

-- What may stand at a stop is what the acknowledged items leave, or one item more.
abbrev pub LeavesAfter : (Stop → Type 0) → Type 0
LeavesAfter left = (shelf : Geometry) (first : Point) (items : List Item) (stop : Stop) (at : Replied true shelf left first items stop) (array : Array)
    → IsAfter at.point (drop (length at.replies) items) array → (n : ℕ) × After first.array items (drop (length first.stop.output) stop.output) n array

-- What a stored record elides stays elided, whatever is answered behind it.
abbrev pub ElidedStays : (Stop → Type 0) → Type 0
ElidedStays left = (told : Bool) (shelf : Geometry) (from to : Point) (items : List Item) (qs : List Answer) → Fares told shelf left from items qs to → StayElided from to

-- ---- claims and their causes

-- A device that the record in force names is named still, or a write or a sync on it failed, and none joins.
abbrev pub ClaimsHaveCauses : (Stop → Type 0) → Type 0
ClaimsHaveCauses left = (told : Bool) (shelf : Geometry) (from to : Point) (items : List Item) (qs : List Answer) → Fares told shelf left from items qs to
    → DropsOnlyLost (has_lost_writes from.stop to.stop) from.boot to.boot

-- An array that isn't halted comes to be so only where more is missing than can be borne.
abbrev pub HaltsHaveCauses : (Stop → Type 0) → Type 0
HaltsHaveCauses left = (told : Bool) (shelf : Geometry) (from to : Point) (items : List Item) (qs : List Answer) → Fares told shelf left from items qs to
    → from.halted ≡ false → to.halted ≡ true → ¬ (IsBearable shelf (now_missing from to.stop))

-- So a session that was opened ends halted only where more was missing at its last reply than can be borne.
abbrev pub HaltedEndsHaveCauses : Shelved → Shelved → Type 0
HaltedEndsHaveCauses old new = (told : Bool) (input left : List ℕ) (o : Opening old) (s : Serving told old new input left status.Halted o) → ¬ (IsBearable (geometry_of old) (now_missing s.first s.last.stop))

-- The other way too: where an array isn't halted, what is missing is borne, and its record names none of it.
abbrev pub AwakeIsBorne : (Stop → Type 0) → Type 0
AwakeIsBorne left = (told : Bool) (shelf : Geometry) (from to : Point) (items : List Item) (qs : List Answer) → Fares told shelf left from items qs to
    → IsBearable shelf (named_sound from.boot) → to.halted ≡ false → IsBorneSince shelf from.stop to

-- So it is at the last reply of each session that was opened, since its entry, however it ends.
abbrev pub AwakeEndsAreBorne : Shelved → Shelved → Type 0
AwakeEndsAreBorne old new = (told : Bool) (input left : List ℕ) (ended : Status) (o : Opening old) (s : Serving told old new input left ended o) → s.last.halted ≡ false → IsBorneSince (geometry_of old) (read_now old) s.last

-- And one over arrays that wasn't opened, where what failed in it is borne, wanted memory.
abbrev pub UnopenedEndsHaveCauses : Shelved → Shelved → Type 0
UnopenedEndsHaveCauses old new = (input left : List ℕ) (ended : Status) → Unopened old new input left ended
    → (missing : Conditions) (arrays : List Array) → Enters old missing arrays → IsBearable (geometry_of old) (failed_since old new missing) → ended ≡ status.Memory

-- A takeover that is done forgets none: each device that was sound, and of which no call failed in it, is sound.
abbrev pub TakeoverKeeps : Type 0
TakeoverKeeps = (shelf : Geometry) (image : Image) (missing after : Conditions) (failed : Device → Bool) (found : Found shelf image) (arrays : List Array)
    → ((d : Device) → IsBytes (image d)) → Stands shelf image missing arrays → IsBearable shelf (losing failed missing)
    → IsTakenOver shelf image found failed after
    → (d : Device) → IsOn shelf d → missing d ≡ Sound → failed d ≡ false → after d ≡ Sound

-- And what could be borne in it can be borne after it.
abbrev pub TakeoverBears : Type 0
TakeoverBears = (shelf : Geometry) (image : Image) (missing after : Conditions) (failed : Device → Bool) (found : Found shelf image) (arrays : List Array)
    → ((d : Device) → IsBytes (image d)) → Stands shelf image missing arrays → IsBearable shelf (losing failed missing)
    → IsTakenOver shelf image found failed after → IsBearable shelf after
