-- What a session does to the array that the devices stand for, whatever fails, and wherever it is stopped.
use Rattle.std.specs.Prelude.{◌≡◌, ◌⊎◌, ◌<◌, ◌+◌, ◌-◌, ◌^◌, ℕ, Bool, true, false, List, [], ◌++◌, length, drop, Contains, Option, Some, None, IfSome, ⊤}
use Rattle.std.specs.List.{AllZip}
use Rattle.memory_spec.specs.Prelude.{Device, Status, Geometry, Image, View, Conditions, IsBearable, Array, Item, requests, Command, after_all, Answer, texts, BootRecord, Effective, names, AnyFact, HoldsBase, members_view, AreSound, PatchesStand, all_facts, Contents, FactsRead, next_after_all, acked, AcceptsNext, not_holding, missing_drives, named_sound, PatchIsShown}
use Rattle.pur_base.specs.declared.reply.Status.TheVariants as status
use Rattle.world.specs.Prelude.{Shelved, Stop, IsQuiet, IsQuietBy, Streamed, WritesOnly, geometry_of, has_failed, losing, IsLater}
use Rattle.log_codec.specs.Prelude.{LogStands}
use Rattle.session_spec.specs.Entering.{Enters, IsLeft, IsStanding, Found, IsTakenOver, OnlyFailedAreSilent, StandsStill, read_now, unfailed, failed_by, failed_since}
use Rattle.session_spec.specs.Faring.{Point, IsReached, Fares, MayDoNext, ReadsAt, now_missing, patches_at}
use Rattle.session_spec.specs.Ends.{Ends, IsOutput, IsPartOfNext, RisesIf, is_source, is_sink}

-- ---- the array isn't opened

-- no facts stand as the record's patches, in order and of their tables, that are sound
abbrev pub HasNoTables : Geometry → View → BootRecord → Type 0
HasNoTables shelf members boot = (patches : List (List AnyFact)) → PatchesStand members boot patches → AreSound shelf boot patches → ⊥

-- why a record that is in force isn't read: its generation leaves no room, or its tables can't be read or aren't sound
abbrev pub IsUnread : {shelf : Geometry} → (view : View) → Effective shelf view → Type 0
IsUnread {shelf} view e = (¬ (e.boot.generation < 2 ^ 48 - 8)) ⊎ HasNoTables shelf (members_view view e) e.boot

-- nothing was written: at each moment each device holds what it held
abbrev pub NothingWritten : Shelved → Shelved → Type 0
NothingWritten old new = WritesOnly (λ d i. ⊥) old new

-- What the devices showed gives no lawful record, or one that isn't read. Where it gives none nothing was written.
pub record HasNoArray (old new : Shelved) : Type 0 where
  pub view : View
  pub shown : (d : Device) → (view d ≡ Some (old.disk d).bytes) ⊎ (view d ≡ None)
  pub silent : OnlyFailedAreSilent (has_failed (read_now old) (read_now new)) view
  pub unread : (e : Effective (geometry_of old) view) → IsUnread view e
  pub unwritten : ¬ (Effective (geometry_of old) view) → NothingWritten old new

-- Too few devices are members by the record that was found, hold its body, and didn't fail. Where too few drives did so at once nothing was written.
pub record HasTooFew (old new : Shelved) : Type 0 where
  pub found : Found (geometry_of old) (read_now old).image
  pub silent : OnlyFailedAreSilent (has_failed (read_now old) (read_now new)) found.view
  pub unborne : ¬ (IsBearable (geometry_of old) (losing (has_failed (read_now old) (read_now new)) (not_holding found.effective.slot found.effective.boot found.view)))
  pub unwritten : 2 < missing_drives (geometry_of old) (not_holding found.effective.slot found.effective.boot found.view) → NothingWritten old new

-- why it isn't opened
abbrev pub IsUnopenedBy : Status → Shelved → Shelved → Type 0
IsUnopenedBy status.NoArray old new = HasNoArray old new
IsUnopenedBy status.Halted old new = HasTooFew old new
IsUnopenedBy status.Memory old new = ⊤
IsUnopenedBy _ old new = ⊥

-- What that means for an array for which the devices stand: nothing is lost of it. It's for want of memory, or more failed than is borne.
pub record StaysShut (old new : Shelved) (ended : Status) (found : Option (Found (geometry_of old) (read_now old).image)) (missing : Conditions) (arrays : List Array) : Type 0 where
  pub cause : IsBearable (geometry_of old) (failed_since old new missing) → ended ≡ status.Memory
  pub each : (stop : Stop) → new.left_since old.moment stop → StandsStill old found missing arrays stop
  pub at_end : IsBearable (geometry_of old) (failed_since old new missing) → IsLeft new (failed_since old new missing) arrays

-- the session took nothing and gave nothing
pub record Unopened (old new : Shelved) (input left : List ℕ) (ended : Status) : Type 0 where
  pub by : IsUnopenedBy ended old new
  pub untaken : left ≡ input
  pub quiet : IsQuiet old new
  pub each : (stop : Stop) → new.left_since old.moment stop → IsQuietBy old stop
  -- the record that was found, if one was
  pub found : Option (Found (geometry_of old) (read_now old).image)
  pub silent : IfSome found (λ f. OnlyFailedAreSilent (has_failed (read_now old) (read_now new)) f.view)
  pub shut : (missing : Conditions) (arrays : List Array) → Enters old missing arrays → StaysShut old new ended found missing arrays

-- ---- the array is opened

-- The record is read: its tables are sound, and the log that the members show leads from the array that they hold to that of the point.
-- What segments hold is whatever it is, unless it is told: then the members hold that array.
pub record HoldsLog (told : Bool) (shelf : Geometry) (members : View) (boot : BootRecord) (first : Point) : Type 0 where
  pub not_spent : boot.generation < 2 ^ 48 - 8
  -- no other facts stand as the record's patches
  pub no_other : (there : List (List AnyFact)) → PatchesStand members boot there → there ≡ patches_at first
  pub sound : AreSound shelf boot (patches_at first)
  pub contents : Contents
  pub base : Array
  pub reads : FactsRead contents [] (all_facts (patches_at first)) boot.next.object base
  pub known : told ≡ true → HoldsBase shelf members boot base
  pub log : List Command
  pub log_stands : LogStands members boot.flushed base log
  pub result : first.array ≡ after_all base log
  pub count : first.logged ≡ length log
  pub next : first.memory.next ≡ next_after_all base boot.next log
  -- nothing came in without a command
  pub background : first.background ≡ 0
  pub memory : ReadsAt first
  -- records of its own were stored, one for each drive that failed meanwhile and one more
  pub boot_is : first.boot ≡ record boot { generation = first.boot.generation; members = first.boot.members }
  pub later : boot.generation < first.boot.generation
  pub few : first.boot.generation < boot.generation + 4

-- An opening that is done: the record that was found, and the moment and the stop at which it was done.
pub record Opening (old : Shelved) : Type 0 where
  pub found : Found (geometry_of old) (read_now old).image
  pub moment : ℕ
  pub stop : Stop

-- the takeover is done, with nothing taken or given yet
pub record Opens (told : Bool) (old : Shelved) (left : Stop → Type 0) (o : Opening old) (first : Point) : Type 0 where
  pub holds : HoldsLog told (geometry_of old) (members_view o.found.view o.found.effective) o.found.effective.boot first
  -- each fact is the one that the devices show of which no call failed, whether what they hold is whole or not
  pub shown : AllZip (PatchIsShown (unfailed (has_failed (read_now old) first.stop) (members_view o.found.view o.found.effective))) o.found.effective.boot.patches (patches_at first)
  pub taken_over : IsTakenOver (geometry_of old) (read_now old).image o.found (has_failed (read_now old) first.stop) (named_sound first.boot)
  -- The devices that its record names were named by the record that was found, the count of failed writes and syncs has risen on none of them since, and they are enough.
  pub none_joins : (d : Device) → names first.boot d ≡ true → names o.found.effective.boot d ≡ true
  pub unlost : (d : Device) → names first.boot d ≡ true → first.stop.write_faults d ≡ (read_now old).write_faults d
  pub enough : IsBearable (geometry_of old) (named_sound first.boot)
  pub reached : IsReached left first
  pub quiet : IsQuietBy old first.stop
  pub at : first.stop ≡ o.stop
  pub awake : first.halted ≡ false

-- the replies that were whole at a stop, and a part of the next one
pub record Replied (told : Bool) (shelf : Geometry) (left : Stop → Type 0) (first : Point) (items : List Item) (stop : Stop) : Type 0 where
  pub replies : List Answer
  pub point : Point
  pub run : Fares told shelf left first items replies point
  pub part : List ℕ
  pub is_part : (part ≡ []) ⊎ IsPartOfNext told shelf point stop (drop (length replies) items) part
  pub output : stop.output ≡ first.stop.output ++ texts replies ++ part
  pub count : length replies ≡ acked (drop (length first.stop.output) stop.output)

-- they stand for nothing but arrays that have P
pub record StandsAmong (shelf : Geometry) (image : Image) (missing : Conditions) (P : Array → Type 0) : Type 0 where
  pub arrays : List Array
  pub each : (array : Array) → Contains arrays array → P array
  pub standing : IsStanding shelf image missing arrays

-- the next item may have been done: a logged request that the model accepts, with room for it in an array that isn't halted
pub record IsNext (point : Point) (rest : List Item) (array : Array) : Type 0 where
  pub accepts : AcceptsNext point.array rest array
  pub room : MayDoNext rest point
  pub awake : point.halted ≡ false

-- the array where the last reply was given, or where the next item is done as well
abbrev pub IsAfter : Point → List Item → Array → Type 0
IsAfter point rest array = (array ≡ point.array) ⊎ IsNext point rest array

-- At a stop after the opening, where the array wasn't halted at the last reply, the devices stand for the array of the replies that were whole by then, or of one item more, as long as what is missing is borne.
abbrev pub StandsOn : (told : Bool) (shelf : Geometry) (left : Stop → Type 0) (first : Point) (items : List Item) (stop : Stop) → Replied told shelf left first items stop → Type 0
StandsOn told shelf left first items stop at = at.point.halted ≡ false → IsBearable shelf (now_missing at.point stop)
    → StandsAmong shelf stop.image (now_missing at.point stop) (IsAfter at.point (drop (length at.replies) items))

-- What a session answers that was opened. It asks nothing of the devices; only where what their segments hold is told are the sectors that are read the array's.
pub record Serving (told : Bool) (old new : Shelved) (input left : List ℕ) (ended : Status) (o : Opening old) : Type 0 where
  pub first : Point
  pub opens : Opens told old (new.left_since o.moment) o first
  pub replied : (stop : Stop) → new.left_since o.moment stop → Replied told (geometry_of old) (new.left_since o.moment) first (requests input) stop
  pub replies : List Answer
  pub last : Point
  pub run : Fares told (geometry_of old) (new.left_since o.moment) first (requests input) replies last
  pub output : IsOutput ended told (geometry_of old) last (read_now new) (drop (length replies) (requests input)) old.output new.output replies
  pub ends : Ends ended last.halted input replies left

-- What failed while it was opened can be borne. Else nothing more is said of the data.
abbrev pub IsOpenedBearably : (old : Shelved) → Opening old → Conditions → Type 0
IsOpenedBearably old o missing = IsBearable (geometry_of old) (failed_by old o.stop missing)

-- an item that wasn't answered may be done at the end only where the sink failed
abbrev pub in_hand : Status → List Item → List Item
in_hand status.Sink rest = rest
in_hand _ rest = []

-- at the end they stand for the array where the last reply was given, or for one item more
pub record IsLeftAfter (new : Shelved) (last : Point) (rest : List Item) : Type 0 where
  pub arrays : List Array
  pub each : (array : Array) → Contains arrays array → IsAfter last rest array
  pub left : IsLeft new (now_missing last (read_now new)) arrays

-- What it does to the arrays for which the devices stood. It opened with one of them, and what it answers is that array's, sectors that are read too.
pub record Keeps (old new : Shelved) (input left : List ℕ) (ended : Status) (o : Opening old) (missing : Conditions) (arrays : List Array) : Type 0 where
  pub s : Serving true old new input left ended o
  pub one_of : Contains arrays s.first.array
  pub serving : (stop : Stop) → new.left_since o.moment stop
      → (at : Replied true (geometry_of old) (new.left_since o.moment) s.first (requests input) stop) × StandsOn true (geometry_of old) (new.left_since o.moment) s.first (requests input) stop at
  pub at_end : s.last.halted ≡ false → IsBearable (geometry_of old) (now_missing s.last (read_now new)) → IsLeftAfter new s.last (in_hand ended (drop (length s.replies) (requests input)))

-- a stop in the opening: the devices still stand for the same arrays
pub record IsInOpening (old : Shelved) (o : Opening old) (missing : Conditions) (arrays : List Array) (stop : Stop) : Type 0 where
  pub quiet : IsQuietBy old stop
  pub stands : StandsStill old (Some o.found) missing arrays stop

-- At each stop since the entry, which was in the opening, or at which so many replies were whole. After the opening none is lost that was acknowledged.
-- What failed later takes back nothing: a stop by which a call hadn't failed that had by the end of the opening was in it.
pub record Outlasts (old new : Shelved) (input left : List ℕ) (ended : Status) (o : Opening old) (missing : Conditions) (arrays : List Array) : Type 0 where
  pub keeps : IsOpenedBearably old o missing → Keeps old new input left ended o missing arrays
  pub each : (stop : Stop) → new.left_since old.moment stop → IsInOpening old o missing arrays stop
      ⊎ (IsLater o.stop stop × ((borne : IsOpenedBearably old o missing) → (at : Replied true (geometry_of old) (new.left_since o.moment) (keeps borne).s.first (requests input) stop)
      × StandsOn true (geometry_of old) (new.left_since o.moment) (keeps borne).s.first (requests input) stop at))

-- what a session answers, and what it does to the arrays
pub record Served (old new : Shelved) (input left : List ℕ) (ended : Status) : Type 0 where
  pub opening : Opening old
  pub serving : Serving false old new input left ended opening
  -- each stop was in the opening, or so many replies were whole at it
  pub stops : (stop : Stop) → new.left_since old.moment stop → IsQuietBy old stop ⊎ Replied false (geometry_of old) (new.left_since opening.moment) serving.first (requests input) stop
  pub outlasts : (missing : Conditions) (arrays : List Array) → Enters old missing arrays → Outlasts old new input left ended opening missing arrays

-- The headline: of a session over honest devices, from a source and to a sink that tell their bytes.
pub record Survives (old new : Shelved) (source source_left sink sink_given : Streamed) (ended : Status) : Type 0 where
  -- a source or a sink that failed ends it, and nothing else counts so
  pub source_counts : RisesIf (is_source ended) source.faults source_left.faults
  pub sink_counts : RisesIf (is_sink ended) sink.faults sink_given.faults
  -- where the record of calls has no gap
  pub session : ¬ new.lapsed → Unopened old new source.bytes source_left.bytes ended ⊎ Served old new source.bytes source_left.bytes ended
