-- How the array and its devices fare while requests are served: at each reply what was answered and why, and which devices are missing.
use Rattle.std.specs.Prelude.{◌≡◌, ◌⊎◌, ◌||◌, ◌+◌, ◌*◌, ◌<◌, ◌≤◌, ℕ, Bool, true, false, nat_le, nat_lt, not, List, [], ◌∷◌, ◌++◌, length, Option, Some, None, Contains}
use Rattle.memory_spec.specs.Prelude.{Device, Request, Table, Refusal, Geometry, Conditions, IsBearable, drive, Array, refusal, done, Item, Asked, Syntax, Cut, Answer, Line, Sectors, refused, given, text, is_elided, segment, segments, SegmentFact, Place, SECTOR_BYTES, AnyFact, patch_segments, Patch, BootRecord, AreSound, all_facts, Contents, FactsRead, Layers, Memory, ReadsAs, patches, are_used_up, is_used_up, next_after, AreJoined, HaveShrunk, has_pair, pair_segments, place_in, IsNamed, names, named_sound, is_removal, Reply, IsWhole}
use Rattle.pur_base.specs.declared.request.Request.TheVariants as request
use Rattle.pur_base.specs.declared.reply.Refusal.TheVariants as refusals
use Rattle.pur_base.specs.declared.reply.Reply.TheVariants as reply
use Rattle.std.specs.List.{AllByRecursion, AllZip}
use Rattle.world.specs.Prelude.{Stop, has_failed, has_lost_writes, losing, IsLater}
use Rattle.log_codec.specs.declared.limits.TheConstants.{LOG_SLOTS}
use Rattle.command_spec.specs.Prelude.{FlattensTo, FrontFits, FrontPasses, IsMediumOf}
use Rattle.session_spec.specs.Checkpointing.{ElidesUnnamed, ElidesUnreached, FactsGoOn, HaveOneMore, HoldAddressed}
use Rattle.session_spec.specs.Numbers.{HasGroups, status_numbers}
use Rattle.session_spec.specs.declared.limits.TheConstants.{ADDING_GROUPS, CHECKPOINT_GROUPS, DATA_SEGMENTS, FLATTEN_GROUPS, LIMITED_SEGMENTS, MERGE_GROUPS, NEW_PATCHES, SEGMENTS_END}

-- where a reply has just been given
pub record Point : Type 0 where
  pub array : Array
  -- how many slots of the log are taken
  pub logged : ℕ
  -- the record in force
  pub boot : BootRecord
  -- what is kept in memory, but for its room: the facts of the patches that the record names, and behind them those that aren't flushed, staged sectors, and the numbers that are given next
  pub memory : Memory
  -- how many facts came into it without a command since the last checkpoint
  pub background : ℕ
  -- more went missing in an item than is borne: nothing but that is answered from then on
  pub halted : Bool
  -- what a stop may leave then
  pub stop : Stop

-- the same layers, with no room told
abbrev pub without_room : {F : Type 0} → Layers F → Layers F
without_room l = record l { room = 0; patch_room = 0 }

-- memory as a point has it
abbrev pub told_of : Memory → Memory
told_of m = record m {
  tables = record {
    objects = without_room m.tables.objects;
    mediums = without_room m.tables.mediums;
    addresses = without_room m.tables.addresses;
    segments = without_room m.tables.segments;
    elisions = without_room m.tables.elisions;
  };
}

-- the facts of the patches that the record names
abbrev pub patches_at : Point → List (List AnyFact)
patches_at point = patches point.memory.tables

-- memory is sound, and reads as the array
abbrev pub ReadsAt : Point → Type 0
ReadsAt point = (contents : Contents) × ReadsAs contents point.memory point.array

-- a stop may have left this, and each stop that leaves as much output has the counts of failed calls that were reached by then
pub record IsReached (left : Stop → Type 0) (point : Point) : Type 0 where
  pub may : left point.stop
  pub first : (stop : Stop) → left stop → length point.stop.output ≤ length stop.output → IsLater point.stop stop

-- ---- answers and their causes

-- nothing has changed
pub record IsAsBefore (from to : Point) : Type 0 where
  pub array : to.array ≡ from.array
  pub logged : to.logged ≡ from.logged
  pub boot : to.boot ≡ from.boot
  pub memory : to.memory ≡ from.memory
  pub background : to.background ≡ from.background

-- the record in force doesn't name the drive, or a call on it failed
abbrev pub IsGone : (Device → Bool) → Point → ℕ → Type 0
IsGone failed from i = (names from.boot (drive i) ≡ false) ⊎ (failed (drive i) ≡ true)

-- a refusal that leaves everything as it was
pub record IsRefused (why : Refusal) (from : Point) (q : Answer) (to : Point) : Type 0 where
  pub reply : q ≡ refused why
  pub stays : IsAsBefore from to
  pub halted : to.halted ≡ from.halted

-- The record stays, but where a write or a sync failed: then one was stored without that device, and again without each drive that failed meanwhile.
abbrev pub MayRise : (Device → Bool) → BootRecord → BootRecord → Type 0
MayRise lost before now = (now ≡ before) ⊎ ((d : Device) × (lost d ≡ true) × (before.generation < now.generation) × (now.generation < before.generation + 4)
    × (now ≡ record before { generation = now.generation; members = now.members }))

-- Of two records that follow on each other: the later one names no device that the other doesn't name, and on each one that it names no more a write or a sync failed.
pub record DropsOnlyLost (lost : Device → Bool) (before now : BootRecord) : Type 0 where
  pub leaves : (d : Device) → names before d ≡ true → (names now d ≡ true) ⊎ (lost d ≡ true)
  pub joins : (d : Device) → names now d ≡ true → names before d ≡ true

-- the model's own answer to a logged request, with its effect: a slot of the log is taken for it
pub record IsDone (lost : Device → Bool) (from : Point) (r : Request) (sectors : List (List ℕ)) (q : Answer) (to : Point) : Type 0 where
  pub reply : q ≡ given from.array r
  pub array : to.array ≡ done from.array r sectors
  pub logged : to.logged ≡ from.logged + 1
  pub boot : MayRise lost from.boot to.boot
  pub members : DropsOnlyLost lost from.boot to.boot
  pub patches : patches_at to ≡ patches_at from
  pub next : to.memory.next ≡ next_after from.array from.memory.next r
  pub background : to.background ≡ from.background
  pub halted : to.halted ≡ from.halted

-- as many whole sectors are given as were asked for: the model's, where what the segments hold is told
pub record IsRead (told : Bool) (from : Point) (n : List ℕ) (lba count : ℕ) (q : Answer) (to : Point) : Type 0 where
  pub sectors : List (List ℕ)
  pub reply : q ≡ Sectors sectors
  pub count_is : length sectors ≡ count
  pub whole : AllByRecursion (λ sector. length sector ≡ SECTOR_BYTES) sectors
  pub known : told ≡ true → q ≡ given from.array (request.Read n lba count)
  pub stays : IsAsBefore from to
  pub halted : to.halted ≡ from.halted

-- Three drives that hold units of one segment, which the record's patches show, are each left out by the record, or failed a call meanwhile: too little is left of its stripes.
pub record LosesThree (shelf : Geometry) (failed : Device → Bool) (from : Point) : Type 0 where
  pub id : ℕ
  pub which : SegmentFact
  pub there : segment (all_facts (patches_at from)) id ≡ Some which
  pub first : Place
  pub second : Place
  pub third : Place
  pub hold : Contains which.places first × Contains which.places second × Contains which.places third
  pub in_order : (first.slot < second.slot) × (second.slot < third.slot) × (third.slot < shelf.slots)
  pub are : IsGone failed from first.slot × IsGone failed from second.slot × IsGone failed from third.slot

-- then `no device` is answered to the read, and nothing changes
pub record IsLost (shelf : Geometry) (failed : Device → Bool) (from : Point) (q : Answer) (to : Point) : Type 0 where
  pub three : LosesThree shelf failed from
  pub refused_so : IsRefused refusals.Device from q to

-- the model's own answer to a request that asks for nothing but names
pub record IsListed (from : Point) (q : Answer) (to : Point) : Type 0 where
  pub reply : q ≡ given from.array request.List
  pub stays : IsAsBefore from to
  pub halted : to.halted ≡ from.halted

-- With those on which a write or a sync failed in this request more devices are missing, beside those that the record in force doesn't name, than can be borne: `no device`, and the array is halted.
pub record IsFailed (shelf : Geometry) (lost : Device → Bool) (from : Point) (q : Answer) (to : Point) : Type 0 where
  pub unborne : ¬ (IsBearable shelf (losing lost (named_sound from.boot)))
  pub reply : q ≡ refused refusals.Device
  pub stays : IsAsBefore from to
  pub halted : to.halted ≡ true

-- the one where it's so, and else the other
abbrev pub Where : Bool → Type 0 → Type 0 → Type 0
Where true one other = one
Where false one other = other

-- the patches have so many segments, or more
abbrev pub has_segments : ℕ → Point → Bool
has_segments limit point = nat_le limit (patch_segments point.boot.patches)

-- too few generations, numbers of commands, or ids and sequence numbers are left
abbrev pub is_spent : Point → Bool
is_spent point = is_used_up point.boot.generation || is_used_up point.boot.flushed || are_used_up point.memory.next

-- no slot of the log is free
abbrev pub is_full : Point → Bool
is_full point = nat_le LOG_SLOTS point.logged

-- The answers `no limit`, `no spent` and `no space`, each exactly where it's so, and in that order: the patches have as many segments as that or more, too few numbers are left, or there are free units for fewer segments than that.
abbrev pub WithRoom : ℕ → ℕ → Point → Answer → Point → Type 0 → Type 0
WithRoom limit floor from q to some = Where (has_segments limit from) (IsRefused refusals.Limit from q to) (Where (is_spent from) (IsRefused refusals.Spent from q to)
    ((groups : ℕ) × HasGroups from.boot (patches_at from) groups × Where (nat_lt groups floor) (IsRefused refusals.Space from q to) some))

-- A checkpoint was made: it is the same array, with nothing in the log, and nothing else has changed but the record, the facts of its patches and the next numbers.
-- Of the mediums that no object reaches the first ones were elided, each by two facts, and then of the data segments that no address names, each by a fact of its own: their units are free then. Each sector of the new ones is named by an address of its own.
-- Three stores wrote three records each at most. The record names the old patches and one more of a table at most, which are sound and read as the array; few segments were given to data and to patches.
pub record IsCheckpointed (shelf : Geometry) (from to : Point) : Type 0 where
  pub same : to ≡ record from { logged = 0; boot = to.boot; memory = to.memory; background = 0 }
  pub rises : from.boot.generation < to.boot.generation
  pub few : to.boot.generation ≤ from.boot.generation + 9
  pub boot : to.boot ≡ record from.boot {
    generation = to.boot.generation;
    members = to.boot.members;
    patches = to.boot.patches;
    next = to.memory.next;
    flushed = from.boot.flushed + from.logged;
  }
  pub data_segments : ℕ
  pub new_segments : ℕ
  pub few_data : data_segments ≤ DATA_SEGMENTS
  pub few_new : new_segments ≤ NEW_PATCHES
  -- the ids of mediums and segments that were elided
  pub mediums : List ℕ
  pub elides_mediums : ElidesUnreached (all_facts (patches_at from)) (all_facts (patches_at to)) from.memory.next mediums
  pub elided : List ℕ
  pub elides : ElidesUnnamed (all_facts (patches_at from)) (all_facts (patches_at to)) from.memory.next.segment elided
  pub next : to.memory.next ≡ record from.memory.next {
    segment = from.memory.next.segment + data_segments;
    sequence = from.memory.next.sequence + (2 * length mediums + length elided) + data_segments;
    patch_segment = from.memory.next.patch_segment + new_segments;
  }
  pub placed : HoldAddressed (all_facts (patches_at to)) from.memory.next.segment data_segments
  pub patch_segments_are : patch_segments to.boot.patches ≡ patch_segments from.boot.patches + new_segments
  pub one_more : HaveOneMore from.boot.patches to.boot.patches
  pub go_on : FactsGoOn (all_facts (patches_at from)) (all_facts (patches_at to))
  -- nothing is staged, and no fact stands beside the patches
  pub whole : IsWhole to.memory
  pub named : AllZip IsNamed to.boot.patches (patches_at to)
  pub sound : AreSound shelf to.boot (patches_at to)
  pub contents : Contents
  pub reads : FactsRead contents [] (all_facts (patches_at to)) to.memory.next.object to.array

-- a slot is free: the request is done, or more devices failed than can be borne
abbrev pub IsAppended : Geometry → (Device → Bool) → Point → Request → List (List ℕ) → Answer → Point → Type 0
IsAppended shelf lost from r sectors q to = IsDone lost from r sectors q to ⊎ IsFailed shelf lost from q to

-- No slot is free: a checkpoint is made, and then the request is done, or memory is wanted for the checkpoint, or more devices failed than can be borne, in it or after it.
abbrev pub IsAppendedBehind : Geometry → (Device → Bool) → Point → Request → List (List ℕ) → Answer → Point → Type 0
IsAppendedBehind shelf lost from r sectors q to =
    ((mid : Point) × IsCheckpointed shelf from mid × DropsOnlyLost lost from.boot mid.boot × IsDone lost mid r sectors q to) ⊎ IsRefused refusals.Memory from q to ⊎ IsFailed shelf lost from q to

-- The answers for want of room to a logged request, in the same order. One that adds nothing takes no room where a slot of the log is free, only a number, and what a checkpoint takes where none is.
abbrev pub WithRoomFor : Request → Point → Answer → Point → Type 0 → Type 0
WithRoomFor r from q to some = Where (is_removal r)
    (Where (is_full from) (WithRoom SEGMENTS_END CHECKPOINT_GROUPS from q to some) (Where (is_spent from) (IsRefused refusals.Spent from q to) some))
    (WithRoom LIMITED_SEGMENTS ADDING_GROUPS from q to some)

-- a logged request, where there is room for it
abbrev pub IsLogged : Geometry → (Device → Bool) → Point → Request → List (List ℕ) → Answer → Point → Type 0
IsLogged shelf lost from r sectors q to = WithRoomFor r from q to (Where (is_full from) (IsAppendedBehind shelf lost from r sectors q to) (IsAppended shelf lost from r sectors q to))

-- a checkpoint that was asked for is made
pub record IsFlushed (shelf : Geometry) (lost : Device → Bool) (from : Point) (q : Answer) (to : Point) : Type 0 where
  pub reply : q ≡ Line reply.Done
  pub mid : Point
  pub made : IsCheckpointed shelf from mid
  pub members : DropsOnlyLost lost from.boot mid.boot
  pub stays : IsAsBefore mid to
  pub halted : to.halted ≡ from.halted

-- A checkpoint, where there is room for it: it is made, or memory is wanted for it, or more devices failed than can be borne.
abbrev pub IsFlushing : Geometry → (Device → Bool) → Point → Answer → Point → Type 0
IsFlushing shelf lost from q to = WithRoom SEGMENTS_END CHECKPOINT_GROUPS from q to (IsFlushed shelf lost from q to ⊎ IsRefused refusals.Memory from q to ⊎ IsFailed shelf lost from q to)

-- Two patches of a table were merged: it is the same array, with the same log, and nothing else has changed but the record, the facts of its patches and the ids that their segments get next.
-- One patch, or none where no fact is left, stands in the place of the two. What the facts say is the same, and they are sound if they were. Two stores wrote three records each at most.
pub record IsMerged (shelf : Geometry) (t : Table) (i : ℕ) (from to : Point) : Type 0 where
  pub same : to ≡ record from { boot = to.boot; memory = to.memory }
  pub rises : from.boot.generation < to.boot.generation
  pub few : to.boot.generation ≤ from.boot.generation + 6
  -- how many segments the one patch has
  pub new_segments : ℕ
  pub boot : to.boot ≡ record from.boot {
    generation = to.boot.generation;
    members = to.boot.members;
    patches = to.boot.patches;
    next = record from.boot.next { patch_segment = from.boot.next.patch_segment + new_segments };
  }
  pub next : to.memory.next ≡ record from.memory.next { patch_segment = from.memory.next.patch_segment + new_segments }
  pub joined : List Patch
  pub joined_named : AreJoined (place_in t i from.boot.patches) from.boot.patches joined to.boot.patches
  pub facts : List (List AnyFact)
  pub joined_facts : AreJoined (place_in t i from.boot.patches) (patches_at from) facts (patches_at to)
  pub few_new : new_segments ≤ pair_segments t i from.boot.patches
  pub patch_segments_are : patch_segments to.boot.patches + pair_segments t i from.boot.patches ≡ patch_segments from.boot.patches + new_segments
  pub named : AllZip IsNamed to.boot.patches (patches_at to)
  pub says : HaveShrunk (all_facts (patches_at from)) (all_facts (patches_at to))
  pub sound : AreSound shelf from.boot (patches_at from) → AreSound shelf to.boot (patches_at to)

-- a merge that was asked for is made
pub record IsMergeDone (shelf : Geometry) (lost : Device → Bool) (t : Table) (i : ℕ) (from : Point) (q : Answer) (to : Point) : Type 0 where
  pub reply : q ≡ Line reply.Done
  pub mid : Point
  pub made : IsMerged shelf t i from mid
  pub members : DropsOnlyLost lost from.boot mid.boot
  pub stays : IsAsBefore mid to
  pub halted : to.halted ≡ from.halted

-- The answers `no spent`, `no nothing-there` and `no space`, each exactly where it's so, and in that order: too few numbers are left, the table has no patch of that index or none behind it,
-- or there are free units for fewer segments than the two have and twelve more.
abbrev pub WithPair : Table → ℕ → Point → Answer → Point → Type 0 → Type 0
WithPair t i from q to some = Where (is_spent from) (IsRefused refusals.Spent from q to) (Where (not (has_pair t i from.boot.patches)) (IsRefused refusals.NothingThere from q to)
    ((groups : ℕ) × HasGroups from.boot (patches_at from) groups × Where (nat_lt groups (MERGE_GROUPS + pair_segments t i from.boot.patches)) (IsRefused refusals.Space from q to) some))

-- A merge of the patch of that index of a table and the next one, where they are there and there is room for it: it is made, or memory is wanted for it, or more devices failed than can be borne.
abbrev pub IsMerging : Geometry → (Device → Bool) → Point → Table → ℕ → Answer → Point → Type 0
IsMerging shelf lost from t i q to = WithPair t i from q to (IsMergeDone shelf lost t i from q to ⊎ IsRefused refusals.Memory from q to ⊎ IsFailed shelf lost from q to)

-- A checkpoint comes before a flattening exactly where the facts that came in without a command would be more than may come with those of the front.
abbrev pub IsClearedFor : Geometry → ℕ → Point → Point → Type 0
IsClearedFor shelf medium from mid =
    (FrontFits medium from.memory from.background × (mid ≡ from)) ⊎ (FrontPasses medium from.memory from.background × IsCheckpointed shelf from mid)

-- A flattening of an object's medium is done, as its reply says: the front of the lowest range is taken in, where there is a range, and nothing but memory has changed since the checkpoint, if one came first.
pub record IsFlattened (shelf : Geometry) (lost : Device → Bool) (n : List ℕ) (from : Point) (q : Answer) (to : Point) : Type 0 where
  pub medium : ℕ
  pub of_name : IsMediumOf from.memory n medium
  pub cleared : Point
  pub first : IsClearedFor shelf medium from cleared
  pub said : Reply
  pub reply : q ≡ Line said
  pub mid : Point
  pub flat : FlattensTo said medium cleared.memory mid.memory cleared.background mid.background
  pub patches : patches_at mid ≡ patches_at cleared
  pub same : mid ≡ record cleared { memory = mid.memory; background = mid.background }
  pub members : DropsOnlyLost lost from.boot mid.boot
  pub stays : IsAsBefore mid to
  pub halted : to.halted ≡ from.halted

-- a checkpoint has to come first
abbrev pub MustClear : List ℕ → Point → Type 0
MustClear n from = (medium : ℕ) × IsMediumOf from.memory n medium × FrontPasses medium from.memory from.background

-- A flattening, where there is room for it: it is done, or where a checkpoint has to come first memory is wanted for that, or more devices failed in it than can be borne.
abbrev pub IsFlattening : Geometry → (Device → Bool) → Point → List ℕ → Answer → Point → Type 0
IsFlattening shelf lost from n q to = WithRoom LIMITED_SEGMENTS FLATTEN_GROUPS from q to
    (IsFlattened shelf lost n from q to ⊎ (MustClear n from × (IsRefused refusals.Memory from q to ⊎ IsFailed shelf lost from q to)))

-- the data segments that the record's patches show
abbrev pub data_segments_at : Point → List SegmentFact
data_segments_at point = segments (all_facts (patches_at point)) point.memory.next.segment

-- the numbers of a status, where there are free units for so many more segments
abbrev pub numbers_at : Point → ℕ → List ℕ
numbers_at point groups = status_numbers point.boot (all_facts (patches_at point)) point.memory.next.segment (length point.array) point.logged groups

-- the numbers are given, and nothing changes
pub record IsStatus (from : Point) (q : Answer) (to : Point) : Type 0 where
  pub groups : ℕ
  pub left : HasGroups from.boot (patches_at from) groups
  pub reply : q ≡ Line (reply.Numbers (numbers_at from groups))
  pub stays : IsAsBefore from to
  pub halted : to.halted ≡ from.halted

-- the patches have fewer segments than the limit, numbers are left, and there are free units for as many segments as the floor
pub record MayTake (limit floor : ℕ) (point : Point) : Type 0 where
  pub unlimited : has_segments limit point ≡ false
  pub unspent : is_spent point ≡ false
  pub groups : ℕ
  pub left : HasGroups point.boot (patches_at point) groups
  pub enough : floor ≤ groups

-- what is asked of a point where a request that adds nothing may be done
pub record MayRemove (point : Point) : Type 0 where
  pub unspent : is_spent point ≡ false
  pub behind : is_full point ≡ true → MayTake SEGMENTS_END CHECKPOINT_GROUPS point

-- and where a logged request may be done
abbrev pub MayDo : Request → Point → Type 0
MayDo r point = Where (is_removal r) (MayRemove point) (MayTake LIMITED_SEGMENTS ADDING_GROUPS point)

-- or the next item, which is one
abbrev pub MayDoNext : List Item → Point → Type 0
MayDoNext (Asked r sectors ∷ items) point = MayDo r point
MayDoNext _ point = ⊥

-- How a request is answered that the model accepts, while the array isn't halted.
abbrev pub AnswersAccepted : Bool → Geometry → (Device → Bool) → (Device → Bool) → Point → Request → List (List ℕ) → Answer → Point → Type 0
AnswersAccepted told shelf failed lost from (request.Create n size) sectors q to = IsLogged shelf lost from (request.Create n size) sectors q to
AnswersAccepted told shelf failed lost from (request.Write n lba count) sectors q to = IsLogged shelf lost from (request.Write n lba count) sectors q to
AnswersAccepted told shelf failed lost from (request.Fill n lba count byte) sectors q to = IsLogged shelf lost from (request.Fill n lba count byte) sectors q to
AnswersAccepted told shelf failed lost from (request.Zero n lba count) sectors q to = IsLogged shelf lost from (request.Zero n lba count) sectors q to
AnswersAccepted told shelf failed lost from (request.Snapshot n new) sectors q to = IsLogged shelf lost from (request.Snapshot n new) sectors q to
AnswersAccepted told shelf failed lost from (request.Clone n new) sectors q to = IsLogged shelf lost from (request.Clone n new) sectors q to
AnswersAccepted told shelf failed lost from (request.Copy n lba m at count) sectors q to = IsLogged shelf lost from (request.Copy n lba m at count) sectors q to
AnswersAccepted told shelf failed lost from (request.Destroy n) sectors q to = IsLogged shelf lost from (request.Destroy n) sectors q to
AnswersAccepted told shelf failed lost from (request.Read n lba count) sectors q to = IsRead told from n lba count q to ⊎ IsLost shelf failed from q to
AnswersAccepted told shelf failed lost from request.List sectors q to = IsListed from q to
AnswersAccepted told shelf failed lost from request.Status sectors q to = IsStatus from q to
AnswersAccepted told shelf failed lost from request.Checkpoint sectors q to = IsFlushing shelf lost from q to
AnswersAccepted told shelf failed lost from (request.Merge t i) sectors q to = IsMerging shelf lost from t i q to
AnswersAccepted told shelf failed lost from (request.Flatten n) sectors q to = IsFlattening shelf lost from n q to
-- no item asks for a form that isn't in force
AnswersAccepted told shelf failed lost from _ sectors q to = ⊥

-- the causes in their order: a halted array, the model's refusal, and then the devices
abbrev pub AnswersRequest : Bool → Option Refusal → Bool → Geometry → (Device → Bool) → (Device → Bool) → Point → Request → List (List ℕ) → Answer → Point → Type 0
AnswersRequest true why told shelf failed lost from r sectors q to = IsRefused refusals.Halted from q to
AnswersRequest false (Some why) told shelf failed lost from r sectors q to = IsRefused why from q to
AnswersRequest false None told shelf failed lost from r sectors q to = AnswersAccepted told shelf failed lost from r sectors q to

-- How an item is answered, where calls on the first devices failed meanwhile, and writes and syncs on the second. Whether what the segments hold is told decides of sectors that are read.
abbrev pub Answers : Bool → Geometry → (Device → Bool) → (Device → Bool) → Point → Item → Answer → Point → Type 0
Answers told shelf failed lost from (Asked r sectors) q to = AnswersRequest from.halted (refusal from.array r) told shelf failed lost from r sectors q to
Answers told shelf failed lost from Syntax q to = IsRefused refusals.Syntax from q to
Answers told shelf failed lost from Cut q to = IsRefused refusals.Cut from q to

-- ids that the one record's patches elide the other one's elide too, so that no fact of them is visible again
abbrev pub StayElided : Point → Point → Type 0
StayElided from to = (t : Table) (id : ℕ) → is_elided (all_facts (patches_at from)).elisions t id ≡ true → is_elided (all_facts (patches_at to)).elisions t id ≡ true

-- ---- runs

-- Since that stop no write or sync failed on a device that the record in force names, and it leaves out no more devices than is borne.
pub record IsBorneSince (shelf : Geometry) (before : Stop) (point : Point) : Type 0 where
  pub named : (d : Device) → names point.boot d ≡ true → point.stop.write_faults d ≡ before.write_faults d
  pub borne : IsBearable shelf (named_sound point.boot)

-- One item is answered. Either the array is halted then, or what is missing is borne, and the record in force names none of it.
pub record Serves (told : Bool) (shelf : Geometry) (left : Stop → Type 0) (from : Point) (item : Item) (q : Answer) (to : Point) : Type 0 where
  pub answers : Answers told shelf (has_failed from.stop to.stop) (has_lost_writes from.stop to.stop) from item q to
  pub reached : IsReached left to
  pub output : to.stop.output ≡ from.stop.output ++ text q
  pub later : IsLater from.stop to.stop
  pub kept : to.halted ≡ false → IsBorneSince shelf from.stop to
  pub reads : to.halted ≡ false → ReadsAt to

-- the items are answered, one after the other
abbrev pub Fares : Bool → Geometry → (Stop → Type 0) → Point → List Item → List Answer → Point → Type 0
Fares told shelf left from items [] to = to ≡ from
Fares told shelf left from [] (q ∷ qs) to = ⊥
Fares told shelf left from (item ∷ items) (q ∷ qs) to = (mid : Point) × Serves told shelf left from item q mid × Fares told shelf left mid items qs to

-- Which devices are missing at a stop after that reply: those that the record in force doesn't name, and those on which a write or a sync failed since.
abbrev pub now_missing : Point → Stop → Conditions
now_missing point stop = losing (has_lost_writes point.stop stop) (named_sound point.boot)
