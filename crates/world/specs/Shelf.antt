-- What a shelf of devices means, and what a stop leaves of it.
use Rattle.std.specs.Prelude.{◌≡◌, ◌≢◌, ◌⊎◌, ◌<◌, ◌≤◌, ◌+◌, ◌-◌, ◌^◌, ◌%◌, ℕ, List, [], ◌∷◌, ◌++◌, length, slice_index, slice_range, Result, Ok, Err}
use Rattle.pur_base.specs.declared.device.Device.{Device}
use Rattle.pur_base.specs.declared.device.Device.TheVariants.{Drive, Nv}
use Rattle.pur_base.specs.declared.limits.TheConstants.{SECTOR_BYTES, NVRAM_DEVICES, SLOTS_MIN, SLOTS_MAX, UNITS_MIN, UNITS_MAX}
use Rattle.pur_base.specs.Prelude.{Image, size_of as size_in}
use Rattle.world.specs.declared.streams.Failed.{Failed}
use Rattle.world.specs.declared.shelf.Span.{Span}
use Rattle.world.specs.Counts.{Counts}

-- the index lies in the range
abbrev pub IsIn : Span → ℕ → Type 0
IsIn r i = (r.start ≤ i) × (i < r.start + r.size)

-- the index lies in one of the ranges
abbrev pub IsInSome : List Span → ℕ → Type 0
IsInSome [] i = ⊥
IsInSome (r ∷ rs) i = IsIn r i ⊎ IsInSome rs i

-- one device
pub record Disk : Type 0 where
  -- what a read gives
  pub bytes : List ℕ
  -- what was written since the last sync that answered Ok
  pub dirty : List Span
  -- its calls that failed, and its writes and syncs that failed
  pub faults : ℕ
  pub write_faults : ℕ

-- what a stop leaves, and what had been by then
pub record Stop : Type 0 where
  pub image : Image
  -- the failed calls, and the failed writes and syncs
  pub faults : Device → ℕ
  pub write_faults : Device → ℕ
  -- the output given
  pub output : List ℕ
  -- how many bytes of the input were taken
  pub taken : ℕ

-- the devices, on one clock with the output and the input
pub record Shelved : Type 1 where
  -- it tells what its devices hold
  pub honest : Type 0
  -- its record of calls has a gap, as where a shelf in memory finds no memory for it: never so of real devices
  pub lapsed : Type 0
  pub drives : ℕ
  pub units : ℕ
  pub disk : Device → Disk
  -- the output given so far
  pub output : List ℕ
  -- how many bytes of the input were taken so far
  pub taken : ℕ
  -- a number that doesn't fall
  pub moment : ℕ
  -- what a stop at some moment since that one may have left
  pub left_since : ℕ → Stop → Type 0

-- Each byte outside dirty ranges is as a read gives it, and any value is in each dirty byte.
pub record MayLeave (disk : Disk) (bytes : List ℕ) : Type 0 where
  pub size : length bytes ≡ length disk.bytes
  pub is_byte : (i : ℕ) → slice_index bytes i < 256
  pub clean : (i : ℕ) → (IsInSome disk.dirty i → ⊥) → slice_index bytes i ≡ slice_index disk.bytes i

-- as many calls had failed by then, or more
pub record IsCountedBy (shelf : Shelved) (stop : Stop) : Type 0 where
  pub faults : (d : Device) → (shelf.disk d).faults ≤ stop.faults d
  pub write_faults : (d : Device) → (shelf.disk d).write_faults ≤ stop.write_faults d

-- what a stop now may leave
pub record MayStop (shelf : Shelved) (stop : Stop) : Type 0 where
  pub device : (d : Device) → MayLeave (shelf.disk d) (stop.image d)
  pub counts : IsCountedBy shelf stop
  pub output : stop.output ≡ shelf.output
  pub taken : stop.taken ≡ shelf.taken

-- how many bytes the device has
abbrev pub size_of : Shelved → Device → ℕ
size_of shelf device = size_in (record { slots = shelf.drives; units = shelf.units }) device

-- the shelf has that device
abbrev pub IsOf : Shelved → Device → Type 0
IsOf shelf (Drive d) = d.0 < shelf.drives
IsOf shelf (Nv n) = n.0 < NVRAM_DEVICES

-- a drive is read and written by whole sectors
abbrev pub IsAligned : Device → ℕ → ℕ → Type 0
IsAligned (Drive d) start size = (start % SECTOR_BYTES ≡ 0) × (size % SECTOR_BYTES ≡ 0)
IsAligned (Nv n) start size = Unit {0}

-- the shelf has that device, and the device that range, which may be read and written at once
pub record Has (shelf : Shelved) (device : Device) (start size : ℕ) : Type 0 where
  pub is_there : IsOf shelf device
  pub fits : start + size ≤ size_of shelf device
  pub aligned : IsAligned device start size

-- what is true of every shelf
pub record IsShelf (shelf : Shelved) : Type 0 where
  pub drives : (SLOTS_MIN ≤ shelf.drives) × (shelf.drives ≤ SLOTS_MAX)
  pub units : (UNITS_MIN ≤ shelf.units) × (shelf.units ≤ UNITS_MAX)
  pub sizes : shelf.honest → (d : Device) → IsOf shelf d → length (shelf.disk d).bytes ≡ size_of shelf d
  pub bytes : shelf.honest → (d : Device) (i : ℕ) → slice_index (shelf.disk d).bytes i < 256
  -- counts end there
  pub faults : (d : Device) → (shelf.disk d).faults ≤ 2 ^ 64 - 1
  pub write_faults : (d : Device) → (shelf.disk d).write_faults ≤ 2 ^ 64 - 1
  -- this moment is one of those since an earlier one
  pub counts_now : (t : ℕ) (stop : Stop) → t ≤ shelf.moment → MayStop shelf stop → shelf.left_since t stop
  -- since this moment there is no other
  pub only_now : (stop : Stop) → shelf.left_since shelf.moment stop → MayStop shelf stop

-- these bytes stand from there on, and the others stay
pub record Written (start : ℕ) (bytes old new : List ℕ) : Type 0 where
  pub size : length new ≡ length old
  pub within : slice_range new start (start + length bytes) ≡ bytes
  pub outside : (i : ℕ) → (IsIn (record { start = start; size = length bytes }) i → ⊥) → slice_index new i ≡ slice_index old i

-- a write of n bytes that failed: any bytes in the range
pub record Scribbled (start n : ℕ) (old new : List ℕ) : Type 0 where
  pub size : length new ≡ length old
  pub outside : (i : ℕ) → (IsIn (record { start = start; size = n }) i → ⊥) → slice_index new i ≡ slice_index old i

abbrev pub WrittenIfOk : {T : Type 0} → Result T Failed → ℕ → List ℕ → List ℕ → List ℕ → Type 0
WrittenIfOk (Ok _) start bytes old new = Written start bytes old new
WrittenIfOk (Err _) start bytes old new = Scribbled start (length bytes) old new

-- The range is dirty as well. Only where the record has a gap may a write that failed leave it as it was.
abbrev pub Marked : {T : Type 0} → Result T Failed → Type 0 → Span → List Span → List Span → Type 0
Marked (Ok _) lapsed span old new = new ≡ old ++ span ∷ []
Marked (Err _) lapsed span old new = (new ≡ old ++ span ∷ []) ⊎ (lapsed × (new ≡ old))

abbrev pub CleanIfOk : {T : Type 0} → Result T Failed → List Span → List Span → Type 0
CleanIfOk (Ok _) old new = new ≡ []
CleanIfOk (Err _) old new = new ≡ old

-- the count of faults rises exactly where the read failed
pub record ReadCounts {T : Type 0} (answer : Result T Failed) (old new : Disk) : Type 0 where
  pub faults : Counts answer old.faults new.faults
  pub write_faults : new.write_faults ≡ old.write_faults

-- both counts rise exactly where the write or sync failed
pub record WriteCounts {T : Type 0} (answer : Result T Failed) (old new : Disk) : Type 0 where
  pub faults : Counts answer old.faults new.faults
  pub write_faults : Counts answer old.write_faults new.write_faults

-- a read gives the same, and so does a stop
pub record IsSame (old new : Disk) : Type 0 where
  pub bytes : new.bytes ≡ old.bytes
  pub dirty : new.dirty ≡ old.dirty

-- a write makes its range dirty
pub record WasWritten {T : Type 0} (answer : Result T Failed) (lapsed : Type 0) (start : ℕ) (from : List ℕ) (old new : Disk) : Type 0 where
  pub bytes : WrittenIfOk answer start from old.bytes new.bytes
  pub dirty : Marked answer lapsed (record { start = start; size = length from }) old.dirty new.dirty

-- a sync that answers Ok makes all ranges clean
pub record WasSynced {T : Type 0} (answer : Result T Failed) (old new : Disk) : Type 0 where
  pub bytes : new.bytes ≡ old.bytes
  pub dirty : CleanIfOk answer old.dirty new.dirty

abbrev pub OthersStay : Device → Shelved → Shelved → Type 0
OthersStay device old new = (d : Device) → d ≢ device → new.disk d ≡ old.disk d

abbrev pub IsFrontOf : List ℕ → List ℕ → Type 0
IsFrontOf xs ys = (more : List ℕ) × (ys ≡ xs ++ more)

-- Any number of calls later: the same devices, the output so far with more, and no stop that was possible is forgotten.
pub record Continues (old new : Shelved) : Type 0 where
  pub drives : new.drives ≡ old.drives
  pub units : new.units ≡ old.units
  pub honest : old.honest → new.honest
  pub honest_before : new.honest → old.honest
  pub lapsed : old.lapsed → new.lapsed
  pub output : IsFrontOf old.output new.output
  pub taken : old.taken ≤ new.taken
  pub later : old.moment ≤ new.moment
  -- counts never fall
  pub faults : (d : Device) → (old.disk d).faults ≤ (new.disk d).faults
  pub write_faults : (d : Device) → (old.disk d).write_faults ≤ (new.disk d).write_faults
  pub keeps : (new.lapsed → ⊥) → (t : ℕ) (stop : Stop) → t ≤ old.moment → old.left_since t stop → new.left_since t stop

-- nothing was given or taken in between
pub record IsQuiet (old new : Shelved) : Type 0 where
  pub output : new.output ≡ old.output
  pub taken : new.taken ≡ old.taken

-- nothing was given or taken by then
pub record IsQuietBy (old : Shelved) (stop : Stop) : Type 0 where
  pub output : stop.output ≡ old.output
  pub taken : stop.taken ≡ old.taken

-- One device call later: a stop since t may have left what it may have left before, or what it may leave now.
pub record Elapses (old new : Shelved) : Type 0 where
  pub continues : Continues old new
  pub quiet : IsQuiet old new
  pub nothing_else : (t : ℕ) (stop : Stop) → t ≤ old.moment → new.left_since t stop → old.left_since t stop ⊎ MayStop new stop

-- a stop while output is given: some of it was given by then
pub record MayStopGiving (old new : Shelved) (stop : Stop) : Type 0 where
  pub device : (d : Device) → MayLeave (old.disk d) (stop.image d)
  pub counts : IsCountedBy old stop
  pub from : IsFrontOf old.output stop.output
  pub to : IsFrontOf stop.output new.output
  pub taken : stop.taken ≡ old.taken

-- output is given, and the devices stay
pub record OutputOnly (old new : Shelved) : Type 0 where
  pub continues : Continues old new
  pub disk : (d : Device) → new.disk d ≡ old.disk d
  pub taken : new.taken ≡ old.taken
  pub nothing_else : (t : ℕ) (stop : Stop) → t ≤ old.moment → new.left_since t stop → old.left_since t stop ⊎ MayStopGiving old new stop

-- a stop while input is taken: some of it was taken by then
pub record MayStopTaking (old new : Shelved) (stop : Stop) : Type 0 where
  pub device : (d : Device) → MayLeave (old.disk d) (stop.image d)
  pub counts : IsCountedBy old stop
  pub output : stop.output ≡ old.output
  pub from : old.taken ≤ stop.taken
  pub to : stop.taken ≤ new.taken

-- input is taken, and the devices stay
pub record TakenOnly (old new : Shelved) : Type 0 where
  pub continues : Continues old new
  pub disk : (d : Device) → new.disk d ≡ old.disk d
  pub output : new.output ≡ old.output
  pub nothing_else : (t : ℕ) (stop : Stop) → t ≤ old.moment → new.left_since t stop → old.left_since t stop ⊎ MayStopTaking old new stop

-- A stop at any moment since old leaves what has P.
pub record Leaves (old new : Shelved) (P : Stop → Type 0) : Type 0 where
  pub each : (stop : Stop) → new.left_since old.moment stop → P stop
  -- for a run that began earlier
  pub before : (t : ℕ) (stop : Stop) → t ≤ old.moment → new.left_since t stop → old.left_since t stop ⊎ P stop

-- Nothing was given or taken, and a stop at any moment since old leaves what has P.
pub record LeavesOnly (old new : Shelved) (P : Stop → Type 0) : Type 0 where
  pub quiet : IsQuiet old new
  pub each : (stop : Stop) → new.left_since old.moment stop → IsQuietBy old stop × P stop
  -- for a run that began earlier
  pub before : (t : ℕ) (stop : Stop) → t ≤ old.moment → new.left_since t stop → old.left_since t stop ⊎ (IsQuietBy old stop × P stop)
