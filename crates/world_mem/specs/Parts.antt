-- A device in memory, and what undoes a call on it.
use Rattle.std.specs.Prelude.{◌≡◌, ◌⊎◌, ℕ, ◌+◌, ◌-◌, ◌≤◌, List, [], ◌∷◌, ◌++◌, length, take, drop, map, slice_index, slice_index_or, slice_set, Bool, false, ◌||◌, ◌^◌, min, nat_eq}
use Rattle.std.specs.List.{list_any}
use Rattle.world.specs.Prelude.{Disk, MayLeave, Device}
use Rattle.world_mem.specs.declared.record.Call.{Call}
use Rattle.world_mem.specs.declared.record.Call.TheVariants.{On}
use Rattle.world_mem.specs.declared.record.What.{What}
use Rattle.world_mem.specs.declared.record.What.TheVariants.{Read, Write, Sync, FailedRead, FailedWrite, FailedSync}
use Rattle.world_mem.specs.declared.part.Part.{Part}
use Rattle.world_mem.specs.declared.turns.Turns.{Turns}

-- what the shelf tells of a device
abbrev pub disk_of : Part → Disk
disk_of p = record { bytes = p.bytes.items; dirty = p.dirty.items; faults = p.faults; write_faults = p.write_faults }

abbrev pub disks_of : List Part → List Disk
disks_of parts = map disk_of parts

-- no device
abbrev pub nothing : Disk
nothing = record { bytes = []; dirty = []; faults = 0; write_faults = 0 }

abbrev pub disk_at : List Disk → ℕ → Disk
disk_at disks k = slice_index_or disks k nothing

abbrev pub bytes_at : List Part → ℕ → List ℕ
bytes_at parts k = (disk_at (disks_of parts) k).bytes

-- the disk before the call
abbrev pub undo_what : What → Disk → Disk
undo_what Read d = d
undo_what (Write at was) d =
    record { bytes = take at d.bytes ++ was.items ++ drop (at + length was.items) d.bytes; dirty = take (length d.dirty - 1) d.dirty; faults = d.faults; write_faults = d.write_faults }
undo_what (Sync dirty) d = record { bytes = d.bytes; dirty = dirty.items; faults = d.faults; write_faults = d.write_faults }
undo_what (FailedRead before) d = record { bytes = d.bytes; dirty = d.dirty; faults = before.faults; write_faults = before.write_faults }
undo_what (FailedWrite before) d = record { bytes = d.bytes; dirty = take (length d.dirty - 1) d.dirty; faults = before.faults; write_faults = before.write_faults }
undo_what (FailedSync before) d = record { bytes = d.bytes; dirty = d.dirty; faults = before.faults; write_faults = before.write_faults }

-- only counts changed, and none fell
pub record OnlyCounted (old new : Disk) : Type 0 where
  pub bytes : new.bytes ≡ old.bytes
  pub dirty : new.dirty ≡ old.dirty
  pub faults : old.faults ≤ new.faults
  pub write_faults : old.write_faults ≤ new.write_faults

abbrev pub AllCounted : List Disk → List Disk → Type 0
AllCounted [] [] = Unit {0}
AllCounted [] (new ∷ more) = ⊥
AllCounted (old ∷ olds) [] = ⊥
AllCounted (old ∷ olds) (new ∷ more) = OnlyCounted old new × AllCounted olds more

-- One call more is recorded, which undone gives what was before. Where the record has a gap, only counts may have changed.
abbrev pub Logged : Device → Type 0 → Disk → Disk → List Call → List Call → Type 0
Logged device lapsed old new calls after = ((what : What) × (after ≡ calls ++ On device what ∷ []) × (undo_what what new ≡ old)) ⊎ (lapsed × (after ≡ calls) × OnlyCounted old new)

-- that disk before the call
abbrev pub changed : What → List Disk → ℕ → List Disk
changed what disks k = slice_set disks k (undo_what what (disk_at disks k))

-- the same of one of several devices
abbrev pub LoggedIn : Device → ℕ → Type 0 → List Disk → List Disk → List Call → List Call → Type 0
LoggedIn device k lapsed old new calls after = ((what : What) × (after ≡ calls ++ On device what ∷ []) × (changed what new k ≡ old)) ⊎ (lapsed × (after ≡ calls) × AllCounted old new)

-- the list names this call
abbrev pub is_named : Turns → Bool
is_named t = list_any (λ y. nat_eq y t.made) t.to_fail.items

-- which calls of a device are to fail: all where it is pulled, and those with these numbers
pub record Plan : Type 0 where
  pub pulled : Bool
  pub to_fail : List ℕ

abbrev pub plan_of : Part → Plan
plan_of p = record { pulled = p.pulled; to_fail = p.turns.to_fail.items }

abbrev pub plans_of : List Part → List Plan
plans_of parts = map plan_of parts

-- none is to fail
abbrev pub sound : Plan
sound = record { pulled = false; to_fail = [] }

abbrev pub plan_at : List Plan → ℕ → Plan
plan_at plans k = slice_index_or plans k sound

-- how many calls were made on it
abbrev pub made_on : Part → ℕ
made_on p = p.turns.made

abbrev pub made_at : List Part → ℕ → ℕ
made_at parts k = slice_index_or (map made_on parts) k 0

-- the device is pulled, or the list names its next call
abbrev pub fails : Plan → ℕ → Bool
fails plan made = plan.pulled || list_any (λ y. nat_eq y made) plan.to_fail

abbrev pub will_fail : Part → Bool
will_fail p = fails (plan_of p) (made_on p)

abbrev pub will_fail_at : List Part → ℕ → Bool
will_fail_at parts k = fails (plan_at (plans_of parts) k) (made_at parts k)

-- the number of the nth next call, counted from 1
abbrev pub nth_call : ℕ → ℕ → ℕ
nth_call made nth = min (made + (nth - 1)) (2 ^ 64 - 1)

-- the same, and the nth next call is to fail too
abbrev pub naming : Plan → ℕ → Plan
naming plan call = record { pulled = plan.pulled; to_fail = plan.to_fail ++ call ∷ [] }

-- the same, and all calls are to fail or not
abbrev pub pulling : Plan → Bool → Plan
pulling plan pulled = record { pulled = pulled; to_fail = plan.to_fail }

-- zero bytes, and none of them dirty
pub record IsBlank (size : ℕ) (disk : Disk) : Type 0 where
  pub long : length disk.bytes ≡ size
  pub zero : (i : ℕ) → slice_index disk.bytes i ≡ 0
  pub clean : disk.dirty ≡ []

-- the same, and no call of it has failed
pub record IsNew (size : ℕ) (disk : Disk) : Type 0 where
  pub blank : IsBlank size disk
  pub faults : disk.faults ≡ 0
  pub write_faults : disk.write_faults ≡ 0

-- a stop may leave these bytes, and has nothing dirty
pub record IsTorn (disk torn : Disk) : Type 0 where
  pub left : MayLeave disk torn.bytes
  pub clean : torn.dirty ≡ []
