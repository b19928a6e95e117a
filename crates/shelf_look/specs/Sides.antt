-- What is told of each NVRAM device.
use Rattle.std.specs.Prelude.{◌≡◌, ◌⊎◌, ℕ, ◌<◌, Bool, true, false, List, slice_index_or, Option, Some, None}
use Rattle.session_spec.specs.Prelude.{nvram, Rises, Shelved, Disk}
use Rattle.shelf_look.specs.declared.record.RecordSeen.{RecordSeen}
use Rattle.shelf_look.specs.declared.slots.SlotsSeen.{SlotsSeen}
use Rattle.shelf_look.specs.Slots.{AreShown}

-- in which slots it shows commands, where the record names it; or the record doesn't, or a read of it failed
abbrev pub IsSide : Disk → Disk → Bool → ℕ → Option SlotsSeen → Type 0
IsSide old new named flushed (Some s) = (named ≡ true) × AreShown old.bytes flushed s.shown
IsSide old new named flushed None = (named ≡ false) ⊎ Rises old.faults new.faults

-- so of both, and nothing where there is no record
abbrev pub AreSides : Shelved → Shelved → Option RecordSeen → List (Option SlotsSeen) → Type 0
AreSides old new (Some r) sides = (n : ℕ) → n < 2 → IsSide (old.disk (nvram n)) (new.disk (nvram n)) (slice_index_or r.members.nvrams n false) r.flushed (slice_index_or sides n None)
AreSides old new None sides = (n : ℕ) → slice_index_or sides n None ≡ None
