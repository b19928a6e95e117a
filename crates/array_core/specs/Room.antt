-- Room in memory for as many commands as the log has free slots, and what was taken up by commands and in the background.
use Rattle.std.specs.Prelude.{◌≡◌, ℕ, ◌+◌, ◌≤◌, [], All}
use Rattle.session_spec.specs.Prelude.{REQUEST_SECTORS, LOG_SLOTS}
use Rattle.pur_base.specs.declared.request.Table.TheVariants as table
use Rattle.array_memory.specs.Prelude.{Amounts, LOG_ROOM, Kept, AtMost, with_more, times, taken_up, capacity_of}
use Rattle.array_core.specs.declared.array.Background.{Background}

-- what a command of the log takes up at most
abbrev pub a_command : Amounts
a_command = record { objects = 2; mediums = 4; addresses = REQUEST_SECTORS; elisions = 1; staged = REQUEST_SECTORS; names = 1; ranges = 1 }

-- nothing was taken in without a command
abbrev pub nothing_behind : Background
nothing_behind = record { facts = 0; staged = 0 }

-- what they take up
abbrev pub taken_behind : Background → Amounts
taken_behind b = record { objects = 0; mediums = b.facts; addresses = b.facts; elisions = 0; staged = b.staged; names = 0; ranges = 0 }

-- What is taken up and the room beside it are enough for a whole log, and for what works in the background. So much room there is once that is on the drives.
abbrev pub HasCapacity : Kept → Type 0
HasCapacity k = AtMost (record LOG_ROOM { names = 0; ranges = 0 }) (capacity_of k)

-- Each of the commands that the log has room for finds room in memory, whatever it asks for. No more is taken up than commands of the log and the background took in,
-- none of it segments, and of elisions those of objects alone.
pub record HasRoomFor (k : Kept) (logged : ℕ) (b : Background) : Type 0 where
  pub capacity : HasCapacity k
  pub names : LOG_SLOTS ≤ logged + k.name_room
  pub ranges : LOG_SLOTS ≤ logged + k.elided.object_room
  pub taken : AtMost (taken_up k) (with_more (times logged a_command) (taken_behind b))
  pub no_segments : k.memory.tables.segments.unflushed ≡ []
  pub only_objects : All (λ e. e.table ≡ table.Object) k.memory.tables.elisions.unflushed
