-- What memory takes up, and what it has room for without memory.
use Rattle.std.specs.Prelude.{◌≡◌, ℕ, ◌+◌, ◌*◌, ◌≤◌, length, All}
use Rattle.memory_spec.specs.Prelude.{Request}
use Rattle.pur_base.specs.declared.request.Request.TheVariants as request
use Rattle.pur_base.specs.declared.request.Table.TheVariants as table
use Rattle.command_spec.specs.declared.amounts.Amounts.{Amounts}
use Rattle.command_spec.specs.declared.amounts.TheConstants.{NOTHING}
use Rattle.command_spec.specs.Kept.{Kept}

-- ---- amounts

-- no more of each kind
pub record AtMost (a b : Amounts) : Type 0 where
  pub objects : a.objects ≤ b.objects
  pub mediums : a.mediums ≤ b.mediums
  pub addresses : a.addresses ≤ b.addresses
  pub elisions : a.elisions ≤ b.elisions
  pub staged : a.staged ≤ b.staged
  pub names : a.names ≤ b.names
  pub ranges : a.ranges ≤ b.ranges

-- both together
abbrev pub with_more : Amounts → Amounts → Amounts
with_more a b = record {
  objects = a.objects + b.objects;
  mediums = a.mediums + b.mediums;
  addresses = a.addresses + b.addresses;
  elisions = a.elisions + b.elisions;
  staged = a.staged + b.staged;
  names = a.names + b.names;
  ranges = a.ranges + b.ranges;
}

-- so many times as much
abbrev pub times : ℕ → Amounts → Amounts
times n a = record {
  objects = n * a.objects;
  mediums = n * a.mediums;
  addresses = n * a.addresses;
  elisions = n * a.elisions;
  staged = n * a.staged;
  names = n * a.names;
  ranges = n * a.ranges;
}

-- ---- of memory

-- what there is room for
abbrev pub room_of : Kept → Amounts
room_of k = record {
  objects = k.memory.tables.objects.room;
  mediums = k.memory.tables.mediums.room;
  addresses = k.memory.tables.addresses.room;
  elisions = k.memory.tables.elisions.room;
  staged = k.staged_room;
  names = k.name_room;
  ranges = k.elided.object_room;
}

-- what is taken up until it is on the drives: names and ranges are not given back by that
abbrev pub taken_up : Kept → Amounts
taken_up k = record {
  objects = length k.memory.tables.objects.unflushed;
  mediums = length k.memory.tables.mediums.unflushed;
  addresses = length k.memory.tables.addresses.unflushed;
  elisions = length k.memory.tables.elisions.unflushed;
  staged = length k.memory.staged;
  names = 0;
  ranges = 0;
}

-- what of it there is room for once that is on the drives
abbrev pub capacity_of : Kept → Amounts
capacity_of k = with_more (taken_up k) (record (room_of k) { names = 0; ranges = 0 })

-- the same but for what there is room for
abbrev pub with_rooms : Kept → Kept → Kept
with_rooms was now = record was {
  memory = record was.memory {
    tables = record was.memory.tables {
      objects = record was.memory.tables.objects { room = now.memory.tables.objects.room };
      mediums = record was.memory.tables.mediums { room = now.memory.tables.mediums.room };
      addresses = record was.memory.tables.addresses { room = now.memory.tables.addresses.room };
      elisions = record was.memory.tables.elisions { room = now.memory.tables.elisions.room };
    };
  };
  elided = record was.elided { object_room = now.elided.object_room };
  name_room = now.name_room;
  staged_room = now.staged_room;
}

-- at least as much room
abbrev pub HasNoLessRoom : Kept → Kept → Type 0
HasNoLessRoom was now = AtMost (room_of was) (room_of now)

-- No more than these amounts of room is used, and no more is taken up. What is taken up and the room that is left aren't less together than before. Elisions that are taken in are of objects.
pub record TakesOnly (was now : Kept) (amounts : Amounts) : Type 0 where
  pub room : AtMost (room_of was) (with_more (room_of now) amounts)
  pub taken : AtMost (taken_up now) (with_more (taken_up was) amounts)
  pub capacity : AtMost (capacity_of was) (capacity_of now)
  pub segments : now.memory.tables.segments.unflushed ≡ was.memory.tables.segments.unflushed
  pub elisions : All (λ e. e.table ≡ table.Object) was.memory.tables.elisions.unflushed → All (λ e. e.table ≡ table.Object) now.memory.tables.elisions.unflushed

-- ---- of requests

-- What a request takes up at most. A snapshot, a clone or a copy of a volume moves it to a medium of its own.
abbrev pub taken : Request → Amounts
taken (request.Create n size) = record NOTHING { objects = 1; names = 1 }
taken (request.Write n lba count) = record NOTHING { addresses = count; staged = count }
taken (request.Fill n lba count byte) = record NOTHING { addresses = count; staged = count }
taken (request.Zero n lba count) = record NOTHING { addresses = count }
taken (request.Snapshot n new) = record NOTHING { objects = 2; mediums = 1; names = 1 }
taken (request.Clone n new) = record NOTHING { objects = 2; mediums = 2; names = 1 }
taken (request.Copy n lba m to count) = record NOTHING { objects = 2; mediums = 4 }
taken (request.Destroy n) = record NOTHING { elisions = 1; ranges = 1 }
taken _ = NOTHING
