-- Memory of tables that were loaded.
use Rattle.std.specs.Prelude.{◌≡◌, ℕ, List, [], Contains}
use Rattle.memory_spec.specs.Prelude.{object_key, medium_key, address_key, segment_key, elision_key, Location, Stored, ObjectFact, MediumFact, AddressFact, SegmentFact, ElisionFact, NextNumbers, BootRecord, IsNext, Layers, IsLayered, Memory}
use Rattle.loaded_tables.specs.declared.tables.LoadedTables.{LoadedTables}
use Rattle.command_spec.specs.declared.limits.TheConstants.{LOG_ROOM}
use Rattle.command_spec.specs.Kept.{Kept}
use Rattle.command_spec.specs.Room.{AtMost, room_of}

-- these patches in layers, and no fact beside them
pub record HasOnly {F : Type 0} (key number : F → ℕ) (given : List (List F)) (l : Layers F) : Type 0 where
  pub patches : l.patches ≡ given
  pub unflushed : l.unflushed ≡ []
  pub layered : IsLayered key number l.patches l.unflushed

-- the tables with nothing beside their patches, nothing staged, and the next numbers of the record
pub record IsLoaded (boot : BootRecord) (t : LoadedTables) (m : Memory) : Type 0 where
  pub objects : HasOnly object_key (λ f. f.seq.0) t.objects.items m.tables.objects
  pub mediums : HasOnly medium_key (λ f. f.seq.0) t.mediums.items m.tables.mediums
  pub addresses : HasOnly address_key (λ f. f.seq.0) t.addresses.items m.tables.addresses
  pub segments : HasOnly segment_key (λ f. f.seq.0) t.segments.items m.tables.segments
  pub elisions : HasOnly elision_key (λ f. f.seq.0) t.elisions.items m.tables.elisions
  pub staged : m.staged ≡ []
  pub next : m.next ≡ boot.next

-- memory of these facts, in which nothing is staged
abbrev pub memory_of : Layers ObjectFact → Layers MediumFact → Layers AddressFact → Layers SegmentFact → Layers ElisionFact → NextNumbers → Memory
memory_of o d a s e next = record { tables = record { objects = o; mediums = d; addresses = a; segments = s; elisions = e }; staged = []; next = next }

-- the same but for room
abbrev pub with_room_of : Memory → Memory → Memory
with_room_of was now = record was {
  tables = record was.tables {
    objects = record was.tables.objects { room = now.tables.objects.room };
    mediums = record was.tables.mediums { room = now.tables.mediums.room };
    addresses = record was.tables.addresses { room = now.tables.addresses.room };
    elisions = record was.tables.elisions { room = now.tables.elisions.room };
  };
}

-- no address names a staged sector: each stored one is of a segment with an id
abbrev pub AreInSegments : List AddressFact → Type 0
AreInSegments facts = (f : AddressFact) (at : Location) → Contains facts f → f.target ≡ Stored at → IsNext at.segment.0

-- room for the commands of a whole log, and for what works in the background
abbrev pub HasLogRoom : Kept → Type 0
HasLogRoom k = AtMost LOG_ROOM (room_of k)
