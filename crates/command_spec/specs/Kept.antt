-- What the calls of an array's memory see of it.
use Rattle.std.specs.Prelude.{◌≢◌, ◌≡◌, ℕ, ◌≤◌, List, All}
use Rattle.memory_spec.specs.Prelude.{object_key, segment_key, never, is_elided, AreElidedRanges, Table, ObjectFact, MediumFact, AddressFact, SegmentFact, ElisionFact, NextNumbers, AreNext, Layers, IsShown, AreIdsBelow, Tables, facts, Memory, AreNumbered}
use Rattle.pur_base.specs.declared.request.Table.TheVariants as table
use Rattle.elision.specs.Ranges.{ElidedRanges, ranges_of}
use Rattle.object_table.specs.Objects.{Objects}
use Rattle.segment_table.specs.Segments.{Segments}
use Rattle.loaded_tables.specs.Prelude.{IsRange}

-- The tables, the staged sectors and the next numbers, and what is kept beside them so that it need not be looked up.
pub record Kept : Type 0 where
  pub memory : Memory
  -- the visible objects, in order of creation
  pub objects : List ObjectFact
  -- the visible data segments, by ascending id
  pub segments : List SegmentFact
  -- the elided ids of each table
  pub elided : ElidedRanges
  -- how many more objects are named, segments are seen and sectors are staged without memory
  pub name_room : ℕ
  pub segment_room : ℕ
  pub staged_room : ℕ

-- what stands in the parts
abbrev pub kept_of : Objects → Layers MediumFact → Layers AddressFact → Segments → Layers ElisionFact → ElidedRanges → List (List ℕ) → ℕ → NextNumbers → Kept
kept_of o m a s e elided staged room next = record {
  memory = record {
    tables = record { objects = o.facts; mediums = m; addresses = a; segments = s.facts; elisions = e };
    staged = staged;
    next = next;
  };
  objects = o.visible;
  segments = s.visible;
  elided = elided;
  name_room = o.name_room;
  segment_room = s.visible_room;
  staged_room = room;
}

-- What is kept beside the tables is what their facts say. Ids and numbers of all facts are below the next ones, each object has sectors, and each elision is of a range.
pub record IsKept (k : Kept) : Type 0 where
  pub objects : IsShown object_key (λ f. f.seq.0) never (facts k.memory.tables).objects (is_elided (facts k.memory.tables).elisions table.Object) k.objects
  pub segments : IsShown segment_key (λ f. f.seq.0) never (facts k.memory.tables).segments (is_elided (facts k.memory.tables).elisions table.Segment) k.segments
  pub elided : (t : Table) → t ≢ table.Elision → AreElidedRanges (facts k.memory.tables).elisions t (ranges_of k.elided t)
  pub next : AreNext k.memory.next
  pub ids : AreIdsBelow k.memory.next (facts k.memory.tables)
  pub numbers : AreNumbered k.memory
  pub sizes : All (λ f. 1 ≤ f.sectors) (facts k.memory.tables).objects
  pub ranges : All IsRange (facts k.memory.tables).elisions

-- no patch of a table was added or taken away
pub record HasSamePatches (was now : Tables) : Type 0 where
  pub objects : now.objects.patches ≡ was.objects.patches
  pub mediums : now.mediums.patches ≡ was.mediums.patches
  pub addresses : now.addresses.patches ≡ was.addresses.patches
  pub segments : now.segments.patches ≡ was.segments.patches
  pub elisions : now.elisions.patches ≡ was.elisions.patches
