-- The five tables of an array in memory: layers of facts, of which the patches stand on the drives.
use Rattle.std.specs.Prelude.{ℕ, Bool, List, ◌++◌, map}
use Rattle.array_spec.specs.Prelude.{Facts, object_key, medium_key, address_key, segment_key, elision_key, never, is_empty_range, apart, is_narrower, Table, ObjectFact, MediumFact, AddressFact, SegmentFact, ElisionFact, AnyFact}
use Rattle.pur_base.specs.declared.facts.AnyFact.TheVariants as any
use Rattle.pur_base.specs.declared.request.Table.TheVariants as table
use Rattle.pyramid.specs.Prelude.{Layers, facts_in, facts_of}

pub record Tables : Type 0 where
  pub objects : Layers ObjectFact
  pub mediums : Layers MediumFact
  pub addresses : Layers AddressFact
  pub segments : Layers SegmentFact
  pub elisions : Layers ElisionFact

-- all facts, flushed or not
abbrev pub facts : Tables → Facts
facts t = record {
  objects = facts_in t.objects;
  mediums = facts_in t.mediums;
  addresses = facts_in t.addresses;
  segments = facts_in t.segments;
  elisions = facts_in t.elisions;
}

-- the facts of the patches
abbrev pub flushed : Tables → Facts
flushed t = record {
  objects = facts_of t.objects.patches;
  mediums = facts_of t.mediums.patches;
  addresses = facts_of t.addresses.patches;
  segments = facts_of t.segments.patches;
  elisions = facts_of t.elisions.patches;
}

-- the patches as a record lists them: by table, oldest first
abbrev pub patches : Tables → List (List AnyFact)
patches t =
    map (map any.Object) t.objects.patches
    ++ (map (map any.Medium) t.mediums.patches
    ++ (map (map any.Address) t.addresses.patches
    ++ (map (map any.Segment) t.segments.patches
    ++ map (map any.Elision) t.elisions.patches)))

-- each fact of each table
abbrev pub all_of : Facts → List AnyFact
all_of f = map any.Object f.objects ++ (map any.Medium f.mediums ++ (map any.Address f.addresses ++ (map any.Segment f.segments ++ map any.Elision f.elisions)))

-- ---- one of them, whichever it is

-- the facts of a table
abbrev pub FactOf : Table → Type 0
FactOf table.Object = ObjectFact
FactOf table.Medium = MediumFact
FactOf table.Address = AddressFact
FactOf table.Segment = SegmentFact
FactOf table.Elision = ElisionFact

-- what they are among all facts, how they are ordered, which of them say nothing, and which lie in others
pub record Kind (F : Type 0) : Type 0 where
  pub any : F → AnyFact
  pub key : F → ℕ
  pub number : F → ℕ
  pub empty : F → Bool
  pub within : F → F → Bool

abbrev pub kind_of : (t : Table) → Kind (FactOf t)
kind_of table.Object = record { any = any.Object; key = object_key; number = λ f. f.seq.0; empty = never; within = apart }
kind_of table.Medium = record { any = any.Medium; key = medium_key; number = λ f. f.seq.0; empty = is_empty_range; within = apart }
kind_of table.Address = record { any = any.Address; key = address_key; number = λ f. f.seq.0; empty = never; within = apart }
kind_of table.Segment = record { any = any.Segment; key = segment_key; number = λ f. f.seq.0; empty = never; within = apart }
kind_of table.Elision = record { any = any.Elision; key = elision_key; number = λ f. f.seq.0; empty = never; within = is_narrower }

abbrev pub layers_of : (t : Table) → Tables → Layers (FactOf t)
layers_of table.Object ts = ts.objects
layers_of table.Medium ts = ts.mediums
layers_of table.Address ts = ts.addresses
layers_of table.Segment ts = ts.segments
layers_of table.Elision ts = ts.elisions
