-- What the facts of all tables say: the visible objects, ranges, addresses and segments.
use Rattle.std.specs.Prelude.{ℕ, ◌+◌, ◌<◌, ◌≤◌, Bool, ◌&&◌, ◌↔◌, IsTrue, List, filter_map, Option, option_map, ◌==◌, nat_le, AllPairs}
use Rattle.std.specs.List.{list_any, range_with_len, AllByRecursion}
use Rattle.pur_base.specs.declared.request.Table.{Table}
use Rattle.pur_base.specs.declared.request.Table.TheVariants as table
use Rattle.pur_base.specs.declared.facts.Target.{Target}
use Rattle.pur_base.specs.declared.facts.ObjectFact.{ObjectFact}
use Rattle.pur_base.specs.declared.facts.MediumFact.{MediumFact}
use Rattle.pur_base.specs.declared.facts.SegmentFact.{SegmentFact}
use Rattle.pur_base.specs.declared.facts.ElisionFact.{ElisionFact}
use Rattle.pur_base.specs.Tags.{tag_of}
use Rattle.pur_base.specs.Keys.{key_of}
use Rattle.pur_base.specs.Facts.{Facts, object_key, medium_key, address_key, segment_key, never, is_empty_range}
use Rattle.pur_base.specs.Says.{says}

-- ---- elided ids

-- whether the elision's range has that id of that table
abbrev pub elides : Table → ℕ → ElisionFact → Bool
elides t id f = (tag_of f.table == tag_of t) && nat_le f.first id && nat_le id f.last

-- whether some elision's range has it
abbrev pub is_elided : List ElisionFact → Table → ℕ → Bool
is_elided elisions t id = list_any (elides t id) elisions

-- whether one of the ranges has the id
abbrev pub is_within : List (ℕ × ℕ) → ℕ → Bool
is_within ranges id = list_any (λ r. nat_le r.0 id && nat_le id r.1) ranges

-- disjoint ranges in order, that don't touch, of all elided ids of a table
pub record AreElidedRanges (elisions : List ElisionFact) (t : Table) (ranges : List (ℕ × ℕ)) : Type 0 where
  pub same : (id : ℕ) → IsTrue (is_elided elisions t id) ↔ IsTrue (is_within ranges id)
  pub whole : AllByRecursion (λ r. r.0 ≤ r.1) ranges
  pub apart : AllPairs (λ r s. r.1 + 1 < s.0) ranges

-- ---- the tables

-- the visible object of an id
abbrev pub object : Facts → ℕ → Option ObjectFact
object facts id = says object_key (λ f. f.seq.0) never facts.objects (is_elided facts.elisions table.Object) (key_of id 0)

-- the visible range of a medium from a start on
abbrev pub range : Facts → ℕ → ℕ → Option MediumFact
range facts medium start = says medium_key (λ f. f.seq.0) is_empty_range facts.mediums (is_elided facts.elisions table.Medium) (key_of medium start)

-- where a medium's sector stands, if the medium itself says it
abbrev pub address : Facts → ℕ → ℕ → Option Target
address facts medium sector =
    option_map (λ f. f.target) (says address_key (λ f. f.seq.0) never facts.addresses (is_elided facts.elisions table.Address) (key_of medium sector))

-- the visible data segment of an id
abbrev pub segment : Facts → ℕ → Option SegmentFact
segment facts id = says segment_key (λ f. f.seq.0) never facts.segments (is_elided facts.elisions table.Segment) (key_of id 0)

-- the ids below the next one, ascending
abbrev pub ids_below : ℕ → List ℕ
ids_below next = range_with_len 0 next

-- the visible objects, by ascending id
abbrev pub objects : Facts → ℕ → List ObjectFact
objects facts next = filter_map (object facts) (ids_below next)

-- the visible data segments, by ascending id
abbrev pub segments : Facts → ℕ → List SegmentFact
segments facts next = filter_map (segment facts) (ids_below next)
