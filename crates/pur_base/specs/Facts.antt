-- Facts of the five tables: their keys, and which of them is empty or lies in another.
use Rattle.std.specs.Prelude.{ℕ, Bool, false, ◌&&◌, ◌==◌, nat_le, List, Option, Some, None, filter_map}
use Rattle.pur_base.specs.Keys.{key_of}
use Rattle.pur_base.specs.Tags.{tag_of}
use Rattle.pur_base.specs.declared.facts.ObjectFact.{ObjectFact}
use Rattle.pur_base.specs.declared.facts.MediumFact.{MediumFact}
use Rattle.pur_base.specs.declared.facts.AddressFact.{AddressFact}
use Rattle.pur_base.specs.declared.facts.SegmentFact.{SegmentFact}
use Rattle.pur_base.specs.declared.facts.ElisionFact.{ElisionFact}
use Rattle.pur_base.specs.declared.facts.Target.{Target}
use Rattle.pur_base.specs.declared.facts.Target.TheVariants.{Stored, Zero}
use Rattle.pur_base.specs.declared.facts.AnyFact.{AnyFact}
use Rattle.pur_base.specs.declared.facts.AnyFact.TheVariants as any

-- ---- keys

-- the object
abbrev pub object_key : ObjectFact → ℕ
object_key f = key_of f.object.0 0

-- the medium and the start of the range
abbrev pub medium_key : MediumFact → ℕ
medium_key f = key_of f.medium.0 f.start

-- the medium and the sector
abbrev pub address_key : AddressFact → ℕ
address_key f = key_of f.medium.0 f.sector

-- the id of the segment that an address points to
abbrev pub pointed_of : Target → Option ℕ
pointed_of (Stored at) = Some at.segment.0
pointed_of Zero = None

-- the segment
abbrev pub segment_key : SegmentFact → ℕ
segment_key f = key_of f.segment.0 0

-- the first id and the table
abbrev pub elision_key : ElisionFact → ℕ
elision_key f = key_of f.first (tag_of f.table)

-- ---- what a merge asks of facts

-- no fact of the table says that nothing begins at its key
abbrev pub never : {F : Type 0} → F → Bool
never f = false

-- a range that ends where it begins says that no range begins there
abbrev pub is_empty_range : MediumFact → Bool
is_empty_range f = f.end == f.start

-- no fact of the table says what another says
abbrev pub apart : {F : Type 0} → F → F → Bool
apart f g = false

-- an elision of the same table with all of these ids
abbrev pub is_narrower : ElisionFact → ElisionFact → Bool
is_narrower f g = (tag_of g.table == tag_of f.table) && nat_le g.first f.first && nat_le f.last g.last

-- ---- facts by their tables

-- the facts of each table
pub record Facts : Type 0 where
  pub objects : List ObjectFact
  pub mediums : List MediumFact
  pub addresses : List AddressFact
  pub segments : List SegmentFact
  pub elisions : List ElisionFact

-- the fact, if it is of an object
abbrev pub as_object : AnyFact → Option ObjectFact
as_object (any.Object f) = Some f
as_object _ = None

-- the fact, if it is of a medium
abbrev pub as_medium : AnyFact → Option MediumFact
as_medium (any.Medium f) = Some f
as_medium _ = None

-- the fact, if it is of an address
abbrev pub as_address : AnyFact → Option AddressFact
as_address (any.Address f) = Some f
as_address _ = None

-- the fact, if it is of a segment
abbrev pub as_segment : AnyFact → Option SegmentFact
as_segment (any.Segment f) = Some f
as_segment _ = None

-- the fact, if it is an elision
abbrev pub as_elision : AnyFact → Option ElisionFact
as_elision (any.Elision f) = Some f
as_elision _ = None

-- each fact in its table
abbrev pub by_table : List AnyFact → Facts
by_table fs = record {
  objects = filter_map as_object fs;
  mediums = filter_map as_medium fs;
  addresses = filter_map as_address fs;
  segments = filter_map as_segment fs;
  elisions = filter_map as_elision fs;
}

-- ---- facts of any table

-- the tag of the fact's table
abbrev pub table_tag : AnyFact → ℕ
table_tag (any.Object f) = 1
table_tag (any.Medium f) = 2
table_tag (any.Address f) = 3
table_tag (any.Segment f) = 4
table_tag (any.Elision f) = 5

-- the key of a fact in its table
abbrev pub any_key : AnyFact → ℕ
any_key (any.Object f) = object_key f
any_key (any.Medium f) = medium_key f
any_key (any.Address f) = address_key f
any_key (any.Segment f) = segment_key f
any_key (any.Elision f) = elision_key f

-- the sequence number of a fact
abbrev pub any_number : AnyFact → ℕ
any_number (any.Object f) = f.seq.0
any_number (any.Medium f) = f.seq.0
any_number (any.Address f) = f.seq.0
any_number (any.Segment f) = f.seq.0
any_number (any.Elision f) = f.seq.0
