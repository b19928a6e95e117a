-- Facts as 64 bytes: their one spelling, and what has one.
use Rattle.std.specs.Prelude.{◌≡◌, ◌⊎◌, ℕ, ◌+◌, ◌-◌, ◌<◌, ◌≤◌, ◌^◌, true, List, [], ◌++◌, length}
use Rattle.std.specs.List.{AllByRecursion}
use Rattle.pur_base.specs.Prelude.{u8, u16, u32, u64, padded, is_name, tag_of, table_tag, any_key, any_number, places_bytes, FitsBytes}
use Rattle.pur_base.specs.declared.limits.TheConstants.{NAME_BYTES, OBJECT_SECTORS, SEGMENT_SECTORS, SEGMENT_SHARDS}
use Rattle.pur_base.specs.declared.facts.ObjectKind.{ObjectKind}
use Rattle.pur_base.specs.declared.facts.ObjectKind.TheVariants.{Volume, Snapshot}
use Rattle.pur_base.specs.declared.facts.Target.{Target}
use Rattle.pur_base.specs.declared.facts.Target.TheVariants.{Stored, Zero}
use Rattle.pur_base.specs.declared.facts.MediumFact.{MediumFact}
use Rattle.pur_base.specs.declared.facts.AnyFact.{AnyFact}
use Rattle.pur_base.specs.declared.facts.AnyFact.TheVariants as any
use Rattle.fact_codec.specs.declared.limits.TheConstants.{VALUE_BYTES, NUMBER_LIMIT}

-- ---- the spelling

-- the byte that stands for an object's kind
abbrev pub object_code : ObjectKind → ℕ
object_code Volume = 1
object_code Snapshot = 2

-- the byte that says whether an address is stored
abbrev pub target_code : Target → ℕ
target_code (Stored at) = 1
target_code Zero = 2

-- the byte behind the tag
abbrev pub kind_code : AnyFact → ℕ
kind_code (any.Object f) = object_code f.kind
kind_code (any.Address f) = target_code f.target
kind_code _ = 0

-- the name of an object, and none of another fact
abbrev pub name_of : AnyFact → List ℕ
name_of (any.Object f) = f.name
name_of _ = []

-- the size of an object, and 0 of another fact
abbrev pub sectors_of : AnyFact → ℕ
sectors_of (any.Object f) = f.sectors
sectors_of _ = 0

-- the id by which a fact is elided
abbrev pub id_field : AnyFact → ℕ
id_field (any.Object f) = f.object.0
id_field (any.Medium f) = f.medium.0
id_field (any.Address f) = f.medium.0
id_field (any.Segment f) = f.segment.0
id_field (any.Elision f) = f.first

-- the second number of the key
abbrev pub second_field : AnyFact → ℕ
second_field (any.Object f) = 0
second_field (any.Medium f) = f.start
second_field (any.Address f) = f.sector
second_field (any.Segment f) = 0
second_field (any.Elision f) = tag_of f.table

-- a segment and an index, and nothing of zeros
abbrev pub target_bytes : Target → List ℕ
target_bytes (Stored at) = u64 at.segment.0 ++ u16 at.index
target_bytes Zero = []

-- what the fact says of its key
abbrev pub value_bytes : AnyFact → List ℕ
value_bytes (any.Object f) = u64 f.medium.0 ++ padded NAME_BYTES f.name
value_bytes (any.Medium f) = u64 f.end ++ u64 f.target.0 ++ u64 f.target_start
value_bytes (any.Address f) = target_bytes f.target
value_bytes (any.Segment f) = places_bytes f.places ++ u16 f.placed
value_bytes (any.Elision f) = u64 f.last

-- the bytes that spell a fact
unfoldable pub fact_bytes : AnyFact → List ℕ
fact_bytes f =
    u8 (table_tag f) ++ u8 (kind_code f) ++ u8 (length (name_of f)) ++ u8 0 ++ u32 (sectors_of f)
    ++ u64 (id_field f) ++ u64 (second_field f) ++ u64 (any_number f) ++ padded VALUE_BYTES (value_bytes f)

-- ---- what has a spelling

-- from 1 up to below 2^48
abbrev pub IsNext : ℕ → Type 0
IsNext n = (1 ≤ n) × (n < NUMBER_LIMIT)

-- a range that ends where it begins leads nowhere
abbrev pub LeadsNowhere : MediumFact → Type 0
LeadsNowhere f = (f.end ≡ f.start) × (f.target.0 ≡ 0) × (f.target_start ≡ 0)

-- another one leads to a smaller medium, and neither end passes the greatest size
pub record LeadsDown (f : MediumFact) : Type 0 where
  pub some : f.start < f.end
  pub end : f.end ≤ OBJECT_SECTORS
  pub down : f.target.0 < f.medium.0
  pub target_end : f.target_start + (f.end - f.start) ≤ OBJECT_SECTORS

-- where a sector may stand: in a segment, at an index of it
abbrev pub IsTarget : Target → Type 0
IsTarget (Stored at) = IsNext at.segment.0 × (at.index < SEGMENT_SECTORS)
IsTarget Zero = Unit {0}

-- what a fact of each table may say
abbrev pub IsStatement : AnyFact → Type 0
IsStatement (any.Object f) = (1 ≤ f.sectors) × (f.sectors ≤ OBJECT_SECTORS) × (1 ≤ f.medium.0) × (is_name f.name ≡ true)
IsStatement (any.Medium f) = LeadsNowhere f ⊎ LeadsDown f
IsStatement (any.Address f) = (f.sector < OBJECT_SECTORS) × IsTarget f.target
IsStatement (any.Segment f) = (1 ≤ f.placed) × (f.placed ≤ SEGMENT_SECTORS)
IsStatement (any.Elision f) = (tag_of f.table ≤ 4) × (f.first ≤ f.last)

-- the fields with bounds of their own are within them. Whether places are units of the shelf isn't judged
pub record IsLawful (f : AnyFact) : Type 0 where
  pub id : IsNext (id_field f)
  pub number : IsNext (any_number f)
  pub statement : IsStatement f

-- a segment's id has eight bytes, and an index has two
abbrev pub FitsTarget : Target → Type 0
FitsTarget (Stored at) = (at.segment.0 < 2 ^ 64) × (at.index < 2 ^ 16)
FitsTarget Zero = Unit {0}

-- the other fields are of the sizes that their types have
abbrev pub FitsTypes : AnyFact → Type 0
FitsTypes (any.Object f) = f.medium.0 < 2 ^ 64
FitsTypes (any.Medium f) = f.start < 2 ^ 64
FitsTypes (any.Address f) = FitsTarget f.target
FitsTypes (any.Segment f) = (length f.places ≡ SEGMENT_SHARDS) × AllByRecursion FitsBytes f.places
FitsTypes (any.Elision f) = f.last < 2 ^ 64

-- what has a spelling
pub record IsFact (f : AnyFact) : Type 0 where
  pub lawful : IsLawful f
  pub fits : FitsTypes f

-- the bytes spell this fact
pub record Decodes (text : List ℕ) (f : AnyFact) : Type 0 where
  pub fact : IsFact f
  pub bytes : text ≡ fact_bytes f

-- in a patch: facts of one table by ascending key
abbrev pub MayFollow : AnyFact → AnyFact → Type 0
MayFollow f g = (table_tag f ≡ table_tag g) × (any_key f < any_key g)
