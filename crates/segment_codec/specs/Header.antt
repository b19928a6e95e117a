-- The header of a segment's unit: its one spelling, and what has one.
use Rattle.std.specs.Prelude.{◌≡◌, ℕ, ◌<◌, ◌≤◌, ◌^◌, List, ◌++◌, length, codes}
use Rattle.std.specs.List.{AllByRecursion}
use Rattle.pur_base.specs.Prelude.{u8, u16, u32, u64, zeros, padded, places_bytes, FitsBytes}
use Rattle.pur_base.specs.declared.limits.TheConstants.{SECTOR_BYTES, SEGMENT_SECTORS, SEGMENT_SHARDS}
use Rattle.segment_codec.specs.declared.header.Header.{Header}
use Rattle.segment_codec.specs.declared.header.TheConstants.{TAG_MAX}
use Rattle.segment_codec.specs.declared.kind.SegmentKind.{SegmentKind}
use Rattle.segment_codec.specs.declared.kind.SegmentKind.TheVariants.{Data, Patch}

-- ---- the spelling

-- the byte that stands for a kind
abbrev pub kind_code : SegmentKind → ℕ
kind_code Data = 1
kind_code Patch = 2

-- the fields one behind another
abbrev pub header_fields : Header → List ℕ
header_fields h =
    codes "PURSEGMT" ++ u64 h.segment.0 ++ u64 h.generation ++ u8 (kind_code h.kind) ++ u8 h.shard
    ++ u16 h.placed ++ u8 h.tag ++ zeros 3 ++ u16 h.part ++ u16 h.parts ++ u32 h.facts ++ places_bytes h.places

-- the sector that spells a header: its fields, and zeros behind them
unfoldable pub header_bytes : Header → List ℕ
header_bytes h = padded SECTOR_BYTES (header_fields h)

-- ---- what has a spelling

-- a patch has the tag of its table, and data has none
abbrev pub IsTagOf : SegmentKind → ℕ → Type 0
IsTagOf Data tag = tag ≡ 0
IsTagOf Patch tag = (1 ≤ tag) × (tag ≤ TAG_MAX)

-- the fields with bounds of their own are within them
pub record IsLawful (h : Header) : Type 0 where
  pub shard : h.shard < SEGMENT_SHARDS
  pub placed : (1 ≤ h.placed) × (h.placed ≤ SEGMENT_SECTORS)
  pub tag : IsTagOf h.kind h.tag

-- what has a spelling. Its places aren't judged
pub record IsHeader (h : Header) : Type 0 where
  pub lawful : IsLawful h
  pub segment : h.segment.0 < 2 ^ 64
  pub generation : h.generation < 2 ^ 64
  pub part : h.part < 2 ^ 16
  pub parts : h.parts < 2 ^ 16
  pub facts : h.facts < 2 ^ 32
  pub nine : length h.places ≡ SEGMENT_SHARDS
  pub places : AllByRecursion FitsBytes h.places

-- what belongs to a patch is zero
pub record IsOfNoPatch (h : Header) : Type 0 where
  pub part : h.part ≡ 0
  pub parts : h.parts ≡ 0
  pub facts : h.facts ≡ 0

-- the sector spells this header
pub record Decodes (sector : List ℕ) (h : Header) : Type 0 where
  pub header : IsHeader h
  pub bytes : sector ≡ header_bytes h
