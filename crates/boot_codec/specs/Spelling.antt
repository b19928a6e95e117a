-- The one spelling of a boot record.
use Rattle.std.specs.Prelude.{ℕ, ◌+◌, List, ◌++◌, length, codes}
use Rattle.std.specs.List.{flat_map}
use Rattle.pur_base.specs.Prelude.{u8, u16, u32, u64, zeros, padded}
use Rattle.pur_base.specs.declared.place.Place.{Place}
use Rattle.boot_codec.specs.declared.limits.TheConstants.{RECORD_BYTES, HEADER_BYTES, FORMAT}
use Rattle.boot_codec.specs.declared.patch.PatchSegment.{PatchSegment}
use Rattle.boot_codec.specs.declared.patch.Patch.{Patch}
use Rattle.boot_codec.specs.declared.record.Members.{Members}
use Rattle.boot_codec.specs.declared.record.NextNumbers.{NextNumbers}
use Rattle.boot_codec.specs.declared.record.BootRecord.{BootRecord}
use Rattle.boot_codec.specs.Record.{mask}

-- the text and the numbers that say whose record it is
unfoldable pub opening_bytes : ℕ → ℕ → List ℕ
opening_bytes slots units = codes "PURARRAY" ++ u32 FORMAT ++ u16 slots ++ u16 units

-- a bit for each drive, one for each NVRAM device, and three zeros
unfoldable pub members_bytes : Members → List ℕ
members_bytes m = u32 (mask m.drives) ++ u8 (mask m.nvrams) ++ zeros 3

-- the five next numbers
unfoldable pub next_bytes : NextNumbers → List ℕ
next_bytes n = u64 n.object ++ u64 n.medium ++ u64 n.segment ++ u64 n.patch_segment ++ u64 n.sequence

-- a slot and a unit
unfoldable pub place_bytes : Place → List ℕ
place_bytes p = u8 p.slot ++ u16 p.unit

-- an id and nine places
unfoldable pub segment_bytes : PatchSegment → List ℕ
segment_bytes s = u64 s.id ++ flat_map place_bytes s.places

-- a tag, how many facts, how many segments, and the segments
unfoldable pub patch_bytes : Patch → List ℕ
patch_bytes p = u8 p.tag ++ u32 p.facts ++ u16 (length p.segments) ++ flat_map segment_bytes p.segments

-- how many patches, no frontier units, and how long the record is
unfoldable pub counts_bytes : ℕ → ℕ → List ℕ
counts_bytes patches len = u16 patches ++ u16 0 ++ u32 len

-- what stands before the patches, of a record so long
unfoldable pub header_bytes : BootRecord → ℕ → List ℕ
header_bytes r len =
    opening_bytes r.slots r.units ++ u64 r.generation ++ members_bytes r.members
    ++ next_bytes r.next ++ u64 r.flushed ++ counts_bytes (length r.patches) len

-- one patch after the other
abbrev pub patches_bytes : List Patch → List ℕ
patches_bytes ps = flat_map patch_bytes ps

-- without the padding
unfoldable pub record_bytes : BootRecord → List ℕ
record_bytes r = header_bytes r (HEADER_BYTES + length (patches_bytes r.patches)) ++ patches_bytes r.patches

-- with zeros up to the end
abbrev pub spelling : BootRecord → List ℕ
spelling r = padded RECORD_BYTES (record_bytes r)
