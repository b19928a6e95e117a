-- The fields that stand in a sector, and the header that the sector spells.
use Rattle.std.proofs.lemmas.Bool.Decides.{nat_tests}
use Rattle.std.proofs.Common.{◌≡◌, ℕ, ◌-◌, ◌^◌, ◌<◌, List, ◌++◌, length, refl, ap, sym, ◌∙◌, arith, codes}
use Rattle.pur_base.specs.Prelude.{u8, u16, u32, u64, zeros, places_bytes, same_front, same_u8, same_u16, same_u32, same_u64, same_places, length-places_bytes, zeros_are}
use Rattle.pur_base.specs.declared.limits.TheConstants.{SECTOR_BYTES}
use Rattle.segment_codec.specs.declared.kind.SegmentKind.{SegmentKind}
use Rattle.segment_codec.specs.declared.kind.SegmentKind.TheVariants.{Data, Patch}
use Rattle.segment_codec.specs.declared.header.Header.{Header}
use Rattle.segment_codec.specs.declared.fields.Fields.{Fields}
use Rattle.segment_codec.specs.Header.{kind_code, header_fields, header_bytes, IsHeader, IsLawful, Decodes}
use Rattle.segment_codec.specs.Fields.{AreFields, IsFrame}

-- the zeros behind a header's fields
abbrev behind : Header → List ℕ
behind h = zeros (SECTOR_BYTES - length (header_fields h))

-- the fields are those of a header
pub record AreOf (f : Fields) (h : Header) : Type 0 where
  pub magic : f.magic.now ≡ codes "PURSEGMT"
  pub segment : f.segment ≡ h.segment.0
  pub generation : f.generation ≡ h.generation
  pub code : f.code ≡ kind_code h.kind
  pub shard : f.shard ≡ h.shard
  pub placed : f.placed ≡ h.placed
  pub tag : f.tag ≡ h.tag
  pub padding : f.padding.now ≡ zeros 3
  pub part : f.part ≡ h.part
  pub parts : f.parts ≡ h.parts
  pub facts : f.facts ≡ h.facts
  pub places : f.places ≡ h.places
  pub rest : f.rest.now ≡ behind h

-- a header's spelling, field by field
spelled : (h : Header) → header_bytes h
    ≡ codes "PURSEGMT" ++ u64 h.segment.0 ++ u64 h.generation ++ u8 (kind_code h.kind) ++ u8 h.shard ++ u16 h.placed ++ u8 h.tag ++ zeros 3
    ++ u16 h.part ++ u16 h.parts ++ u32 h.facts ++ places_bytes h.places ++ behind h
unfolding header_bytes
spelled h = refl

length-header_fields : (h : Header) → length h.places ≡ 9 → SECTOR_BYTES - length (header_fields h) ≡ 445
length-header_fields h nine = omega (arith, length-places_bytes h.places)

placed_fits : (h : Header) → IsHeader h → h.placed < 2 ^ 16
placed_fits h fits = omega (arith, fits.lawful.placed.1)

pub fields_are_of : (sector : List ℕ) (f : Fields) (h : Header) → AreFields sector f → Decodes sector h → AreOf f h
fields_are_of sector f h are spells =
    let fits = spells.header in
    -- what stands from each field on, as it was read and as the header spells it
    let f-places = places_bytes f.places ++ f.rest.now in
    let h-places = places_bytes h.places ++ behind h in
    let f-facts = u32 f.facts ++ f-places in
    let h-facts = u32 h.facts ++ h-places in
    let f-parts = u16 f.parts ++ f-facts in
    let h-parts = u16 h.parts ++ h-facts in
    let f-part = u16 f.part ++ f-parts in
    let h-part = u16 h.part ++ h-parts in
    let f-padding = f.padding.now ++ f-part in
    let h-padding = zeros 3 ++ h-part in
    let f-tag = u8 f.tag ++ f-padding in
    let h-tag = u8 h.tag ++ h-padding in
    let f-placed = u16 f.placed ++ f-tag in
    let h-placed = u16 h.placed ++ h-tag in
    let f-shard = u8 f.shard ++ f-placed in
    let h-shard = u8 h.shard ++ h-placed in
    let f-code = u8 f.code ++ f-shard in
    let h-code = u8 (kind_code h.kind) ++ h-shard in
    let f-generation = u64 f.generation ++ f-code in
    let h-generation = u64 h.generation ++ h-code in
    let f-segment = u64 f.segment ++ f-generation in
    let h-segment = u64 h.segment.0 ++ h-generation in
    let e : f.magic.now ++ f-segment ≡ codes "PURSEGMT" ++ h-segment = sym are.bytes ∙ spells.bytes ∙ spelled h in
    let magic = same_front f.magic.now (codes "PURSEGMT") f-segment h-segment are.magic e in
    let segment = same_u64 f.segment h.segment.0 f-generation h-generation are.segment fits.segment magic.1 in
    let generation = same_u64 f.generation h.generation f-code h-code are.generation fits.generation segment.1 in
    let code = same_u8 f.code (kind_code h.kind) f-shard h-shard generation.1 in
    let shard = same_u8 f.shard h.shard f-placed h-placed code.1 in
    let placed = same_u16 f.placed h.placed f-tag h-tag are.placed (placed_fits h fits) shard.1 in
    let tag = same_u8 f.tag h.tag f-padding h-padding placed.1 in
    let padding = same_front f.padding.now (zeros 3) f-part h-part are.padding tag.1 in
    let part = same_u16 f.part h.part f-parts h-parts are.part fits.part padding.1 in
    let parts = same_u16 f.parts h.parts f-facts h-facts are.parts fits.parts part.1 in
    let facts = same_u32 f.facts h.facts f-places h-places are.facts fits.facts parts.1 in
    let places = same_places f.places h.places f.rest.now (behind h) (are.nine ∙ sym fits.nine) are.places fits.places facts.1 in
    record {
      magic = magic.0;
      segment = segment.0;
      generation = generation.0;
      code = code.0;
      shard = shard.0;
      placed = placed.0;
      tag = tag.0;
      padding = padding.0;
      part = part.0;
      parts = parts.0;
      facts = facts.0;
      places = places.0;
      rest = places.1;
    }

pub frame_of : (f : Fields) (h : Header) → AreOf f h → IsFrame f
frame_of f h of = record { magic = of.magic; padding = zeros_are f.padding.now 3 of.padding; rest = zeros_are f.rest.now (SECTOR_BYTES - length (header_fields h)) of.rest }

-- the header with these fields
abbrev pub header_of : Fields → SegmentKind → Header
header_of f kind = record {
  segment = record { 0 = f.segment };
  generation = f.generation;
  kind = kind;
  shard = f.shard;
  placed = f.placed;
  tag = f.tag;
  part = f.part;
  parts = f.parts;
  facts = f.facts;
  places = f.places;
}

same_kind : (a b : SegmentKind) → kind_code a ≡ kind_code b → a ≡ b
same_kind Data Data e = refl
same_kind Data Patch e = absurd cc
same_kind Patch Data e = absurd cc
same_kind Patch Patch e = refl

pub header_is : (f : Fields) (h : Header) (kind : SegmentKind) → AreOf f h → f.code ≡ kind_code kind → header_of f kind ≡ h
header_is f h kind of code = grind (arith, nat_tests, same_kind)

pub is_spelled : (sector : List ℕ) (f : Fields) (kind : SegmentKind) → AreFields sector f → IsFrame f → f.code ≡ kind_code kind → IsLawful (header_of f kind) → Decodes sector (header_of f kind)
is_spelled sector f kind are frame code lawful =
    let h = header_of f kind in
    let padding : f.padding.now ≡ zeros 3 = frame.padding ∙ ap zeros are.padding in
    let rest : f.rest.now ≡ behind h = frame.rest ∙ ap zeros (are.rest ∙ sym (length-header_fields h are.nine)) in
    record {
      header = record {
        lawful = lawful;
        segment = are.segment;
        generation = are.generation;
        part = are.part;
        parts = are.parts;
        facts = are.facts;
        nine = are.nine;
        places = are.places;
      };
      bytes = are.bytes ∙ rw (frame.magic, code, padding, rest) (sym (spelled h));
    }
