-- The fields of a header as they stand in a sector, one behind another.
use Rattle.std.specs.Prelude.{◌≡◌, ℕ, ◌<◌, ◌^◌, List, ◌++◌, length, codes}
use Rattle.std.specs.List.{AllByRecursion}
use Rattle.pur_base.specs.Prelude.{u8, u16, u32, u64, zeros, places_bytes, FitsBytes}
use Rattle.segment_codec.specs.declared.fields.Fields.{Fields}

-- the bytes that the fields were read from
abbrev pub fields_bytes : Fields → List ℕ
fields_bytes f =
    f.magic.now ++ (u64 f.segment ++ u64 f.generation ++ u8 f.code ++ u8 f.shard ++ u16 f.placed ++ u8 f.tag
    ++ (f.padding.now ++ (u16 f.part ++ u16 f.parts ++ u32 f.facts ++ places_bytes f.places ++ f.rest.now)))

-- these are the fields of a sector
pub record AreFields (sector : List ℕ) (f : Fields) : Type 0 where
  pub bytes : sector ≡ fields_bytes f
  pub magic : length f.magic.now ≡ 8
  pub segment : f.segment < 2 ^ 64
  pub generation : f.generation < 2 ^ 64
  pub placed : f.placed < 2 ^ 16
  pub padding : length f.padding.now ≡ 3
  pub part : f.part < 2 ^ 16
  pub parts : f.parts < 2 ^ 16
  pub facts : f.facts < 2 ^ 32
  pub nine : length f.places ≡ 9
  pub places : AllByRecursion FitsBytes f.places
  pub rest : length f.rest.now ≡ 445

-- a segment's word stands in front, and zeros between the fields and behind them
pub record IsFrame (f : Fields) : Type 0 where
  pub magic : f.magic.now ≡ codes "PURSEGMT"
  pub padding : f.padding.now ≡ zeros (length f.padding.now)
  pub rest : f.rest.now ≡ zeros (length f.rest.now)
