-- The fields of a head as they stand in a sector, one behind another.
use Rattle.std.specs.Prelude.{◌≡◌, ℕ, ◌≤◌, ◌<◌, ◌^◌, List, ◌++◌, length, take, drop, codes}
use Rattle.pur_base.specs.Prelude.{u8, u32, u64, zeros}
use Rattle.pur_base.specs.declared.limits.TheConstants.{NAME_BYTES}
use Rattle.log_codec.specs.declared.fields.Fields.{Fields}
use Rattle.log_codec.specs.declared.parts.Parts.{Parts}

-- the bytes that the fields were read from
abbrev pub fields_bytes : Fields → List ℕ
fields_bytes f =
    f.magic.now ++ (u64 f.number ++ u8 f.kind ++ u8 f.first_len ++ u8 f.second_len ++ u8 f.byte ++ u32 f.count ++ u64 f.lba ++ u64 f.second_lba
    ++ (f.first.now ++ (f.second.now ++ f.rest.now)))

-- these are the fields of a sector
pub record AreFields (sector : List ℕ) (f : Fields) : Type 0 where
  pub bytes : sector ≡ fields_bytes f
  pub magic : length f.magic.now ≡ 8
  pub number : f.number < 2 ^ 64
  pub count : f.count < 2 ^ 32
  pub lba : f.lba < 2 ^ 64
  pub second_lba : f.second_lba < 2 ^ 64
  pub first : length f.first.now ≡ NAME_BYTES
  pub second : length f.second.now ≡ NAME_BYTES
  pub rest : length f.rest.now ≡ 424

-- the field has so many bytes, and zeros behind them
abbrev pub IsText : ℕ → List ℕ → Type 0
IsText len field = (len ≤ length field) × (drop len field ≡ zeros (length (drop len field)))

-- a head's word stands in front, and zeros behind the names and behind the fields
pub record IsFrame (f : Fields) : Type 0 where
  pub magic : f.magic.now ≡ codes "PURNVLOG"
  pub first : IsText f.first_len f.first.now
  pub second : IsText f.second_len f.second.now
  pub rest : f.rest.now ≡ zeros (length f.rest.now)

-- the parts are those that the fields stand for
pub record AreIn (f : Fields) (p : Parts) : Type 0 where
  pub kind : p.kind ≡ f.kind
  pub first : p.first.now ≡ take f.first_len f.first.now
  pub second : p.second.now ≡ take f.second_len f.second.now
  pub byte : p.byte ≡ f.byte
  pub count : p.count ≡ f.count
  pub lba : p.lba ≡ f.lba
  pub second_lba : p.second_lba ≡ f.second_lba
