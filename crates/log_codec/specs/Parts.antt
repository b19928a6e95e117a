-- The parts of a command.
use Rattle.std.specs.Prelude.{◌≡◌, Option, Some}
use Rattle.pur_base.specs.declared.request.Request.{Request}
use Rattle.log_codec.specs.declared.parts.Parts.{Parts}
use Rattle.log_codec.specs.Head.{IsCommand, kind_code, first_name, second_name, fill_byte, sector_count, first_lba, second_lba}

-- these are the parts of a command
pub record ArePartsOf (p : Parts) (r : Request) : Type 0 where
  pub kind : p.kind ≡ kind_code r
  pub first : p.first.now ≡ first_name r
  pub second : p.second.now ≡ second_name r
  pub byte : p.byte ≡ fill_byte r
  pub count : p.count ≡ sector_count r
  pub lba : p.lba ≡ first_lba r
  pub second_lba : p.second_lba ≡ second_lba r

-- two are the same, part by part
pub record AreSame (p q : Parts) : Type 0 where
  pub kind : p.kind ≡ q.kind
  pub first : p.first.now ≡ q.first.now
  pub second : p.second.now ≡ q.second.now
  pub byte : p.byte ≡ q.byte
  pub count : p.count ≡ q.count
  pub lba : p.lba ≡ q.lba
  pub second_lba : p.second_lba ≡ q.second_lba

-- if these are the parts of this command, it is found
abbrev pub Finds : Parts → Option Request → Request → Type 0
Finds p found r = IsCommand r → ArePartsOf p r → found ≡ Some r
