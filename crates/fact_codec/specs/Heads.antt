-- The head of a fact: the fields that facts of all tables have.
use Rattle.std.specs.Prelude.{◌≡◌, ℕ, ◌<◌, ◌^◌, List, ◌++◌, length}
use Rattle.pur_base.specs.Prelude.{u8, u32, u64, tag_of, table_tag, any_number}
use Rattle.pur_base.specs.declared.facts.AddressFact.{AddressFact}
use Rattle.pur_base.specs.declared.request.Table.{Table}
use Rattle.pur_base.specs.declared.facts.AnyFact.{AnyFact}
use Rattle.fact_codec.specs.declared.head.Head.{Head}
use Rattle.fact_codec.specs.Fact.{kind_code, target_code, name_of, sectors_of, id_field, second_field}

-- the bytes of a head
abbrev pub head_bytes : Head → List ℕ
head_bytes h = u8 h.tag ++ u8 h.kind ++ u8 h.name_len ++ u8 h.zero ++ u32 h.sectors ++ u64 h.id ++ u64 h.second ++ u64 h.number

-- the head of a fact that has a key and a sequence number alone
abbrev pub head_of_key : Table → ℕ → ℕ → ℕ → Head
head_of_key table id second number =
    record { tag = tag_of table; kind = 0; name_len = 0; zero = 0; sectors = 0; id = id; second = second; number = number }

-- the head of a fact
abbrev pub head_of : AnyFact → Head
head_of f = record {
  tag = table_tag f;
  kind = kind_code f;
  name_len = length (name_of f);
  zero = 0;
  sectors = sectors_of f;
  id = id_field f;
  second = second_field f;
  number = any_number f;
}

-- the numbers of more than one byte fit
pub record FitsHead (h : Head) : Type 0 where
  pub sectors : h.sectors < 2 ^ 32
  pub id : h.id < 2 ^ 64
  pub second : h.second < 2 ^ 64
  pub number : h.number < 2 ^ 64

-- the first eight bytes of an address of that kind: its tag, its kind and zeros
abbrev pub address_front : ℕ → List ℕ
address_front kind = u8 3 ++ u8 kind ++ u8 0 ++ u8 0 ++ u32 0

-- an address has no name and no size
pub record IsAddressHead (h : Head) : Type 0 where
  pub tag : h.tag ≡ 3
  pub name_len : h.name_len ≡ 0
  pub zero : h.zero ≡ 0
  pub sectors : h.sectors ≡ 0

-- the other fields are those of the address
pub record HasAddress (h : Head) (f : AddressFact) : Type 0 where
  pub kind : h.kind ≡ target_code f.target
  pub id : h.id ≡ f.medium.0
  pub second : h.second ≡ f.sector
  pub number : h.number ≡ f.seq.0
