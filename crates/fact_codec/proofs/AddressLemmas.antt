-- Addresses by their first eight bytes, and the head that these give.
use Rattle.fact_codec.proofs.Prelude.{◌≡◌, ℕ, List, ◌++◌, refl, sym, ◌∙◌, u64, padded, same_front, target_bytes, target_code, Decodes, Head, head_of, VALUE_BYTES}
use Rattle.pur_base.specs.declared.facts.AddressFact.{AddressFact}
use Rattle.pur_base.specs.declared.facts.AnyFact.TheVariants as any
use Rattle.fact_codec.specs.Heads.{address_front, HasAddress, IsAddressHead}
use Rattle.fact_codec.proofs.HeadLemmas.{spelled}

-- bytes that spell an address begin as addresses of its kind do
pub front_is : (bytes rest : List ℕ) (front : ℕ) (f : AddressFact) → bytes ≡ u64 front ++ rest → Decodes bytes (any.Address f) → u64 front ≡ address_front (target_code f.target)
front_is bytes rest front f field spells =
    (same_front (u64 front) (address_front (target_code f.target)) rest (u64 f.medium.0 ++ u64 f.sector ++ u64 f.seq.0 ++ padded VALUE_BYTES (target_bytes f.target)) refl (sym field ∙ spells.bytes ∙ spelled (any.Address f))).0

-- a head that has the fields of an address, and no others, is the address's
pub headed : (h : Head) (f : AddressFact) → IsAddressHead h → HasAddress h f → h ≡ head_of (any.Address f)
headed h f plain has = λ i. record {
  tag = plain.tag i;
  kind = has.kind i;
  name_len = plain.name_len i;
  zero = plain.zero i;
  sectors = plain.sectors i;
  id = has.id i;
  second = has.second i;
  number = has.number i;
}
