-- Bytes spell one fact.
use Rattle.fact_codec.proofs.Prelude.{nat_tests, ◌≡◌, ℕ, List, ◌++◌, refl, ap, append_assoc, arith, u16, u64, zeros, padded, tag_of, places_bytes, same_front, same_u16, same_u64, same_places, Table, ObjectFact, MediumFact, SegmentFact, AnyFact, VALUE_BYTES, value_bytes, target_bytes, target_code, FitsTarget, IsFact, Decodes, head_of}
use Rattle.pur_base.specs.declared.request.Table.TheVariants as table
use Rattle.pur_base.specs.declared.facts.Target.{Target}
use Rattle.pur_base.specs.declared.facts.Target.TheVariants.{Stored, Zero}
use Rattle.pur_base.specs.declared.facts.AddressFact.{AddressFact}
use Rattle.pur_base.specs.declared.facts.ElisionFact.{ElisionFact}
use Rattle.pur_base.specs.declared.facts.AnyFact.TheVariants as any
use Rattle.fact_codec.proofs.ValueLemmas.{name_fits, object_fills}
use Rattle.fact_codec.proofs.HeadLemmas.{spelled, fits_head, is_spelled}
use Rattle.fact_codec.proofs.FieldLemmas.{object_is, same_kind, fits_range, range_is}

-- two facts of one head and one value
record AreAlike (f g : AnyFact) : Type 0 where
  head : head_of f ≡ head_of g
  value : padded VALUE_BYTES (value_bytes f) ≡ padded VALUE_BYTES (value_bytes g)

same_object : (f g : ObjectFact) → IsFact (any.Object f) → IsFact (any.Object g) → AreAlike (any.Object f) (any.Object g) → f ≡ g
same_object f g is is2 e = grind (arith, nat_tests, same_kind, object_is, padded, object_fills, name_fits, same_front, zeros)

same_medium : (f g : MediumFact) → IsFact (any.Medium f) → IsFact (any.Medium g) → AreAlike (any.Medium f) (any.Medium g) → f ≡ g
same_medium f g is is2 e = grind (arith, nat_tests, fits_range, u64, zeros, range_is, padded)

same_target : (s t : Target) → FitsTarget s → FitsTarget t → target_code s ≡ target_code t → padded VALUE_BYTES (target_bytes s) ≡ padded VALUE_BYTES (target_bytes t) → s ≡ t
same_target (Stored a) (Stored b) fits fits2 code e =
    let segment = same_u64 a.segment.0 b.segment.0 (u16 a.index ++ zeros 22) (u16 b.index ++ zeros 22) fits.0 fits2.0 e in
    let index = same_u16 a.index b.index (zeros 22) (zeros 22) fits.1 fits2.1 segment.1 in
    λ i. Stored (record { segment = record { 0 = segment.0 i }; index = index.0 i })
same_target (Stored a) Zero fits fits2 code e = absurd (cc code)
same_target Zero (Stored b) fits fits2 code e = absurd (cc code)
same_target Zero Zero fits fits2 code e = refl

same_address : (f g : AddressFact) → IsFact (any.Address f) → IsFact (any.Address g) → AreAlike (any.Address f) (any.Address g) → f ≡ g
same_address f g is is2 e = grind (arith, nat_tests, same_target)

same_segment : (f g : SegmentFact) → IsFact (any.Segment f) → IsFact (any.Segment g) → AreAlike (any.Segment f) (any.Segment g) → f ≡ g
same_segment f g is is2 e = grind (arith, nat_tests, zeros, padded, places_bytes, u16, append_assoc, same_places, same_u16)

same_table : (a b : Table) → tag_of a ≡ tag_of b → a ≡ b
same_table table.Object table.Object e = refl
same_table table.Medium table.Medium e = refl
same_table table.Address table.Address e = refl
same_table table.Segment table.Segment e = refl
same_table table.Elision table.Elision e = refl
same_table _ _ e = absurd (cc e)

same_elision : (f g : ElisionFact) → IsFact (any.Elision f) → IsFact (any.Elision g) → AreAlike (any.Elision f) (any.Elision g) → f ≡ g
same_elision f g is is2 e = grind (arith, nat_tests, same_table, same_u64, zeros)

alike : (f g : AnyFact) → IsFact f → IsFact g → AreAlike f g → f ≡ g
alike (any.Object f) (any.Object g) is is2 e = ap any.Object (same_object f g is is2 e)
alike (any.Medium f) (any.Medium g) is is2 e = ap any.Medium (same_medium f g is is2 e)
alike (any.Address f) (any.Address g) is is2 e = ap any.Address (same_address f g is is2 e)
alike (any.Segment f) (any.Segment g) is is2 e = ap any.Segment (same_segment f g is is2 e)
alike (any.Elision f) (any.Elision g) is is2 e = ap any.Elision (same_elision f g is is2 e)
alike _ _ is is2 e = absurd (cc (ap (λ x. x.tag) e.head))

-- bytes spell one fact
pub one_fact : (text : List ℕ) (f g : AnyFact) → Decodes text f → Decodes text g → f ≡ g
one_fact text f g first second = grind (arith, nat_tests, is_spelled, padded, spelled, fits_head, alike)
