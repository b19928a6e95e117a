-- The fields of a value that spells a fact are the fact's.
use Rattle.fact_codec.proofs.Prelude.{nat_tests, ◌≡◌, ℕ, ◌-◌, ◌^◌, ◌<◌, List, ◌++◌, length, refl, append_assoc, arith, u16, u64, zeros, padded, places_bytes, FitsBytes, same_u16, same_u64, same_places, NAME_BYTES, SEGMENT_SHARDS, ObjectFact, MediumFact, SegmentFact, VALUE_BYTES, object_code, value_bytes, IsFact}
use Rattle.std.specs.List.{AllByRecursion}
use Rattle.pur_base.specs.declared.place.Place.{Place}
use Rattle.pur_base.specs.declared.facts.ObjectKind.{ObjectKind}
use Rattle.pur_base.specs.declared.facts.ObjectKind.TheVariants.{Volume, Snapshot}
use Rattle.pur_base.specs.declared.facts.AnyFact.TheVariants as any
use Rattle.fact_codec.proofs.ValueLemmas.{name_fits, object_fills}

-- ---- objects

-- the medium of a value is that of the object that it spells, and the name's room is behind it
pub object_is : (value r : List ℕ) (medium : ℕ) (f : ObjectFact) → medium < 2 ^ 64 → value ≡ u64 medium ++ r
    → IsFact (any.Object f) → value ≡ padded VALUE_BYTES (value_bytes (any.Object f)) → (medium ≡ f.medium.0) × (r ≡ padded NAME_BYTES f.name)
object_is value r medium f fits e is bytes = grind (arith, nat_tests, padded, u64, object_fills, name_fits, same_u64)

-- kinds with one code are one
pub same_kind : (a b : ObjectKind) → object_code a ≡ object_code b → a ≡ b
same_kind Volume Volume e = refl
same_kind Volume Snapshot e = absurd cc
same_kind Snapshot Volume e = absurd cc
same_kind Snapshot Snapshot e = refl

-- ---- ranges of mediums

-- the numbers of a range are numbers of 64 bits
pub record FitsRange (f : MediumFact) : Type 0 where
  pub end : f.end < 2 ^ 64
  pub target : f.target.0 < 2 ^ 64
  pub start : f.target_start < 2 ^ 64

pub fits_range : (f : MediumFact) → IsFact (any.Medium f) → FitsRange f
fits_range f h = grind (arith, nat_tests)

-- the numbers of a value are those of the range that it spells, and zeros stand behind them
pub range_is : (value r s t : List ℕ) (end target start : ℕ) (f : MediumFact) → end < 2 ^ 64 → target < 2 ^ 64 → start < 2 ^ 64
    → value ≡ u64 end ++ r → r ≡ u64 target ++ s → s ≡ u64 start ++ t
    → IsFact (any.Medium f) → value ≡ padded VALUE_BYTES (value_bytes (any.Medium f))
    → (end ≡ f.end) × (target ≡ f.target.0) × (start ≡ f.target_start) × (t ≡ zeros 8)
range_is value r s t end target start f end-fits target-fits start-fits e-end e-target e-start is bytes = grind (arith, nat_tests, fits_range, u64, zeros, same_u64)

-- ---- segments

-- the fields of a value are those of the segment that it spells, and zeros stand behind them
pub segment_is : (value r t : List ℕ) (places : List Place) (placed : ℕ) (f : SegmentFact)
    → length places ≡ SEGMENT_SHARDS → AllByRecursion FitsBytes places → placed < 2 ^ 16
    → value ≡ places_bytes places ++ r → r ≡ u16 placed ++ t
    → IsFact (any.Segment f) → value ≡ padded VALUE_BYTES (value_bytes (any.Segment f))
    → (places ≡ f.places) × (placed ≡ f.placed) × (t ≡ zeros (VALUE_BYTES - length (value_bytes (any.Segment f))))
segment_is value r t places placed f nine places-fit placed-fits e-places e-placed is bytes = grind (arith, nat_tests, zeros, padded, places_bytes, u16, append_assoc, same_places, same_u16)
