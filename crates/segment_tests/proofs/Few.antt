-- One segment, and two of them.
use Rattle.std.proofs.Common.{◌≡◌, ◌≢◌, ℕ, zero, suc, ◌-◌, ◌<◌, ◌≤◌, List, [], ◌∷◌, length, sym, ◌∙◌, arith, All}
use Rattle.std.proofs.lemmas.List.Elements.{All-get_or}
use Rattle.boot_codec.specs.Prelude.{SegmentFact, Place}
use Rattle.world.specs.Prelude.{Shelved}
use Rattle.segment_io.specs.Prelude.{ArePlaces}
use Rattle.segment_writer.specs.Prelude.{AreIndicesOf, AreApart, MayBePlaced}

of_one : (P : ℕ → Type 0) → P 0 → (n : ℕ) → n < 1 → P n
of_one P first zero lt = first
of_one P first (suc n) lt = absurd (omega (arith, lt))

of_two : (P : ℕ → Type 0) → P 0 → P 1 → (n : ℕ) → n < 2 → P n
of_two P first second zero lt = first
of_two P first second (suc zero) lt = second
of_two P first second (suc (suc n)) lt = absurd (omega (arith, lt))

-- so many sectors in one segment
pub one_placed : (shelf : Shelved) (d : SegmentFact) (staged : List (List ℕ)) (order : List ℕ) → ArePlaces shelf d.places → 1 ≤ length order → length order ≤ 840 → d.placed ≡ length order → AreIndicesOf staged order → MayBePlaced shelf (d ∷ []) staged order
one_placed shelf d staged order places some few placed indices = record {
  places = of_one _ places;
  apart = λ number other j k ne within within_too j_lt k_lt slots units. ne (omega (arith, within, within_too));
  filled = record { count = omega (arith, some, few); placed = of_one _ (omega (arith, placed, few)) };
  indices = indices;
}

-- segments of which one lies on units of one number, and the other doesn't
two_apart : (d e : SegmentFact) (unit : ℕ) → length d.places ≡ 9 → length e.places ≡ 9 → All (λ p. p.unit ≢ unit) d.places → All (λ p. p.unit ≡ unit) e.places → AreApart (d ∷ e ∷ [])
two_apart d e unit nine nine_too none all zero zero j k ne within within_too j_lt k_lt slots units = ne (omega arith)
two_apart d e unit nine nine_too none all zero (suc zero) j k ne within within_too j_lt k_lt slots units =
    All-get_or (λ (p : Place). p.unit ≢ unit) d.places j (record { slot = 0; unit = 0 }) (omega (arith, j_lt, nine)) none (units ∙ All-get_or (λ (p : Place). p.unit ≡ unit) e.places k (record { slot = 0; unit = 0 }) (omega (arith, k_lt, nine_too)) all)
two_apart d e unit nine nine_too none all (suc zero) zero j k ne within within_too j_lt k_lt slots units =
    All-get_or (λ (p : Place). p.unit ≢ unit) d.places k (record { slot = 0; unit = 0 }) (omega (arith, k_lt, nine)) none (sym units ∙ All-get_or (λ (p : Place). p.unit ≡ unit) e.places j (record { slot = 0; unit = 0 }) (omega (arith, j_lt, nine_too)) all)
two_apart d e unit nine nine_too none all (suc zero) (suc zero) j k ne within within_too j_lt k_lt slots units = ne (omega arith)
two_apart d e unit nine nine_too none all (suc (suc n)) other j k ne within within_too j_lt k_lt slots units = omega (arith, within)
two_apart d e unit nine nine_too none all zero (suc (suc n)) j k ne within within_too j_lt k_lt slots units = omega (arith, within_too)
two_apart d e unit nine nine_too none all (suc zero) (suc (suc n)) j k ne within within_too j_lt k_lt slots units = omega (arith, within_too)

-- so many sectors in two segments
pub two_placed : (shelf : Shelved) (d e : SegmentFact) (unit : ℕ) (staged : List (List ℕ)) (order : List ℕ) → ArePlaces shelf d.places → ArePlaces shelf e.places → All (λ p. p.unit ≢ unit) d.places → All (λ p. p.unit ≡ unit) e.places → 840 < length order → length order ≤ 1680
    → d.placed ≡ 840 → e.placed ≡ length order - 840 → AreIndicesOf staged order → MayBePlaced shelf (d ∷ e ∷ []) staged order
two_placed shelf d e unit staged order places more none all many few placed rest indices = record {
  places = of_two _ places more;
  apart = two_apart d e unit places.nine more.nine none all;
  filled = record { count = omega (arith, many, few); placed = of_two _ (omega (arith, placed, many)) (omega (arith, rest, few)) };
  indices = indices;
}
