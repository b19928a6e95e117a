-- What begins with a number, or with places, begins with no other.
use Rattle.std.proofs.lemmas.Bool.Decides.{nat_tests}
use Rattle.std.proofs.Common.{◌≡◌, ℕ, ◌*◌, ◌^◌, ◌<◌, List, [], ◌∷◌, ◌++◌, length, take, drop, refl, ap, sym, ◌∙◌, append_assoc, arith}
use Rattle.std.specs.List.{AllByRecursion}
use Rattle.std.proofs.lemmas.List.{take_at, drop_at, length-append, length-replicate}
use Rattle.std.proofs.lemmas.List.Concat.{flat_map-cons}
use Rattle.pur_base.specs.Bytes.{u8, u16, u32, u64, zeros}
use Rattle.pur_base.specs.declared.place.Place.{Place}
use Rattle.pur_base.specs.Places.{place_bytes, places_bytes, FitsBytes}

-- zeros of some count are as many as they are
pub zeros_are : (xs : List ℕ) (n : ℕ) → xs ≡ zeros n → xs ≡ zeros (length xs)
zeros_are xs n e = e ∙ ap zeros (sym (ap length e ∙ length-replicate {A = ℕ} n 0))

-- fronts of one length
pub same_front : (a b r s : List ℕ) → length a ≡ length b → a ++ r ≡ b ++ s → (a ≡ b) × (r ≡ s)
same_front a b r s len e = (
  sym (take_at a r (length b) len) ∙ ap (take (length b)) e ∙ take_at b s (length b) refl,
  sym (drop_at a r (length b) len) ∙ ap (drop (length b)) e ∙ drop_at b s (length b) refl,
)

pub same_u8 : (m n : ℕ) (r s : List ℕ) → u8 m ++ r ≡ u8 n ++ s → (m ≡ n) × (r ≡ s)
same_u8 m n r s e = (cc, cc)

pub same_u16 : (m n : ℕ) (r s : List ℕ) → m < 2 ^ 16 → n < 2 ^ 16 → u16 m ++ r ≡ u16 n ++ s → (m ≡ n) × (r ≡ s)
same_u16 m n r s m-fits n-fits e = grind (arith, nat_tests)

pub same_u32 : (m n : ℕ) (r s : List ℕ) → m < 2 ^ 32 → n < 2 ^ 32 → u32 m ++ r ≡ u32 n ++ s → (m ≡ n) × (r ≡ s)
same_u32 m n r s m-fits n-fits e = grind (arith, nat_tests)

pub same_u64 : (m n : ℕ) (r s : List ℕ) → m < 2 ^ 64 → n < 2 ^ 64 → u64 m ++ r ≡ u64 n ++ s → (m ≡ n) × (r ≡ s)
same_u64 m n r s m-fits n-fits e = grind (arith, nat_tests)

same_place : (p q : Place) (r s : List ℕ) → FitsBytes p → FitsBytes q → place_bytes p ++ r ≡ place_bytes q ++ s → (p ≡ q) × (r ≡ s)
same_place p q r s p-fits q-fits e = grind (arith, nat_tests)

-- as many places
pub same_places : (ps qs : List Place) (r s : List ℕ) → length ps ≡ length qs → AllByRecursion FitsBytes ps → AllByRecursion FitsBytes qs
    → places_bytes ps ++ r ≡ places_bytes qs ++ s → (ps ≡ qs) × (r ≡ s)
same_places [] [] r s len ps-fit qs-fit e = (refl, e)
same_places [] (q ∷ qs) r s len ps-fit qs-fit e = absurd cc
same_places (p ∷ ps) [] r s len ps-fit qs-fit e = absurd cc
same_places (p ∷ ps) (q ∷ qs) r s len ps-fit qs-fit e =
    let split : (x : Place) (xs : List Place) (t : List ℕ) → places_bytes (x ∷ xs) ++ t ≡ place_bytes x ++ (places_bytes xs ++ t) =
    λ x xs t. ap (λ (y : List ℕ). y ++ t) (flat_map-cons place_bytes x xs) ∙ append_assoc (place_bytes x) (places_bytes xs) t in
    let a = same_place p q (places_bytes ps ++ r) (places_bytes qs ++ s) ps-fit.0 qs-fit.0 (sym (split p ps r) ∙ e ∙ split q qs s) in
    let lens : length ps ≡ length qs = omega arith in
    let b = same_places ps qs r s lens ps-fit.1 qs-fit.1 a.1 in
    (cc (a.0, b.0), b.1)

pub length-places_bytes : (ps : List Place) → length (places_bytes ps) ≡ 3 * length ps
length-places_bytes [] = refl
length-places_bytes (p ∷ ps) = ap length (flat_map-cons place_bytes p ps) ∙ omega (arith, length-append (place_bytes p) (places_bytes ps), length-places_bytes ps)
