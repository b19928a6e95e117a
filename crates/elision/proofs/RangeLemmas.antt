-- A set of ids with more ids.
use Rattle.elision.proofs.Prelude.{nat_tests, ◌≡◌, ◌⊎◌, ◌↔◌, ℕ, zero, suc, ◌+◌, ◌<◌, ◌≤◌, Bool, true, false, List, [], ◌∷◌, refl, sym, ◌∙◌, arith, inl, inr, min, max, nat_lt, nat_le, ◌&&◌, ◌||◌, if◌then◌else◌, ltb-true, ltb-false, le-leb, AllByRecursion, cases_lt, false≢true, All, AllPairs, is_within, AreApart, with_range}

-- the id lies in one of the ranges
abbrev pub IsIn : List (ℕ × ℕ) → ℕ → Type 0
IsIn [] id = ⊥
IsIn (r ∷ rs) id = ((r.0 ≤ id) × (id ≤ r.1)) ⊎ IsIn rs id

-- apart, range by range
abbrev pub Apart : List (ℕ × ℕ) → Type 0
Apart [] = Unit {0}
Apart (r ∷ rs) = (r.0 ≤ r.1) × AllByRecursion (λ s. r.1 + 1 < s.0) rs × Apart rs

pub in_with : (first last : ℕ) (rs : List (ℕ × ℕ)) (id : ℕ) → first ≤ last → Apart rs → IsIn (with_range first last rs) id ↔ (IsIn rs id ⊎ ((first ≤ id) × (id ≤ last)))
in_with first last [] id le h = ((λ i. elim i [ inl a ↦ inr a | inr b ↦ absurd b ]), (λ i. elim i [ inl a ↦ absurd a | inr b ↦ inl b ]))
in_with first last (r ∷ rs) id le h =
    one (in_with first last rs id le h.2) (in_with (min first r.0) (max last r.1) rs id (omega (arith, le)) h.2) (nat_lt (r.1 + 1) first) (nat_lt (last + 1) r.0) refl refl
  where
    one : (IsIn (with_range first last rs) id ↔ (IsIn rs id ⊎ ((first ≤ id) × (id ≤ last))))
        → (IsIn (with_range (min first r.0) (max last r.1) rs) id ↔ (IsIn rs id ⊎ ((min first r.0 ≤ id) × (id ≤ max last r.1))))
        → (p q : Bool) → nat_lt (r.1 + 1) first ≡ p → nat_lt (last + 1) r.0 ≡ q
        → IsIn (if p then r ∷ with_range first last rs else if q then (first, last) ∷ r ∷ rs else with_range (min first r.0) (max last r.1) rs) id ↔ (IsIn (r ∷ rs) id ⊎ ((first ≤ id) × (id ≤ last)))
    one i j true q e f = (
      (λ x. elim x [ inl a ↦ inl (inl a) | inr b ↦ elim (i.0 b) [ inl c ↦ inl (inr c) | inr d ↦ inr d ] ]),
      (λ x. elim x [ inl a ↦ elim a [ inl b ↦ inl b | inr c ↦ inr (i.1 (inl c)) ] | inr d ↦ inr (i.1 (inr d)) ]),
    )
    one i j false true e f = (
      (λ x. elim x [ inl a ↦ inr a | inr b ↦ inl b ]),
      (λ x. elim x [ inl a ↦ inr a | inr b ↦ inl b ]),
    )
    one i j false false e f =
        let low = ltb-false _ _ e in
        let high = ltb-false _ _ f in (
          (λ x. elim (j.0 x) [
            | inl a ↦ inl (inr a)
            | inr b ↦
                let b0 = b.0 in let b1 = b.1 in
                elim (cases_lt id first) [
                  | inr c ↦ elim (cases_lt last id) [ inr d ↦ inr (c, d) | inl d ↦ inl (inl (omega (arith, b0, b1, c, d, high, le), omega (arith, b1, d))) ]
                  | inl c ↦ inl (inl (omega (arith, b0, c), omega (arith, c, low)))
                ]
          ]),
          (λ x. elim x [
            | inl a ↦ elim a [ inl b ↦ (let b0 = b.0 in let b1 = b.1 in j.1 (inr (omega (arith, b0), omega (arith, b1)))) | inr c ↦ j.1 (inl c) ]
            | inr d ↦ (let d0 = d.0 in let d1 = d.1 in j.1 (inr (omega (arith, d0), omega (arith, d1))))
          ]),
        )

all_above : (n m : ℕ) (rs : List (ℕ × ℕ)) → n ≤ m → AllByRecursion (λ s. m < s.0) rs → AllByRecursion (λ s. n < s.0) rs
all_above n m [] le h = tt
all_above n m (r ∷ rs) le h = (let a = h.0 in omega (arith, le, a), all_above n m rs le h.1)

above_with : (n first last : ℕ) (rs : List (ℕ × ℕ)) → n < first → AllByRecursion (λ s. n < s.0) rs → AllByRecursion (λ s. n < s.0) (with_range first last rs)
above_with n first last [] l h = (l, tt)
above_with n first last (r ∷ rs) l h =
    one (above_with n first last rs l h.1) (above_with n (min first r.0) (max last r.1) rs (let a = h.0 in omega (arith, l, a)) h.1) (nat_lt (r.1 + 1) first) (nat_lt (last + 1) r.0)
  where
    one : AllByRecursion (λ s. n < s.0) (with_range first last rs) → AllByRecursion (λ s. n < s.0) (with_range (min first r.0) (max last r.1) rs) → (p q : Bool)
        → AllByRecursion (λ s. n < s.0) (if p then r ∷ with_range first last rs else if q then (first, last) ∷ r ∷ rs else with_range (min first r.0) (max last r.1) rs)
    one i j true q = (h.0, i)
    one i j false true = (l, h)
    one i j false false = j

pub apart_with : (first last : ℕ) (rs : List (ℕ × ℕ)) → first ≤ last → Apart rs → Apart (with_range first last rs)
apart_with first last [] le h = (le, tt, tt)
apart_with first last (r ∷ rs) le h =
    one (apart_with first last rs le h.2) (apart_with (min first r.0) (max last r.1) rs (omega (arith, le)) h.2) (nat_lt (r.1 + 1) first) (nat_lt (last + 1) r.0) refl refl
  where
    one : Apart (with_range first last rs) → Apart (with_range (min first r.0) (max last r.1) rs) → (p q : Bool) → nat_lt (r.1 + 1) first ≡ p → nat_lt (last + 1) r.0 ≡ q
        → Apart (if p then r ∷ with_range first last rs else if q then (first, last) ∷ r ∷ rs else with_range (min first r.0) (max last r.1) rs)
    one i j true q e f = (h.0, above_with (r.1 + 1) first last rs (ltb-true _ _ e) h.1, i)
    one i j false true e f =
        let up = ltb-true _ _ f in let whole = h.0 in
        (le, (up, all_above (last + 1) (r.1 + 1) rs (omega (arith, up, whole)) h.1), h)
    one i j false false e f = j

test_in : (r : ℕ × ℕ) (id : ℕ) → (nat_le r.0 id && nat_le id r.1) ≡ true → (r.0 ≤ id) × (id ≤ r.1)
test_in r id e = grind (arith, nat_tests)

in_test : (r : ℕ × ℕ) (id : ℕ) → r.0 ≤ id → id ≤ r.1 → (nat_le r.0 id && nat_le id r.1) ≡ true
in_test r id low high = rw (le-leb r.0 id low, le-leb id r.1 high) refl

-- the test of the ranges, and what it means
pub in_within : (rs : List (ℕ × ℕ)) (id : ℕ) → IsIn rs id ↔ (is_within rs id ≡ true)
in_within [] id = ((λ h. absurd h), (λ e. cc))
in_within (r ∷ rs) id = one (nat_le r.0 id && nat_le id r.1) refl (in_within rs id)
  where
    one : (a : Bool) → (nat_le r.0 id && nat_le id r.1) ≡ a → IsIn rs id ↔ (is_within rs id ≡ true) → IsIn (r ∷ rs) id ↔ ((a || is_within rs id) ≡ true)
    one true p i = ((λ h. refl), (λ e. inl (test_in r id p)))
    one false p i = (
      (λ h. elim h [ inl a ↦ absurd (false≢true (sym p ∙ in_test r id a.0 a.1)) | inr b ↦ i.0 b ]),
      (λ e. inr (i.1 e)),
    )

all_recursion : (n : ℕ) (rs : List (ℕ × ℕ)) → All (λ s. n < s.0) rs → AllByRecursion (λ s. n < s.0) rs
all_recursion n [] h = tt
all_recursion n (r ∷ rs) h = (h 0 r (omega arith), all_recursion n rs (λ k d l. h (suc k) d (omega (arith, l))))

recursion_all : (n : ℕ) (rs : List (ℕ × ℕ)) → AllByRecursion (λ s. n < s.0) rs → All (λ s. n < s.0) rs
recursion_all n [] h k d l = absurd (omega (arith, l))
recursion_all n (r ∷ rs) h zero d l = h.0
recursion_all n (r ∷ rs) h (suc k) d l = recursion_all n rs h.1 k d (omega (arith, l))

-- both ways of saying that ranges are apart
pub apart_by_range : (rs : List (ℕ × ℕ)) → AreApart rs → Apart rs
apart_by_range [] h = tt
apart_by_range (r ∷ rs) h = (
  h.whole 0 r (omega arith),
  all_recursion (r.1 + 1) rs (λ k d l. h.apart 0 (suc k) d (omega arith) (omega (arith, l))),
  apart_by_range rs (record {
    whole = λ k d l. h.whole (suc k) d (omega (arith, l));
    apart = λ i j d l m. h.apart (suc i) (suc j) d (omega (arith, l)) (omega (arith, m));
  }),
)

pub apart_by_index : (rs : List (ℕ × ℕ)) → Apart rs → AreApart rs
apart_by_index [] h = record { whole = λ k d l. absurd (omega (arith, l)); apart = λ i j d l m. absurd (omega (arith, m)) }
apart_by_index (r ∷ rs) h = one (apart_by_index rs h.2)
  where
    whole : AreApart rs → All (λ s. s.0 ≤ s.1) (r ∷ rs)
    whole inner zero d l = h.0
    whole inner (suc k) d l = inner.whole k d (omega (arith, l))

    apart : AreApart rs → AllPairs (λ a b. a.1 + 1 < b.0) (r ∷ rs)
    apart inner i zero d l m = absurd (omega (arith, l))
    apart inner zero (suc j) d l m = recursion_all (r.1 + 1) rs h.1 j d (omega (arith, m))
    apart inner (suc i) (suc j) d l m = inner.apart i j d (omega (arith, l)) (omega (arith, m))

    one : AreApart rs → AreApart (r ∷ rs)
    one inner = record { whole = whole inner; apart = apart inner }

-- a range more keeps ranges apart
pub keeps_apart : (first last : ℕ) (rs : List (ℕ × ℕ)) → first ≤ last → AreApart rs → AreApart (with_range first last rs)
keeps_apart first last rs le h = apart_by_index (with_range first last rs) (apart_with first last rs le (apart_by_range rs h))

-- and has its ids and no others
pub within_with : (first last : ℕ) (rs : List (ℕ × ℕ)) (id : ℕ) → first ≤ last → AreApart rs
    → (is_within (with_range first last rs) id ≡ true) ↔ ((is_within rs id ≡ true) ⊎ ((first ≤ id) × (id ≤ last)))
within_with first last rs id le h =
    let both = in_with first last rs id le (apart_by_range rs h) in
    let new = in_within (with_range first last rs) id in
    let old = in_within rs id in (
      (λ e. elim (both.0 (new.1 e)) [ inl a ↦ inl (old.0 a) | inr b ↦ inr b ]),
      (λ h. elim h [ inl a ↦ new.0 (both.1 (inl (old.1 a))) | inr b ↦ new.0 (both.1 (inr b)) ]),
    )
