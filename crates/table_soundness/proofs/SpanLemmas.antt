-- Spans in the order of their ranks.
use Rattle.table_soundness.proofs.Prelude.{nat_tests, ◌≡◌, ℕ, zero, suc, ◌+◌, ◌-◌, ◌*◌, ◌^◌, ◌<◌, ◌≤◌, ◌∙◌, List, length, get_or, refl, sym, ap, subst, arith, inl, inr, Ordering, Less, Equal, Greater, nat_cmp, All, AllPairs, lt-ltb, le-ltb, eq-eqb, ne_eqb, IsNonDecreasingBy, ordering_then, cases_lt, Span, rank, BothGrow, Follows, IsSpan}

cmp_less : (x y : ℕ) → x < y → nat_cmp x y ≡ Less
cmp_less x y l = rw (lt-ltb x y l) refl

cmp_more : (x y : ℕ) → y < x → nat_cmp x y ≡ Greater
cmp_more x y l = rw (le-ltb x y (omega (arith, l))) (rw (ne_eqb x y (λ e. omega (arith, l, e))) refl)

cmp_same : (x y : ℕ) → x ≡ y → nat_cmp x y ≡ Equal
cmp_same x y e = rw (le-ltb x y (omega (arith, e))) (rw (eq-eqb x y e) refl)

cmp_as : (x y p q : ℕ) → (x < y → p < q) → (y < x → q < p) → (x ≡ y → p ≡ q) → nat_cmp x y ≡ nat_cmp p q
cmp_as x y p q less more same = grind (arith, nat_tests, cmp_less, cmp_more, cmp_same)

then_as : (x y p q : ℕ) (r : Ordering) → (x < y → p < q) → (y < x → q < p) → (x ≡ y → r ≡ nat_cmp p q) → ordering_then (nat_cmp x y) r ≡ nat_cmp p q
then_as x y p q r less more same = grind (arith, nat_tests, cmp_less, cmp_more, cmp_same)

-- ranks over plain numbers
first_less : (a b x y u v : ℕ) → x < 2 ^ 128 → y < 2 ^ 128 → u < 2 ^ 64 → v < 2 ^ 64 → a < b → (a * 2 ^ 128 + x) * 2 ^ 64 + u < (b * 2 ^ 128 + y) * 2 ^ 64 + v
first_less a b x y u v hx hy hu hv l = omega (arith, hx, hy, hu, hv, l)

second_less : (a b x y u v : ℕ) → u < 2 ^ 64 → v < 2 ^ 64 → a ≡ b → x < y → (a * 2 ^ 128 + x) * 2 ^ 64 + u < (b * 2 ^ 128 + y) * 2 ^ 64 + v
second_less a b x y u v hu hv e l = omega (arith, hu, hv, e, l)

pub order_is : (s t : Span) → s.end < 2 ^ 128 → t.end < 2 ^ 128 → s.number < 2 ^ 64 → t.number < 2 ^ 64
    → ordering_then (nat_cmp s.start t.start) (ordering_then (nat_cmp t.end s.end) (nat_cmp t.number s.number)) ≡ nat_cmp (rank s) (rank t)
order_is s t se te sn tn = grind (arith, nat_tests, then_as, first_less, second_less, cmp_as)

-- what the order of ranks says
pub record IsBefore (s t : Span) : Type 0 where
  pub start : s.start ≤ t.start
  pub end : s.start ≡ t.start → t.end ≤ s.end
  pub number : s.start ≡ t.start → s.end ≡ t.end → t.number ≤ s.number

pub before : (s t : Span) → IsSpan s → IsSpan t → rank s ≤ rank t → IsBefore s t
before s t hs ht le = grind (arith, nat_tests, first_less, second_less)

-- each of the first spans is followed by the next one
abbrev pub AreNear : List Span → ℕ → Type 0
AreNear spans n = (j : ℕ) (d : Span) → suc j < n → Follows (get_or spans j d) (get_or spans (suc j) d)

pub near_more : (spans : List Span) (i : ℕ) → 1 ≤ i → i < length spans → ((d : Span) → Follows (get_or spans (i - 1) d) (get_or spans i d)) → AreNear spans i → AreNear spans (i + 1)
near_more spans i one l last near j d m = grind (arith, nat_tests, suc, get_or)

module _ (spans : List Span) (sorted : IsNonDecreasingBy rank spans) (all : All IsSpan spans) where
  pub before_at : (i j : ℕ) (d : Span) → i ≤ j → j < length spans → IsBefore (get_or spans i d) (get_or spans j d)
  before_at i j d le l = before (get_or spans i d) (get_or spans j d) (all i d (omega (arith, le, l))) (all j d l) (sorted i j d le l)

  newest_first : AreNear spans (length spans) → (i j : ℕ) (d : Span) → i < j → j < length spans → Follows (get_or spans i d) (get_or spans j d)
  newest_first near i zero d low l same = absurd (omega (arith, low))
  newest_first near i (suc j) d low l same = elim (cases_lt i j) [
    | inl under ↦
        let a = (before_at i j d (omega (arith, under)) (omega (arith, l))).start in
        let b = (before_at j (suc j) d (omega arith) l).start in
        let mid : (get_or spans i d).start ≡ (get_or spans j d).start = omega (arith, a, b, same) in
        let one = newest_first near i j d under (omega (arith, l)) mid in
        let two = near j d l (sym mid ∙ same) in
        omega (arith, one, two)
    | inr over ↦
        let is : j ≡ i = omega (arith, low, over) in
        subst (λ n. (get_or spans (suc j) d).number ≤ (get_or spans n d).number) is (near j d l (ap (λ n. (get_or spans n d).start) is ∙ same))
  ]

  pub grown_from_near : AreNear spans (length spans) → AllPairs BothGrow spans
  grown_from_near near i j d low l = grind (arith, nat_tests, newest_first, before_at)

  pub follows_from_grown : AllPairs BothGrow spans → (i j : ℕ) (d : Span) → i < j → j < length spans → Follows (get_or spans i d) (get_or spans j d)
  follows_from_grown h i j d low l same = grind (arith, nat_tests, get_or, before_at)
