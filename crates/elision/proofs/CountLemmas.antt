-- How many ranges there are.
use Rattle.elision.proofs.Prelude.{◌≡◌, ℕ, zero, suc, ◌+◌, ◌-◌, ◌<◌, ◌≤◌, Bool, true, false, List, [], ◌∷◌, length, refl, sym, ap, ◌∙◌, arith, inl, inr, cond, not, count_by, All, AllByRecursion, range_with_len, cases_lt, is_within, AreApart}
use Rattle.std.proofs.lemmas.List.Sums.{sum_by-cons}
use Rattle.elision.proofs.RangeLemmas.{Apart, apart_by_range}
use Rattle.elision.proofs.SearchLemmas.{out_test}

-- an id in front counts if it passes
count_first : (p : ℕ → Bool) (a b n : ℕ) → a + 1 ≡ b → count_by p (range_with_len a (suc n)) ≡ cond (p a) 1 0 + count_by p (range_with_len b n)
count_first p a b n e = rw (← e) (sum_by-cons (λ x. cond (p x) 1 0) a (range_with_len (a + 1) n))

-- fewer ids pass where there are fewer
count_skip : (p : ℕ → Bool) (a b m n : ℕ) → a ≤ b → b + m ≡ a + n → count_by p (range_with_len b m) ≤ count_by p (range_with_len a n)
count_skip p a b m zero le e = let none : m ≡ 0 = omega (arith, le, e) in rw none (omega arith)
count_skip p a b m (suc n) le e = elim (cases_lt a b) [
  | inl less ↦
      let inner : count_by p (range_with_len b m) ≤ count_by p (range_with_len (a + 1) n) = count_skip p (a + 1) b m n (omega (arith, less)) (omega (arith, e)) in
      let front = count_first p a (a + 1) n refl in
      omega (arith, inner, front)
  | inr more ↦ let same : b ≡ a = omega (arith, le, more) in let equal : m ≡ suc n = omega (arith, e, same) in rw (same, equal) (omega arith)
]

-- two tests that agree from an id on
count_same : (p q : ℕ → Bool) (a n : ℕ) → ((id : ℕ) → a ≤ id → p id ≡ q id) → count_by p (range_with_len a n) ≡ count_by q (range_with_len a n)
count_same p q a zero h = refl
count_same p q a (suc n) h =
    let here = h a (omega arith) in
    let rest = count_same p q (a + 1) n (λ id l. h id (omega (arith, l))) in
    count_first p a (a + 1) n refl ∙ (rw (here, rest) (sym (count_first q a (a + 1) n refl)))

past : (r : ℕ × ℕ) (rs : List (ℕ × ℕ)) (id : ℕ) → r.1 < id → is_within (r ∷ rs) id ≡ is_within rs id
past r rs id less = rw (out_test r id (inr less)) refl

before : (rs : List (ℕ × ℕ)) (id : ℕ) → AllByRecursion (λ s. id < s.0) rs → is_within rs id ≡ false
before [] id h = refl
before (r ∷ rs) id h = rw (out_test r id (inl h.0)) (before rs id h.1)

first : (p : ℕ → Bool) (a b n : ℕ) → a + 1 ≡ b → p a ≡ true → count_by p (range_with_len a (suc n)) ≡ 1 + count_by p (range_with_len b n)
first p a b n e here = count_first p a b n e ∙ (rw here refl)

rises : (n m : ℕ) (ts : List (ℕ × ℕ)) → m ≤ suc n → AllByRecursion (λ t. n < t.0) ts → AllByRecursion (λ t. m ≤ t.0) ts
rises n m [] le h = tt
rises n m (t ∷ ts) le h = (let a = h.0 in omega (arith, a, le), rises n m ts le h.1)

ends : (n m : ℕ) (ts : List (ℕ × ℕ)) → n ≡ m → AllByRecursion (λ t. t.1 < n) ts → AllByRecursion (λ t. t.1 < m) ts
ends n m [] e h = tt
ends n m (t ∷ ts) e h = (let a = h.0 in omega (arith, a, e), ends n m ts e h.1)

-- the id behind the first range is left
one_more : (r : ℕ × ℕ) (rs : List (ℕ × ℕ)) (low len more : ℕ) → low ≤ r.1 + 1 → r.1 + 2 + more ≡ low + len → AllByRecursion (λ s. r.1 + 1 < s.0) rs
    → length rs ≤ count_by (λ id. not (is_within rs id)) (range_with_len (r.1 + 2) more) + 1
    → length (r ∷ rs) ≤ count_by (λ id. not (is_within (r ∷ rs) id)) (range_with_len low len) + 1
one_more r rs low len more le e later inner =
    let left : ℕ → Bool = λ id. not (is_within (r ∷ rs) id) in
    let here : left (r.1 + 1) ≡ true = ap not (past r rs (r.1 + 1) (omega arith) ∙ before rs (r.1 + 1) later) in
    let same : count_by left (range_with_len (r.1 + 2) more) ≡ count_by (λ id. not (is_within rs id)) (range_with_len (r.1 + 2) more)
    = count_same left (λ id. not (is_within rs id)) (r.1 + 2) more (λ id l. ap not (past r rs id (omega (arith, l)))) in
    let step : count_by left (range_with_len (r.1 + 1) (suc more)) ≡ 1 + count_by left (range_with_len (r.1 + 2) more) = first left (r.1 + 1) (r.1 + 2) more (omega arith) here in
    let skip : count_by left (range_with_len (r.1 + 1) (suc more)) ≤ count_by left (range_with_len low len) = count_skip left low (r.1 + 1) (suc more) len le (omega (arith, e)) in
    omega (arith, inner, same, step, skip)

-- ranges of ids from one on and below another are at most as many as the ids between that are left, and one
few : (rs : List (ℕ × ℕ)) (low len : ℕ) → Apart rs → AllByRecursion (λ r. low ≤ r.0) rs → AllByRecursion (λ r. r.1 < low + len) rs
    → length rs ≤ count_by (λ id. not (is_within rs id)) (range_with_len low len) + 1
few [] low len apart from to = omega arith
few (r ∷ []) low len apart from to = omega arith
few (r ∷ s ∷ rs) low len apart from to =
    let whole : r.0 ≤ r.1 = apart.0 in
    let gap : r.1 + 1 < s.0 = apart.1.0 in
    let next : s.0 ≤ s.1 = apart.2.0 in
    let end : s.1 < low + len = to.1.0 in
    let start : low ≤ r.0 = from.0 in
    let e : r.1 + 2 + (low + len - (r.1 + 2)) ≡ low + len = omega (arith, gap, next, end) in
    one_more r (s ∷ rs) low len (low + len - (r.1 + 2)) (omega (arith, start, whole)) e apart.1
    (few (s ∷ rs) (r.1 + 2) (low + len - (r.1 + 2)) apart.2 (rises (r.1 + 1) (r.1 + 2) (s ∷ rs) (omega arith) apart.1) (ends (low + len) (r.1 + 2 + (low + len - (r.1 + 2))) (s ∷ rs) (sym e) to.1))

all_by : (P : (ℕ × ℕ) → Type 0) (rs : List (ℕ × ℕ)) → All P rs → AllByRecursion P rs
all_by P [] h = tt
all_by P (r ∷ rs) h = (h 0 r (omega arith), all_by P rs (λ k d l. h (suc k) d (omega (arith, l))))

pub few_ranges : (rs : List (ℕ × ℕ)) (next : ℕ) → AreApart rs → All (λ r. 1 ≤ r.0) rs → All (λ r. r.1 < next) rs
    → length rs ≤ count_by (λ id. not (is_within rs id)) (range_with_len 1 (next - 1)) + 1
few_ranges [] next apart from to = omega arith
few_ranges (r ∷ rs) next apart from to =
    let first : r.1 < next = to 0 r (omega arith) in
    let low : 1 ≤ r.0 = from 0 r (omega arith) in
    let rises : r.0 ≤ r.1 = apart.whole 0 r (omega arith) in
    let is : 1 + (next - 1) ≡ next = omega (arith, first) in
    few (r ∷ rs) 1 (next - 1) (apart_by_range (r ∷ rs) apart) (all_by (λ s. 1 ≤ s.0) (r ∷ rs) from) (ends next (1 + (next - 1)) (r ∷ rs) (sym is) (all_by (λ s. s.1 < next) (r ∷ rs) to))
