-- The range that an id makes with those about it.
use Rattle.std.proofs.lemmas.Bool.Decides.{nat_tests}
use Rattle.table_plan.proofs.Prelude.{◌≡◌, ◌≢◌, ◌⊎◌, ◌↔◌, ℕ, suc, ◌+◌, ◌-◌, ◌<◌, ◌≤◌, Bool, true, false, List, [], ◌∷◌, ◌++◌, length, get_or, take, drop, refl, sym, ap, ◌∙◌, arith, inl, inr, subst, Contains, IsTrue, drop-cons, add-one, nat_le, ◌&&◌, leb-true, leb-false, le-leb, IsPartitionedBy, IsPartitionPoint, and_from, and_parts, cases_eq, cases_lt, or_cases, get_or_default, take_more, Contains-append_left, Contains-get_or, Contains-push, Contains-push_cases, list_any_at, is_within, Table, ElisionFact, IsElisionOf, here, there, pairs_of, one_table, AreApart, ElidedRanges, ranges_of, AreElisionsOf, with_item}
use Rattle.elision.proofs.SearchLemmas.{starts_rise}
use Rattle.table_plan.proofs.ElidedLemmas.{elisions_alike, item_is}

-- ---- the range of an id

within_by : (rs : List (ℕ × ℕ)) (r : ℕ × ℕ) (i : ℕ) → Contains rs r → r.0 ≤ i → i ≤ r.1 → is_within rs i ≡ true
within_by rs r i c low high = grind (arith, nat_tests, list_any_at, and_from, le-leb)

within_one : (rs : List (ℕ × ℕ)) (i : ℕ) → is_within rs i ≡ true → (r : ℕ × ℕ) × Contains rs r × (r.0 ≤ i) × (i ≤ r.1)
within_one [] i e = cc
within_one (r ∷ rs) i e = elim (or_cases (nat_le r.0 i && nat_le i r.1) (is_within rs i) e) [
  | inl one ↦ (let p = and_parts _ _ one in (r, here r rs, leb-true r.0 i p.0, leb-true i r.1 p.1))
  | inr rest ↦ (let w = within_one rs i rest in (w.0, there r w.0 rs w.1, w.2, w.3))
]

abbrev pub has_begun : ℕ → (ℕ × ℕ) → Bool
has_begun id r = nat_le r.0 id

pub begun_first : (id : ℕ) (rs : List (ℕ × ℕ)) → AreApart rs → IsPartitionedBy (has_begun id) rs
begun_first id rs apart i j d low within holds = grind (arith, nat_tests, starts_rise, leb-true, le-leb)

-- it is the last that has begun
pub record IsLastBegun (rs : List (ℕ × ℕ)) (id begun : ℕ) (d : ℕ × ℕ) : Type 0 where
  pub some : 1 ≤ begun
  pub within : begun ≤ length rs
  pub has : ((get_or rs (begun - 1) d).0 ≤ id) × (id ≤ (get_or rs (begun - 1) d).1)

pub last_begun : (rs : List (ℕ × ℕ)) (id begun : ℕ) (d : ℕ × ℕ) → AreApart rs → is_within rs id ≡ true → begun ≤ length rs
    → IsPartitionPoint (λ r. has_begun id r ≡ true) (λ r. has_begun id r ≡ false) rs begun → IsLastBegun rs id begun d
last_begun rs id begun d apart there within point =
    let w = within_one rs id there in
    found w.0 w.1.0 w.1.1 w.1.2 w.2 w.3
  where
    found : (r : ℕ × ℕ) (k : ℕ) → k < length rs → get_or rs k r ≡ r → r.0 ≤ id → id ≤ r.1 → IsLastBegun rs id begun d
    found r k l is low high = grind (arith, nat_tests, cases_lt, leb-false, leb-true, get_or_default)

-- ---- the elision of an id

pub range_makes : (t : Table) (rs : List (ℕ × ℕ)) (P : ℕ → Type 0) (number id : ℕ) (r : ℕ × ℕ) → AreApart rs → Contains rs r → (r.0 ≤ id) × (id ≤ r.1)
    → ((i : ℕ) → IsTrue (is_within rs i) ↔ (P i ⊎ (i ≡ id))) → IsElisionOf t P number id (record { first = r.0; table = t; last = r.1; seq = record { 0 = number } })
range_makes t rs P number id r apart c has same = record {
  of_table = refl;
  numbered = refl;
  has = has;
  within = λ i low high. (same i).0 (within_by rs r i c low high);
  before = λ i e p.
      let w = within_one rs i ((same i).1 (inl p)) in
      let a = w.2 in
      let b = w.3 in
      elim (pairs_of (λ x y. x.1 + 1 < y.0) rs w.0 r apart.apart w.1 c) [
        | inl is ↦ (let start : w.0.0 ≡ r.0 = ap (λ (s : ℕ × ℕ). s.0) is in omega (arith, start, a, e))
        | inr either ↦ grind (arith, nat_tests)
      ];
  behind = λ p.
      let w = within_one rs (r.1 + 1) ((same (r.1 + 1)).1 (inl p)) in
      let a = w.2 in
      let b = w.3 in
      elim (pairs_of (λ x y. x.1 + 1 < y.0) rs w.0 r apart.apart w.1 c) [
        | inl is ↦ (let end : w.0.1 ≡ r.1 = ap (λ (s : ℕ × ℕ). s.1) is in omega (arith, end, b))
        | inr either ↦ grind (arith, nat_tests)
      ];
}

-- ---- items one behind another

abbrev pub IsIn : ElidedRanges → Table → ℕ → Type 0
IsIn e t i = IsTrue (is_within (ranges_of e t) i)

-- one item more is elided, and no other id
pub item_more : (old new : ElidedRanges) (x : Table × ℕ) → ((i : ℕ) → IsIn new x.0 i ↔ (IsIn old x.0 i ⊎ (i ≡ x.1))) → ((t : Table) → t ≢ x.0 → ranges_of new t ≡ ranges_of old t)
    → (t : Table) (i : ℕ) → IsIn new t i ↔ with_item (IsIn old) x t i
item_more old new x it others t i = grind (arith, nat_tests, cases_eq, one_table)

pub elided_step : (P Q : Table → ℕ → Type 0) (number i : ℕ) (items : List (Table × ℕ)) (d : Table × ℕ) (f : ElisionFact) (rest : List ElisionFact) → i < length items
    → ((t : Table) (j : ℕ) → Q t j ↔ with_item P (get_or items i d) t j) → IsElisionOf (get_or items i d).0 (P (get_or items i d).0) (number + i) (get_or items i d).1 f
    → AreElisionsOf Q (number + (i + 1)) (drop (i + 1) items) rest → AreElisionsOf P (number + i) (drop i items) (f ∷ rest)
elided_step P Q number i items d f rest l same one others =
    subst (λ x. AreElisionsOf P (number + i) x (f ∷ rest)) (sym (drop-cons items i d l)) (
      one,
      elisions_alike Q (with_item P (get_or items i d)) same (number + i + 1) (drop (suc i) items) rest
          (subst (λ k. AreElisionsOf Q (number + i + 1) (drop k items) rest) (add-one i) (subst (λ n. AreElisionsOf Q n (drop (i + 1) items) rest) (omega arith) others)),
    )

pub taken : (items : List (Table × ℕ)) (d : Table × ℕ) (i : ℕ) (t : Table) (j : ℕ) → i < length items
    → Contains (take (i + 1) items) (t, j) ↔ (Contains (take i items) (t, j) ⊎ ((t ≡ (get_or items i d).0) × (j ≡ (get_or items i d).1)))
taken items d i t j l = subst (λ x. Contains x (t, j) ↔ (Contains (take i items) (t, j) ⊎ ((t ≡ (get_or items i d).0) × (j ≡ (get_or items i d).1)))) (sym (take_more items i d l)) (
  λ c. elim (Contains-push_cases (take i items) (get_or items i d) (t, j) c) [ inl a ↦ inl a | inr e ↦ inr (ap (λ (y : Table × ℕ). y.0) (sym e), ap (λ (y : Table × ℕ). y.1) (sym e)) ],
  λ e. elim e [
    | inl a ↦ Contains-append_left (take i items) (get_or items i d ∷ []) (t, j) a
    | inr is ↦ subst (Contains (take i items ++ get_or items i d ∷ [])) (sym (item_is (get_or items i d) t j is.0 is.1)) (Contains-push (take i items) (get_or items i d))
  ],
)

-- one more of them is elided
pub elided_more : (Old Was Now : Table → ℕ → Type 0) (items : List (Table × ℕ)) (d : Table × ℕ) (i : ℕ) → i < length items → ((t : Table) (j : ℕ) → Now t j ↔ with_item Was (get_or items i d) t j)
    → ((t : Table) (j : ℕ) → Was t j ↔ (Old t j ⊎ Contains (take i items) (t, j))) → (t : Table) (j : ℕ) → Now t j ↔ (Old t j ⊎ Contains (take (i + 1) items) (t, j))
elided_more Old Was Now items d i l one before t j = (
  λ n. elim ((one t j).0 n) [
    | inl w ↦ elim ((before t j).0 w) [ inl o ↦ inl o | inr c ↦ inr ((taken items d i t j l).1 (inl c)) ]
    | inr is ↦ inr ((taken items d i t j l).1 (inr is))
  ],
  λ e. (one t j).1 (elim e [
    | inl o ↦ inl ((before t j).1 (inl o))
    | inr c ↦ elim ((taken items d i t j l).0 c) [ inl a ↦ inl ((before t j).1 (inr a)) | inr is ↦ inr is ]
  ]),
)

-- the ranges of a table stay where none of the items is of it
abbrev pub OthersStay : List (Table × ℕ) → ElidedRanges → ElidedRanges → Type 0
OthersStay items was now = (t : Table) → ((j : ℕ) → ¬ (Contains items (t, j))) → ranges_of now t ≡ ranges_of was t

pub others_more : (items : List (Table × ℕ)) (was old new : ElidedRanges) (d : Table × ℕ) (i : ℕ) → i < length items → ((t : Table) → t ≢ (get_or items i d).0 → ranges_of new t ≡ ranges_of old t)
    → OthersStay items was old → OthersStay items was new
others_more items was old new d i l others stay t none =
    let x = get_or items i d in
    others t (λ e. none x.1 (subst (Contains items) (sym (item_is x t x.1 e refl)) (Contains-get_or items i d l))) ∙ stay t none
