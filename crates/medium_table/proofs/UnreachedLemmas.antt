-- Mediums that are neither elided nor reached, looked for from the lowest id on.
use Rattle.medium_table.proofs.Prelude.{nat_tests, ◌≡◌, ◌⊎◌, ℕ, ◌+◌, ◌<◌, ◌≤◌, true, false, List, [], ◌∷◌, ◌++◌, length, get_or, sym, ap, subst, ◌∙◌, arith, inl, inr, AllPairs, Contains, length-append, nat_le, ◌&&◌, le-leb, and_from, both_ways, cases_lt, get_or_default, Contains-append_left, Contains-get_or, Contains-push, Contains-push_cases, MediumId, Ascends, is_within, AreApart, id_of_medium, AreLowestUnreached}
use Rattle.std.proofs.lemmas.List.Folds.{list_any_at, list_any_none}
use Rattle.std.proofs.lemmas.List.Quantifiers.{all_pairs_push}
use Rattle.elision.proofs.SearchLemmas.{out_test, starts_rise}

-- ids in order don't fall
rising_ids : (xs : List MediumId) (i j : ℕ) (d x : MediumId) → Ascends id_of_medium xs → i ≤ j → j < length xs → x ≡ get_or xs j x → (get_or xs i d).0 ≤ x.0
rising_ids xs i j d x h le l is = elim (cases_lt i j) [
  | inl before ↦
      let less = h i j d before l in
      let same : (get_or xs j d).0 ≡ x.0 = ap id_of_medium (get_or_default xs j d x l ∙ sym is) in
      omega (arith, less, same)
  | inr after ↦
      let at : i ≡ j = omega (arith, le, after) in
      let same : (get_or xs i d).0 ≡ x.0 = ap id_of_medium (get_or_default xs i d x (omega (arith, at, l)) ∙ ap (λ n. get_or xs n x) at ∙ sym is) in
      omega (arith, same)
]

-- the medium of the id is among them
abbrev pub Has : List MediumId → ℕ → Type 0
Has reached id = Contains reached (record { 0 = id })

-- All ids below this one are looked at, and these of them are neither elided nor reached. So many ranges and reached ids lie below it.
pub record HasLooked (elided : List (ℕ × ℕ)) (reached : List MediumId) (next most : ℕ) (ids : List ℕ) (id i j : ℕ) : Type 0 where
  pub some : 1 ≤ id
  pub ascending : AllPairs (λ a b. a < b) ids
  pub few : length ids ≤ most
  pub each : (x : ℕ) → Contains ids x → (1 ≤ x) × (x < id) × (x < next) × (is_within elided x ≡ false) × ¬ (Has reached x)
  pub others : (x : ℕ) → 1 ≤ x → x < id → x < next → is_within elided x ≡ false → ¬ (Has reached x) → Contains ids x
  pub ranges : (k : ℕ) (d : ℕ × ℕ) → k < i → ((get_or elided k d).1 < id) ⊎ (next ≤ id)
  pub below : (k : ℕ) (d : MediumId) → k < j → ((get_or reached k d).0 < id) ⊎ (next ≤ id)

within_at : (elided : List (ℕ × ℕ)) (i x : ℕ) (r : ℕ × ℕ) → i < length elided → (get_or elided i r).0 ≤ x → x ≤ (get_or elided i r).1 → is_within elided x ≡ true
within_at elided i x r l low high = list_any_at (λ s. nat_le s.0 x && nat_le x s.1) elided i r l (and_from _ _ (le-leb _ x low) (le-leb x _ high))

module _ (elided : List (ℕ × ℕ)) (reached : List MediumId) (next most : ℕ) (ids : List ℕ) (id i j : ℕ) (h : HasLooked elided reached next most ids id i j) where
  -- ids from here on and below that one are elided or reached
  module _ (to : ℕ) (from : id ≤ to) (none : (x : ℕ) → id ≤ x → x < to → is_within elided x ≡ false → ¬ (Has reached x) → ⊥) where
    each_then : (x : ℕ) → Contains ids x → (1 ≤ x) × (x < to) × (x < next) × (is_within elided x ≡ false) × ¬ (Has reached x)
    each_then x c = let e = h.each x c in let low = e.1 in (e.0, omega (arith, low, from), e.2, e.3, e.4)

    others_then : (x : ℕ) → 1 ≤ x → x < to → x < next → is_within elided x ≡ false → ¬ (Has reached x) → Contains ids x
    others_then x some low least whole out = elim (cases_lt x id) [
      | inl before ↦ h.others x some before least whole out
      | inr after ↦ absurd (none x after low whole out)
    ]

    ranges_then : (k : ℕ) (d : ℕ × ℕ) → k < i → ((get_or elided k d).1 < to) ⊎ (next ≤ to)
    ranges_then k d l = elim (h.ranges k d l) [ inl a ↦ inl (omega (arith, a, from)) | inr b ↦ inr (omega (arith, b, from)) ]

    below_then : (k : ℕ) (d : MediumId) → k < j → ((get_or reached k d).0 < to) ⊎ (next ≤ to)
    below_then k d l = elim (h.below k d l) [ inl a ↦ inl (omega (arith, a, from)) | inr b ↦ inr (omega (arith, b, from)) ]

  -- a range that has begun is passed
  pub past_range : (r : ℕ × ℕ) (to : ℕ) → i < length elided → (get_or elided i r).0 ≤ id → id ≤ to → ((get_or elided i r).1 < to) ⊎ (to ≡ next)
      → ((x : ℕ) → id ≤ x → x < to → x ≤ (get_or elided i r).1) → HasLooked elided reached next most ids to (i + 1) j
  past_range r to l begun from behind first = record {
    some = (let some = h.some in omega (arith, some, from));
    ascending = h.ascending;
    few = h.few;
    each = each_then to from none;
    others = others_then to from none;
    ranges = λ k d m. elim (cases_lt k i) [
      | inl before ↦ ranges_then to from none k d before
      | inr at ↦ grind (arith, nat_tests, get_or, get_or_default)
    ];
    below = below_then to from none;
  }
    where
      none : (x : ℕ) → id ≤ x → x < to → is_within elided x ≡ false → ¬ (Has reached x) → ⊥
      none x low high whole out = both_ways (is_within elided x) whole (within_at elided i x r l (omega (arith, begun, low)) (first x low high))

  -- and so is a reached id
  pub past_reached : (r : MediumId) (to : ℕ) → j < length reached → (get_or reached j r).0 ≤ id → id ≤ to → ((get_or reached j r).0 < to) ⊎ (to ≡ next)
      → ((x : ℕ) → id ≤ x → x < to → x ≤ (get_or reached j r).0) → HasLooked elided reached next most ids to i (j + 1)
  past_reached r to l begun from behind first = record {
    some = (let some = h.some in omega (arith, some, from));
    ascending = h.ascending;
    few = h.few;
    each = each_then to from none;
    others = others_then to from none;
    ranges = ranges_then to from none;
    below = λ k d m. elim (cases_lt k j) [
      | inl before ↦ below_then to from none k d before
      | inr at ↦ grind (arith, nat_tests, get_or, get_or_default)
    ];
  }
    where
      none : (x : ℕ) → id ≤ x → x < to → is_within elided x ≡ false → ¬ (Has reached x) → ⊥
      none x low high whole out =
          let top = first x low high in
          let same : (get_or reached j r).0 ≡ x = omega (arith, begun, low, top) in
          out (j, l, get_or_default reached j (record { 0 = x }) r l ∙ ap (λ n. record { 0 = n }) same)

  -- one is neither elided nor reached
  module _ (least : id < next) (apart : AreApart elided) (up : Ascends id_of_medium reached)
      (later : (d : ℕ × ℕ) → i < length elided → id < (get_or elided i d).0) (above : (d : MediumId) → j < length reached → id < (get_or reached j d).0) where
    whole : is_within elided id ≡ false
    whole = list_any_none (λ s. nat_le s.0 id && nat_le id s.1) elided (λ k d l. out_test (get_or elided k d) id (elim (cases_lt k i) [
      | inl before ↦ elim (h.ranges k d before) [ inl a ↦ inr a | inr b ↦ absurd (omega (arith, b, least)) ]
      | inr after ↦
          let start = later d (omega (arith, after, l)) in
          let rise = starts_rise elided i k d d apart after l in
          inl (omega (arith, start, rise))
    ]))

    out : ¬ (Has reached id)
    out c = elim (cases_lt c.0 j) [
      | inl before ↦ elim (h.below c.0 (record { 0 = id }) before) [
        | inl a ↦ (let is : (get_or reached c.0 (record { 0 = id })).0 ≡ id = ap id_of_medium c.2 in omega (arith, a, is))
        | inr b ↦ omega (arith, b, least)
      ]
      | inr after ↦
          let l = c.1 in
          let first = above (record { 0 = id }) (omega (arith, after, l)) in
          let rise = rising_ids reached j c.0 (record { 0 = id }) (record { 0 = id }) up after l (sym c.2) in
          omega (arith, first, rise)
    ]

    pub one_unreached : length ids < most → HasLooked elided reached next most (ids ++ id ∷ []) (id + 1) i j
    one_unreached room = record {
      some = omega arith;
      ascending = all_pairs_push (λ a b. a < b) ids id h.ascending (λ k d l. (h.each (get_or ids k d) (Contains-get_or ids k d l)).1);
      few = simp length-append (omega (arith, room));
      each = λ x c. elim (Contains-push_cases ids id x c) [
        | inl a ↦ (let e = h.each x a in let low = e.1 in (e.0, omega (arith, low), e.2, e.3, e.4))
        | inr same ↦ subst (λ (y : ℕ). (1 ≤ y) × (y < id + 1) × (y < next) × (is_within elided y ≡ false) × ¬ (Has reached y)) same (h.some, omega arith, least, whole, out)
      ];
      others = λ x some low next_one inside not_there. elim (cases_lt x id) [
        | inl before ↦ Contains-append_left ids (id ∷ []) x (h.others x some before next_one inside not_there)
        | inr after ↦ (let same : id ≡ x = omega (arith, low, after) in subst (Contains (ids ++ id ∷ [])) same (Contains-push ids id))
      ];
      ranges = λ k d l. elim (h.ranges k d l) [ inl a ↦ inl (omega (arith, a)) | inr b ↦ inr (omega (arith, b)) ];
      below = λ k d l. elim (h.below k d l) [ inl a ↦ inl (omega (arith, a)) | inr b ↦ inr (omega (arith, b)) ];
    }

  -- where no id is left, or enough of them are found
  pub lowest_found : (next ≤ id) ⊎ (most ≤ length ids) → AreLowestUnreached (is_within elided) (Has reached) next most ids
  lowest_found end = record {
    ascending = h.ascending;
    few = h.few;
    each = λ x c. let e = h.each x c in (e.0, e.2, e.3, e.4);
    others = λ x some least inside not_there. elim (cases_lt x id) [
      | inl before ↦ inl (h.others x some before least inside not_there)
      | inr after ↦ elim end [
        | inl all ↦ absurd (omega (arith, all, after, least))
        | inr full ↦ inr ((let few = h.few in omega (arith, few, full)), λ y c. (let low = (h.each y c).1 in omega (arith, low, after)))
      ]
    ];
  }
