-- Marks of mediums at their first ranges.
use Rattle.medium_table.proofs.Prelude.{nat_tests, ◌≡◌, ◌≢◌, ℕ, ◌^◌, ◌<◌, ◌≤◌, Bool, true, false, List, [], ◌∷◌, ◌++◌, length, get_or, set, sym, ap, ◌∙◌, subst, arith, inl, inr, All, Contains, get_or-set_other, get_or-set_same, IsNonDecreasingBy, cases_eq, cases_lt, cases_order, get_or_default, Contains-append_left, Contains-get_or, Contains-push, Contains-push_cases, MediumId, MediumFact, medium_key, Ascends, medium_of, AreMarks, IsFirst, id_of_medium}
use Rattle.medium_table.proofs.IdLemmas.{one_id}

-- any range
abbrev pub any_range : MediumFact
any_range = record { medium = record { 0 = 0 }; start = 0; end = 0; target = record { 0 = 0 }; target_start = 0; seq = record { 0 = 0 } }

-- of ranges in order the mediums don't fall
pub rising_mediums : (ranges : List MediumFact) → Ascends medium_key ranges → All (λ r. r.start < 2 ^ 64) ranges → IsNonDecreasingBy medium_of ranges
rising_mediums ranges up starts i j d le l = elim (cases_lt i j) [
  | inl before ↦ grind (arith, nat_tests, get_or)
  | inr after ↦ grind (arith, nat_tests, get_or)
]

-- a medium has no ranges, where the one behind those of smaller mediums isn't its own
pub none_of : (ranges : List MediumFact) (medium place : ℕ) → IsNonDecreasingBy medium_of ranges → ((i : ℕ) (d : MediumFact) → i < place → (get_or ranges i d).medium.0 < medium)
    → ((i : ℕ) (d : MediumFact) → place ≤ i → i < length ranges → medium ≤ (get_or ranges i d).medium.0)
    → (place < length ranges → (get_or ranges place any_range).medium.0 ≢ medium) → (r : MediumFact) → Contains ranges r → r.medium.0 ≢ medium
none_of ranges medium place rise below above other r there same = grind (arith, nat_tests, get_or, length, get_or_default)

-- a medium has one first range
pub one_first : (ranges : List MediumFact) (medium p q : ℕ) → IsFirst ranges medium p → IsFirst ranges medium q → p ≡ q
one_first ranges medium p q a b = elim (cases_order p q) [
  | inl same ↦ same
  | inr other ↦ elim other [
    | inl less ↦ (let low = b.first p any_range less in let is = a.there any_range in absurd (omega (arith, low, is)))
    | inr less ↦ (let low = a.first q any_range less in let is = b.there any_range in absurd (omega (arith, low, is)))
  ]
]

module _ (ranges : List MediumFact) (marks : List Bool) (found : List MediumId) (medium : MediumId) where
  -- one medium more, whose first range is marked
  pub marked_first : (place : ℕ) → IsFirst ranges medium.0 place → length marks ≡ length ranges → AreMarks ranges marks found → AreMarks ranges (set marks place true) (found ++ medium ∷ [])
  marked_first place is each are m p first = elim (cases_eq p place) [
    | inl at ↦
        let l = is.within in
        let here : get_or (set marks place true) p false ≡ true = ap (λ n. get_or (set marks place true) n false) at ∙ get_or-set_same marks place true false (omega (arith, each, l)) in
        let same : m ≡ medium = one_id m medium (sym (first.there any_range) ∙ ap (λ n. (get_or ranges n any_range).medium.0) at ∙ is.there any_range) in
        ((λ e. rw same (Contains-push found medium)), (λ c. here))
    | inr apart ↦
        let here : get_or (set marks place true) p false ≡ get_or marks p false = get_or-set_other marks place p true false apart in
        let was = are m p first in (
          (λ e. Contains-append_left found (medium ∷ []) m (was.0 (sym here ∙ e))),
          (λ c. elim (Contains-push_cases found medium m c) [
            | inl before ↦ here ∙ was.1 before
            | inr same ↦ absurd (apart (one_first ranges medium.0 p place (subst (λ (x : MediumId). IsFirst ranges x.0 p) (sym same) first) is))
          ]),
        )
  ]

  -- one more that has no ranges
  pub marked_none : ((r : MediumFact) → Contains ranges r → r.medium.0 ≢ medium.0) → AreMarks ranges marks found → AreMarks ranges marks (found ++ medium ∷ [])
  marked_none none are m p first =
      let was = are m p first in (
        (λ e. Contains-append_left found (medium ∷ []) m (was.0 e)),
        (λ c. elim (Contains-push_cases found medium m c) [
          | inl before ↦ was.1 before
          | inr same ↦ absurd (none (get_or ranges p any_range) (Contains-get_or ranges p any_range first.within) (first.there any_range ∙ ap id_of_medium (sym same)))
        ]),
      )
