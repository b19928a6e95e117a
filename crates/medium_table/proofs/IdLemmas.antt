-- Ids in order.
use Rattle.medium_table.proofs.Prelude.{◌≡◌, ◌⊎◌, ◌↔◌, Bool, List, [], ◌∷◌, ◌++◌, ◌==◌, sym, ap, inl, inr, Contains, IsSortedByKey, IsPermutation, nat_cmp, Less, eqb-true, Contains-append_left, Contains-push_cases, Contains-push, Contains-permutation, IsPermutation-sym, MediumId, Ascends, id_of_medium}
use Rattle.std.specs.List.{dedup}
use Rattle.std.specs.Cmp.{unsigned_ties}
use Rattle.std.proofs.lemmas.Cmp.{nat_cmp_total, nat_eq_equiv, on_equiv, on_total, ranked}
use Rattle.std.proofs.lemmas.List.Kept.{Contains-dedup, Contains-from_dedup, IsStrictlySortedBy-dedup}
use Rattle.std.proofs.lemmas.Map.Keys.{Less-from_sorted}

-- an id is its number
pub one_id : (a b : MediumId) → a.0 ≡ b.0 → a ≡ b
one_id a b e = ap (λ n. record { 0 = n }) e

-- an id behind the others
pub one_more : (xs : List MediumId) (x m : MediumId) → Contains (xs ++ x ∷ []) m ↔ (Contains xs m ⊎ (m ≡ x))
one_more xs x m = (
  (λ c. elim (Contains-push_cases xs x m c) [ inl a ↦ inl a | inr same ↦ inr (sym same) ]),
  (λ c. elim c [ inl a ↦ Contains-append_left xs (x ∷ []) m a | inr same ↦ rw same (Contains-push xs x) ]),
)

-- the ids have one number
abbrev pub are_same : MediumId → MediumId → Bool
are_same a b = a.0 == b.0

-- sorted ids, each once, rise
pub rising_once : (xs : List MediumId) → IsSortedByKey id_of_medium nat_cmp xs → Ascends id_of_medium (dedup are_same xs)
rising_once xs sorted i j d before l =
    let strict = IsStrictlySortedBy-dedup (on_total id_of_medium nat_cmp_total) (λ a b. unsigned_ties a.0 b.0) xs sorted in
    ranked _ _ Less (sym (Less-from_sorted (λ a b. nat_cmp a.0 b.0) (dedup are_same xs) i j d strict before l))

-- and they are the same ones
pub same_once : (xs sorted : List MediumId) (m : MediumId) → IsPermutation xs sorted → Contains (dedup are_same sorted) m ↔ Contains xs m
same_once xs sorted m moved = (
  (λ c. Contains-permutation sorted xs m (IsPermutation-sym xs sorted moved) (Contains-from_dedup are_same sorted m c)),
  (λ c. Contains-dedup (on_equiv id_of_medium nat_eq_equiv) (λ a b e. one_id a b (eqb-true _ _ e)) sorted m (Contains-permutation xs sorted m moved c)),
)
