-- No other object has the medium of a volume, as the mediums of volumes tell it.
use Rattle.table_soundness.proofs.Prelude.{nat_tests, ◌≡◌, ◌≢◌, ◌⊎◌, ◌↔◌, ℕ, ◌<◌, ◌∙◌, List, [], ◌∷◌, get_or, refl, sym, ap, subst, arith, inl, inr, All, AllPairs, Contains, IsPermutation, get_or_default, All-contains, Contains-get_or, Contains-permutation, IsPermutation-sym, ObjectFact, ObjectKind, OwnsMedium, Volume, Snapshot, OwnTheirMediums, Avoids, volume_mediums, with_medium, here, there, either, nowhere, all_contained, pairs_cons, pairs_head, pairs_nil, pairs_tail, cases_order}
use Rattle.table_soundness.proofs.DistinctLemmas.{AreDistinct}

abbrev pub IsVolumeOf : List ObjectFact → ℕ → Type 0
IsVolumeOf xs n = (x : ObjectFact) × Contains xs x × (x.kind ≡ Volume) × (x.medium.0 ≡ n)

pub from_volumes : (xs : List ObjectFact) (n : ℕ) → Contains (volume_mediums xs) n → IsVolumeOf xs n
from_volumes [] n c = absurd (nowhere n c)
from_volumes (x ∷ xs) n c = grind (arith, nat_tests, from_volumes xs n, here, there, either)

pub to_volumes : (xs : List ObjectFact) (x : ObjectFact) → Contains xs x → x.kind ≡ Volume → Contains (volume_mediums xs) x.medium.0
to_volumes [] x c v = absurd (nowhere x c)
to_volumes (y ∷ xs) x c v = elim (either y x xs c) [ inl same ↦ rw (← same, v) (here x.medium.0 (volume_mediums xs)) | inr d ↦ kept y.kind (to_volumes xs x d v) ]
  where
    kept : (k : ObjectKind) → Contains (volume_mediums xs) x.medium.0 → Contains (with_medium k y.medium.0 (volume_mediums xs)) x.medium.0
    kept Volume d = there y.medium.0 x.medium.0 (volume_mediums xs) d
    kept Snapshot d = d

pub pair_cases : {X : Type 0} (R : X → X → Type 0) (xs : List X) (a b : X) → AllPairs R xs → Contains xs a → Contains xs b → R a b ⊎ (R b a ⊎ (a ≡ b))
pair_cases {X} R xs a b h ca cb = elim (cases_order ca.0 cb.0) [
  | inl same ↦ inr (inr (sym ca.2 ∙ get_or_default xs ca.0 a b ca.1 ∙ ap (λ n. get_or xs n b) same ∙ cb.2))
  | inr other ↦ elim other [ inl under ↦ inl (one a b ca cb under) | inr over ↦ inr (inl (one b a cb ca over)) ]
]
  where
    one : (x y : X) (cx : Contains xs x) (cy : Contains xs y) → cx.0 < cy.0 → R x y
    one x y cx cy l = subst (R x) (get_or_default xs cy.0 x y cy.1 ∙ cy.2) (subst (λ z. R z (get_or xs cy.0 x)) cx.2 (h cx.0 cy.0 x l cy.1))

-- ---- owners

abbrev AreApart : ObjectFact → ObjectFact → Type 0
AreApart x y = x.kind ≡ Volume → y.kind ≡ Volume → x.medium.0 ≢ y.medium.0

-- volumes have mediums of their own where the list of these says so
volumes_apart : (xs : List ObjectFact) → AreDistinct (volume_mediums xs) ↔ AllPairs AreApart xs
volumes_apart [] = (λ h. pairs_nil AreApart, λ h. pairs_nil (λ m n. m ≢ n))
volumes_apart (x ∷ xs) = one x.kind refl (volumes_apart xs)
  where
    one : (k : ObjectKind) → x.kind ≡ k → (AreDistinct (volume_mediums xs) ↔ AllPairs AreApart xs) → AreDistinct (with_medium k x.medium.0 (volume_mediums xs)) ↔ AllPairs AreApart (x ∷ xs)
    one Volume e inner = let ns = volume_mediums xs in (
      λ h. pairs_cons AreApart x xs (all_contained (AreApart x) xs (λ y c v w. All-contains (λ n. x.medium.0 ≢ n) ns y.medium.0 (pairs_head (λ m n. m ≢ n) x.medium.0 ns h) (to_volumes xs y c w)))
          (inner.0 (pairs_tail (λ m n. m ≢ n) x.medium.0 ns h)),
      λ h. pairs_cons (λ m n. m ≢ n) x.medium.0 ns
          (all_contained (λ n. x.medium.0 ≢ n) ns (λ n c same. let v = from_volumes xs n c in All-contains (AreApart x) xs v.0 (pairs_head AreApart x xs h) v.1 e v.2 (same ∙ sym v.3)))
          (inner.1 (pairs_tail AreApart x xs h)),
    )
    one Snapshot e inner = (λ h. pairs_cons AreApart x xs (all_contained (AreApart x) xs (λ y c v w. absurd cc)) (inner.0 h), λ h. inner.1 (pairs_tail AreApart x xs h))

pub owned_from_numbers : (xs : List ObjectFact) (sorted : List ℕ) → IsPermutation (volume_mediums xs) sorted → AreDistinct (volume_mediums xs) → All (Avoids sorted) xs → OwnTheirMediums xs
owned_from_numbers xs sorted moved apart avoid i j d l m =
    let both = (volumes_apart xs).0 apart i j d l m in
    let cx = Contains-get_or xs i d (omega (arith, l, m)) in
    let cy = Contains-get_or xs j d m in
    (owns _ _ cx cy both, owns _ _ cy cx (λ v w same. both w v (sym same)))
  where
    owns : (x y : ObjectFact) → Contains xs x → Contains xs y → AreApart x y → OwnsMedium x y
    owns x y cx cy both v same = one y.kind refl
      where
        one : (k : ObjectKind) → y.kind ≡ k → ⊥
        one Volume e = both v e same
        one Snapshot e = (All-contains (Avoids sorted) xs y avoid cy).other e (rw (← same) (Contains-permutation (volume_mediums xs) sorted x.medium.0 moved (to_volumes xs x cx v)))

pub distinct_from_owned : (xs : List ObjectFact) → OwnTheirMediums xs → AreDistinct (volume_mediums xs)
distinct_from_owned xs h = (volumes_apart xs).1 (λ i j d l m v w. (h i j d l m).0 v)

pub avoid_from_owned : (xs : List ObjectFact) (sorted : List ℕ) → IsPermutation (volume_mediums xs) sorted → OwnTheirMediums xs → All (Avoids sorted) xs
avoid_from_owned xs sorted moved h = all_contained (Avoids sorted) xs (λ x c. record {
  other = λ s d.
      let v = from_volumes xs x.medium.0 (Contains-permutation sorted (volume_mediums xs) x.medium.0 (IsPermutation-sym (volume_mediums xs) sorted moved) d) in
      elim (pair_cases (λ y z. OwnsMedium y z × OwnsMedium z y) xs v.0 x h v.1 c) [
        | inl own ↦ own.0 v.2 v.3
        | inr rest ↦ elim rest [ inl own ↦ own.1 v.2 v.3 | inr same ↦ let kinds : Volume ≡ Snapshot = sym v.2 ∙ ap (λ z. z.kind) same ∙ s in absurd cc ]
      ];
})
