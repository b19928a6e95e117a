-- Ids rise with keys, so the facts of an id stand side by side.
use Rattle.table_soundness.proofs.Prelude.{◌≡◌, ◌≢◌, ℕ, ◌-◌, ◌<◌, ◌≤◌, List, length, get_or, sym, subst, arith, inl, inr, All, cases_lt, id_of, Ascends, ascends_ordered, IsLastOf}
use Rattle.pyramid.proofs.SearchLemmas.{rises}

module _ {F : Type 0} (key : F → ℕ) where
  pub ids_rise : (xs : List F) (i j : ℕ) (d x : F) → Ascends key xs → i ≤ j → j < length xs → x ≡ get_or xs j x → id_of (key (get_or xs i d)) ≤ id_of (key x)
  ids_rise xs i j d x up le l is =
      let low : key (get_or xs i d) ≤ key x = rises key (λ f. 0) xs i j d x (ascends_ordered key (λ f. 0) xs up) le l is in
      divided (key (get_or xs i d)) (key x) low
    where
      divided : (a b : ℕ) → a ≤ b → id_of a ≤ id_of b
      divided a b h = omega (arith, h)

  pub last_found : (xs : List F) (id end : ℕ) (x : F) → Ascends key xs → 0 < end → end ≤ length xs → x ≡ get_or xs (end - 1) x → id_of (key x) ≡ id
      → ((i : ℕ) (d : F) → end ≤ i → i < length xs → id < id_of (key (get_or xs i d))) → IsLastOf key xs id x
  last_found xs id end x up some within is here above = record {
    there = (end - 1, omega (arith, some, within), sym is);
    of_id = here;
    last = λ k d l same. elim (cases_lt k end) [
      | inl less ↦ rises key (λ f. 0) xs k (end - 1) d x (ascends_ordered key (λ f. 0) xs up) (omega (arith, less)) (omega (arith, some, within)) is
      | inr over ↦ let more = above k d over l in absurd (omega (arith, more, same))
    ];
  }

  pub last_absent : (xs : List F) (id end : ℕ) (x : F) → Ascends key xs → 0 < end → end ≤ length xs → x ≡ get_or xs (end - 1) x → (id_of (key x) ≡ id → ⊥)
      → ((i : ℕ) (d : F) → i < end → id_of (key (get_or xs i d)) ≤ id) → ((i : ℕ) (d : F) → end ≤ i → i < length xs → id < id_of (key (get_or xs i d))) → All (λ f. id_of (key f) ≢ id) xs
  last_absent xs id end x up some within is other below above k d l same = elim (cases_lt k end) [
    | inl less ↦
        let low = ids_rise xs k (end - 1) d x up (omega (arith, less)) (omega (arith, some, within)) is in
        let high : id_of (key x) ≤ id = subst (λ y. id_of (key y) ≤ id) (sym is) (below (end - 1) x (omega (arith, some))) in
        other (omega (arith, low, high, same))
    | inr over ↦ let more = above k d over l in omega (arith, more, same)
  ]
