-- The newest fact of a key, by the place where the keys up to it end.
use Rattle.pyramid.proofs.Prelude.{◌≡◌, ℕ, ◌-◌, ◌<◌, ◌≤◌, true, List, length, get_or, sym, ap, ◌∙◌, arith, inl, inr, subst, Some, None, ◌==◌, eqb-true, eq-eqb, ne_eqb, cases_order, cases_lt, get_or_default, has_key, newest_of, IsOrdered, IsBefore, newest_none, newest_is}

module _ {F : Type 0} (key number : F → ℕ) where
  pub found_at : (k : ℕ) (xs : List F) (e : ℕ) (x : F) → IsOrdered key number xs → 0 < e → e ≤ length xs
      → ((i : ℕ) (d : F) → e ≤ i → i < length xs → k < key (get_or xs i d)) → x ≡ get_or xs (e - 1) x → key x ≡ k → Some x ≡ newest_of key number k xs
  found_at k xs e x ordered some within above is at =
      let passes : (key (get_or xs (e - 1) x) == k) ≡ true = eq-eqb _ _ (ap key (sym is) ∙ at) in
      ap (λ f. Some f) is ∙ sym (newest_is number (has_key key k) xs (e - 1) x (omega (arith, some, within)) passes others)
    where
      others : (j : ℕ) (d : F) → j < length xs → (j ≡ e - 1 → ⊥) → (key (get_or xs j d) == k) ≡ true → number (get_or xs j d) < number (get_or xs (e - 1) x)
      others j d l ne p = elim (cases_lt j (e - 1)) [
        | inl before ↦
            let same : get_or xs j d ≡ get_or xs j x = get_or_default xs j d x l in
            let kj : key (get_or xs j x) ≡ k = ap key (sym same) ∙ eqb-true _ _ p in
            let kx : key (get_or xs (e - 1) x) ≡ k = ap key (sym is) ∙ at in
            rw same (elim (ordered j (e - 1) x before (omega (arith, some, within))) [ inl less ↦ absurd (omega (arith, less, kj, kx)) | inr h ↦ h.1 ])
        | inr after ↦
            let past : e ≤ j = elim (cases_order j (e - 1)) [ inl s ↦ absurd (ne s) | inr h ↦ elim h [ inl b ↦ omega (arith, b, after) | inr b ↦ omega (arith, b) ] ] in
            let up : k < key (get_or xs j d) = above j d past l in
            let at2 : key (get_or xs j d) ≡ k = eqb-true _ _ p in
            absurd (omega (arith, up, at2))
      ]

  pub none_at : (k : ℕ) (xs : List F) (e : ℕ) (x : F) → IsOrdered key number xs → 0 < e → e ≤ length xs
      → ((i : ℕ) (d : F) → i < e → key (get_or xs i d) ≤ k)
      → ((i : ℕ) (d : F) → e ≤ i → i < length xs → k < key (get_or xs i d)) → x ≡ get_or xs (e - 1) x → (key x ≡ k → ⊥) → None ≡ newest_of key number k xs
  none_at k xs e x ordered some within below above is not_at = sym (newest_none number (has_key key k) xs (λ j d l. ne_eqb _ _ (apart j d l)))
    where
      apart : (j : ℕ) (d : F) → j < length xs → key (get_or xs j d) ≡ k → ⊥
      apart j d l at = elim (cases_lt j e) [
        | inr after ↦ let up : k < key (get_or xs j d) = above j d after l in omega (arith, up, at)
        | inl before ↦
            let same : get_or xs j d ≡ get_or xs j x = get_or_default xs j d x l in
            let kj : key (get_or xs j x) ≡ k = ap key (sym same) ∙ at in
            elim (cases_order j (e - 1)) [
              | inl s ↦ not_at (ap key is ∙ ap (λ i. key (get_or xs i x)) (sym s) ∙ kj)
              | inr h ↦ elim h [
                | inr b ↦ absurd (omega (arith, b, before))
                | inl b ↦
                    let last : key (get_or xs (e - 1) x) ≤ k = below (e - 1) x (omega (arith, some)) in
                    elim (ordered j (e - 1) x b (omega (arith, some, within))) [
                      | inl less ↦ omega (arith, less, kj, last)
                      | inr g ↦ let eq : key (get_or xs j x) ≡ key (get_or xs (e - 1) x) = g.0 in not_at (ap key is ∙ sym eq ∙ kj)
                    ]
              ]
            ]
      ]

  pub rises : (xs : List F) (i j : ℕ) (d x : F) → IsOrdered key number xs → i ≤ j → j < length xs → x ≡ get_or xs j x → key (get_or xs i d) ≤ key x
  rises xs i j d x ordered le l is = elim (cases_lt i j) [
    | inl before ↦
        let same : get_or xs i d ≡ get_or xs i x = get_or_default xs i d x (omega (arith, le, l)) in
        let kx : key x ≡ key (get_or xs j x) = ap key is in
        let ki : key (get_or xs i d) ≡ key (get_or xs i x) = ap key same in
        elim (ordered i j x before l) [ inl less ↦ omega (arith, less, kx, ki) | inr h ↦ let e : key (get_or xs i x) ≡ key (get_or xs j x) = h.0 in omega (arith, e, kx, ki) ]
    | inr after ↦
        let same : i ≡ j = omega (arith, le, after) in
        let other : get_or xs i d ≡ get_or xs i x = get_or_default xs i d x (omega (arith, le, l)) in
        let kx : key x ≡ key (get_or xs j x) = ap key is in
        let ki : key (get_or xs i d) ≡ key (get_or xs j x) = ap key other ∙ ap (λ n. key (get_or xs n x)) same in
        omega (arith, kx, ki)
  ]

  pub before-trans : (a b c : F) → IsBefore key number a b → IsBefore key number b c → IsBefore key number a c
  before-trans a b c (inl p) (inl q) = inl (omega (arith, p, q))
  before-trans a b c (inl p) (inr q) = let e = q.0 in inl (omega (arith, p, e))
  before-trans a b c (inr p) (inl q) = let e = p.0 in inl (omega (arith, e, q))
  before-trans a b c (inr p) (inr q) = let m = p.1 in let n = q.1 in inr (p.0 ∙ q.0, omega (arith, m, n))

  pub before_all : (xs : List F) (i j : ℕ) (d x y : F) → IsOrdered key number xs → i ≤ j → j < length xs → x ≡ get_or xs j x → IsBefore key number x y → IsBefore key number (get_or xs i d) y
  before_all xs i j d x y ordered le l is h = elim (cases_lt i j) [
    | inl before ↦
        let same : get_or xs i d ≡ get_or xs i x = get_or_default xs i d x (omega (arith, le, l)) in
        let step : IsBefore key number (get_or xs i x) x = subst (λ (z : F). IsBefore key number (get_or xs i x) z) (sym is) (ordered i j x before l) in
        rw same (before-trans (get_or xs i x) x y step h)
    | inr after ↦
        let at : i ≡ j = omega (arith, le, after) in
        let same : get_or xs i d ≡ x = get_or_default xs i d x (omega (arith, le, l)) ∙ ap (λ n. get_or xs n x) at ∙ sym is in
        rw same h
  ]

  pub after_all : (xs : List F) (j i : ℕ) (d x y : F) → IsOrdered key number xs → j ≤ i → i < length xs → x ≡ get_or xs j x → IsBefore key number (get_or xs i d) y → (IsBefore key number x y → ⊥) → ⊥
  after_all xs j i d x y ordered le l is h not = elim (cases_lt j i) [
    | inl before ↦
        let same : get_or xs i d ≡ get_or xs i x = get_or_default xs i d x l in
        let h2 : IsBefore key number (get_or xs i x) y = rw same at h in
        let step : IsBefore key number x (get_or xs i x) = subst (λ (z : F). IsBefore key number z (get_or xs i x)) (sym is) (ordered j i x before l) in
        not (before-trans x (get_or xs i x) y step h2)
    | inr after ↦
        let at : i ≡ j = omega (arith, le, after) in
        let same : get_or xs i d ≡ x = get_or_default xs i d x l ∙ ap (λ n. get_or xs n x) at ∙ sym is in
        not (rw same at h)
  ]
