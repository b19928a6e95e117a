-- What a search among ranges finds.
use Rattle.elision.proofs.Prelude.{nat_tests, ◌≡◌, ◌⊎◌, ℕ, ◌+◌, ◌-◌, ◌<◌, ◌≤◌, Bool, true, false, List, length, get_or, refl, sym, arith, inl, inr, nat_le, ◌&&◌, leb-false, le-leb, All, cases_lt, is_within, AreApart}
use Rattle.std.proofs.lemmas.List.{get_or_default}
use Rattle.std.proofs.lemmas.List.Folds.{list_any_at, list_any_none}

pub out_test : (r : ℕ × ℕ) (id : ℕ) → (id < r.0) ⊎ (r.1 < id) → (nat_le r.0 id && nat_le id r.1) ≡ false
out_test r id h = grind (arith, nat_tests)

-- no range has an id that is below all of them
pub none_begun : (rs : List (ℕ × ℕ)) (id : ℕ) → ((i : ℕ) (d : ℕ × ℕ) → i < length rs → id < (get_or rs i d).0) → is_within rs id ≡ false
none_begun rs id later = list_any_none _ rs (λ i d l. out_test (get_or rs i d) id (inl (later i d l)))

-- the last range that begins at the id or below it decides
pub last_begun : (rs : List (ℕ × ℕ)) (id begun : ℕ) (d : ℕ × ℕ) → AreApart rs → 0 < begun → begun ≤ length rs
    → ((i : ℕ) (e : ℕ × ℕ) → i < begun → (get_or rs i e).0 ≤ id) → ((i : ℕ) (e : ℕ × ℕ) → begun ≤ i → i < length rs → id < (get_or rs i e).0)
    → nat_le id (get_or rs (begun - 1) d).1 ≡ is_within rs id
last_begun rs id begun d apart some fits before later = one (nat_le id (get_or rs (begun - 1) d).1) refl
  where
    last_is : (e : ℕ × ℕ) → get_or rs (begun - 1) e ≡ get_or rs (begun - 1) d
    last_is e = get_or_default rs (begun - 1) e d (omega (arith, some, fits))

    one : (b : Bool) → nat_le id (get_or rs (begun - 1) d).1 ≡ b → b ≡ is_within rs id
    one true e =
        let start : (get_or rs (begun - 1) d).0 ≤ id = before (begun - 1) d (omega (arith, some)) in
        sym (list_any_at _ rs (begun - 1) d (omega (arith, some, fits)) (rw (le-leb _ _ start, e) refl))
    one false e = sym (list_any_none _ rs outside)
      where
        above : (get_or rs (begun - 1) d).1 < id
        above = leb-false _ _ e

        outside : All (λ r. (nat_le r.0 id && nat_le id r.1) ≡ false) rs
        outside i f l = elim (cases_lt i begun) [
          | inr past ↦ out_test (get_or rs i f) id (inl (later i f past l))
          | inl below ↦ elim (cases_lt (i + 1) begun) [
            | inl earlier ↦
                let gap : (get_or rs i f).1 + 1 < (get_or rs (begun - 1) f).0 = apart.apart i (begun - 1) f (omega (arith, earlier)) (omega (arith, some, fits)) in
                let start : (get_or rs (begun - 1) f).0 ≤ id = before (begun - 1) f (omega (arith, some)) in
                out_test (get_or rs i f) id (inr (omega (arith, gap, start)))
            | inr is_last ↦
                let same : i ≡ begun - 1 = omega (arith, below, is_last) in
                out_test (get_or rs i f) id (inr (rw (same, last_is f) above))
          ]
        ]

-- starts rise
pub starts_rise : (rs : List (ℕ × ℕ)) (i j : ℕ) (d e : ℕ × ℕ) → AreApart rs → i ≤ j → j < length rs → (get_or rs i d).0 ≤ (get_or rs j e).0
starts_rise rs i j d e apart le l = elim (cases_lt i j) [
  | inl less ↦
      let gap : (get_or rs i d).1 + 1 < (get_or rs j d).0 = apart.apart i j d less l in
      let whole : (get_or rs i d).0 ≤ (get_or rs i d).1 = apart.whole i d (omega (arith, less, l)) in
      let same : get_or rs j d ≡ get_or rs j e = get_or_default rs j d e l in
      rw (← same) (omega (arith, gap, whole))
  | inr more ↦ let is : i ≡ j = omega (arith, le, more) in rw (is, get_or_default rs j d e l) (omega arith)
]
