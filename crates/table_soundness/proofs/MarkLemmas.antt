-- Numbers that are marked at their distance from a low one.
use Rattle.table_soundness.proofs.Prelude.{nat_tests, ◌≡◌, ◌≢◌, ℕ, ◌+◌, ◌-◌, ◌<◌, ◌≤◌, Bool, true, false, List, length, get_or, set, sym, ◌∙◌, arith, inl, inr, All, get_or-set_same, get_or-set_other, length-set, cases_eq, get_or_default}

-- the first n numbers differ, and what is marked are their distances alone
pub record AreMarked (low : ℕ) (numbers : List ℕ) (n : ℕ) (marks : List Bool) : Type 0 where
  pub distinct : (i j : ℕ) (d : ℕ) → i < j → j < n → get_or numbers i d ≢ get_or numbers j d
  pub marked : (i : ℕ) (d : ℕ) (e : Bool) → i < n → get_or marks (get_or numbers i d - low) e ≡ true
  pub alone : (k : ℕ) (e : Bool) → k < length marks → get_or marks k e ≡ true → (i : ℕ) × (i < n) × ((d : ℕ) → get_or numbers i d - low ≡ k)

-- a number whose mark doesn't stand is new
pub marked-next : (low : ℕ) (numbers : List ℕ) (n x : ℕ) (marks : List Bool) (e : Bool) → AreMarked low numbers n marks → All (λ m. (low ≤ m) × (m - low < length marks)) numbers
    → n < length numbers → x ≡ get_or numbers n x → get_or marks (x - low) e ≡ false → AreMarked low numbers (n + 1) (set marks (x - low) true)
marked-next low numbers n x marks e m within l is free = record {
  distinct = λ i j d less w. let last = get_or_default numbers n d x l in let old = m.marked i d e in let new = m.distinct i j d less in grind (arith, nat_tests, last, old, new);
  marked = λ i d f w. let last = get_or_default numbers n d x l in let here = within n x l in let old = m.marked i d f in grind (arith, nat_tests, get_or-set_same, get_or-set_other, last, here, old);
  alone = λ k f k_in stands. elim (cases_eq k (x - low)) [
    | inl same ↦ (n, omega arith, λ d. let last = get_or_default numbers n d x l in grind (arith, nat_tests, last))
    | inr other ↦ let came = m.alone k f (omega (arith, length-set marks (x - low) true)) (sym (get_or-set_other marks (x - low) k true f other) ∙ stands) in (came.0, omega (arith, came.1), came.2)
  ];
}
