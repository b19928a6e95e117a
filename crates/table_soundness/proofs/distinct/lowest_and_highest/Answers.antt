use Rattle.table_soundness.proofs.Prelude.{nat_tests, ◌≡◌, ◌⊎◌, ℕ, List, get_or, sym, subst, arith, inl, inr, Contains, cases_lt, get_or_default}
use Rattle.table_soundness.proofs.distinct.lowest_and_highest.Goals as goal

pub loop-number-preserved : goal.loop-number-preserved
loop-number-preserved c =
    let numbers = c.args.numbers.now in
    let n = c.loop-number.number-index in
    let x : ℕ = get_or numbers n 0 in
    let was = c.loop-number.invariant in
    let here : Contains numbers x = (n, c.loop-number-test.true, get_or_default numbers n x 0 c.loop-number-test.true) in
    record {
      low = either numbers c.loop-number.low x c.min-low.result was.low here (elim (cases_lt x c.loop-number.low) [ inl below ↦ inr (omega arith) | inr over ↦ inl (omega arith) ]);
      high = either numbers c.loop-number.high x c.max-high.result was.high here (elim (cases_lt x c.loop-number.high) [ inl below ↦ inl (omega arith) | inr over ↦ inr (omega arith) ]);
      within = λ i d w. let old = was.within i d in let last = get_or_default numbers n d 0 c.loop-number-test.true in grind (arith, nat_tests, old, last, c.min-low.ensures, c.max-high.ensures);
    }
  where
    either : (numbers : List ℕ) (m x y : ℕ) → Contains numbers m → Contains numbers x → (y ≡ m) ⊎ (y ≡ x) → Contains numbers y
    either numbers m x y was here (inl same) = subst (λ v. Contains numbers v) (sym same) was
    either numbers m x y was here (inr same) = subst (λ v. Contains numbers v) (sym same) here
