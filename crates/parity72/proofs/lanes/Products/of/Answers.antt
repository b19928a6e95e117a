use Rattle.parity72.proofs.Prelude.{◌≡◌, ℕ, ◌*◌, ◌%◌, ◌^◌, ◌<◌, true, eqb, get_or, List, replicate, refl, ap, ◌∙◌, arith, times}
use lib.Lanes.{zip2}
use borrow.Author.Tests.{eqb-true}
use Rattle.parity72.specs.declared.lanes.TheConstants.{DIGITS}
use Rattle.parity72.proofs.Checks.{all_below, all_below-at}
use Rattle.parity72.proofs.Laws.{times-comm}
use Rattle.parity72.proofs.lanes.Products.of.Goals as goal

-- what the shift of the digits by four gives
abbrev shifted : List ℕ
shifted = zip2 (λ a b. a * 2 ^ b % 256) DIGITS (replicate 16 4)

digits-all : all_below (λ j. eqb (get_or DIGITS j 0) j) 16 ≡ true
digits-all = refl

shifted-all : all_below (λ j. eqb (get_or shifted j 0) (j * 16)) 16 ≡ true
shifted-all = refl

digits-at : (j : ℕ) → j < 16 → get_or DIGITS j 0 ≡ j
digits-at j lt = eqb-true (get_or DIGITS j 0) j (all_below-at (λ j. eqb (get_or DIGITS j 0) j) 16 digits-all j lt)

shifted-at : (j : ℕ) → j < 16 → get_or shifted j 0 ≡ j * 16
shifted-at j lt = eqb-true (get_or shifted j 0) (j * 16) (all_below-at (λ j. eqb (get_or shifted j 0) (j * 16)) 16 shifted-all j lt)

pub invariant_of-result : goal.invariant_of-result
invariant_of-result c =
    let f = c.args.factor in
    record {
      low_products = λ j lt. c.multiply_quarter-low.ensures j lt ∙ ap (λ d. times d f) (digits-at j lt) ∙ times-comm j f (omega arith) (omega arith);
      high_products = λ j lt. c.multiply_quarter-high.ensures j lt ∙ ap (λ d. times d f) (shifted-at j lt) ∙ times-comm (j * 16) f (omega arith) (omega arith);
    }
