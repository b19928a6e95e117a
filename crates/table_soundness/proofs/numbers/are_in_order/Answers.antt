use Rattle.table_soundness.proofs.Prelude.{arith, leb-true, le-leb, facts_of}
use Rattle.table_soundness.proofs.NumberLemmas.{below_past}
use Rattle.table_soundness.proofs.numbers.are_in_order.Goals as goal

pub returns-in-Some : goal.returns-in-Some
returns-in-Some g c =
    let is = c.in-Some.ensures.some in
    let bound = below_past g.F.Fact.number (facts_of c.args.patches.now) c.in-Some.past c.args.next is.least in
    let from = c.from.ensures in (
      λ yes. let le = leb-true _ _ yes in (bound.0 (omega (arith, le, from)), is.rising),
      λ h. let le = bound.1 h.0 in le-leb _ _ (omega (arith, le, from)),
    )
