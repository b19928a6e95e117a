use Rattle.table_plan.proofs.Prelude.{subst, Contains, IsTrue, ranges_of, AreApart}
use Rattle.table_plan.proofs.RangesOf.{range_makes}
use Rattle.table_plan.proofs.eliding.elision_of.Goals as goal

pub returns : goal.returns
returns c = λ before same.
    range_makes c.args.table (ranges_of c.args.elided.now c.args.table) (λ i. IsTrue (before i)) c.args.seq.0 c.args.id c.range_of-first.result
    (subst (λ l. AreApart l) c.ranges-2.ensures.value c.ranges-2.ensures.apart) (subst (λ l. Contains l c.range_of-first.result) c.ranges-2.ensures.value c.range_of-first.ensures.there)
    c.range_of-first.ensures.has same
