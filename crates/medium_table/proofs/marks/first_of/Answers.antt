use Rattle.medium_table.proofs.Prelude.{arith}
use Rattle.medium_table.proofs.MarkLemmas.{none_of}
use Rattle.medium_table.proofs.marks.first_of.Goals as goal
use Rattle.medium_table.proofs.marks.first_of.Goals.{else-place-ranges-via-then-place-ranges+else-ranges-place, else-place-ranges-via-else-place-ranges}

pub returns-else-place-ranges-clause-absent : goal.returns-else-place-ranges-clause-absent
returns-else-place-ranges-clause-absent c =
    let below = c.ranges_below-place.ensures in
    none_of c.args.ranges.now c.args.medium.0 c.ranges_below-place.result c.requires below.below below.above (elim c.else-place-ranges.branch [
      | else-place-ranges-via-then-place-ranges+else-ranges-place w ↦ λ within same. w.if-ranges-place.false same
      | else-place-ranges-via-else-place-ranges w ↦ λ within same. (let past = w.if-place-ranges.false in omega (arith, within, past))
    ])
