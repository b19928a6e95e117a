use Rattle.table_soundness.proofs.Prelude.{arith, leb-true, le-leb}
use Rattle.table_soundness.proofs.MediumLemmas.{last_within, within_last}
use Rattle.table_soundness.proofs.mediums.ends_within.Goals as goal

pub returns-in-Some : goal.returns-in-Some
returns-in-Some c =
    let ranges = c.args.ranges.now in
    let x = c.args.object.now in
    let last = c.in-Some.last in
    let from = c.from.ensures in (
      λ yes. let le = leb-true _ _ yes in within_last ranges x last c.requires.ascends c.requires.ranges c.requires.disjoint c.in-Some.ensures.some (omega (arith, le, from)),
      λ h. let le = last_within ranges x last c.requires.ranges c.in-Some.ensures.some h in le-leb _ _ (omega (arith, le, from)),
    )
