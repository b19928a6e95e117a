use Rattle.table_soundness.proofs.Prelude.{◌-◌, ◌<◌, ◌≤◌, length, get_or, false, All, get_or_default}
use Rattle.table_soundness.proofs.MarkLemmas.{marked-next}
use Rattle.table_soundness.proofs.distinct.are_marked_once.Goals as goal

pub loop-number-preserved : goal.loop-number-preserved
loop-number-preserved c =
    let numbers = c.args.numbers.now in
    let n = c.loop-number.number-index in
    let within : All (λ m. (c.args.low ≤ m) × (m - c.args.low < length c.loop-number.marks)) numbers = rw c.loop-number.auto.marks c.requires.within in
    marked-next c.args.low numbers n (get_or numbers n 0) c.loop-number.marks false c.loop-number.invariant within c.loop-number-test.true (get_or_default numbers n 0 (get_or numbers n 0) c.loop-number-test.true) c.if-marks-mark.false
