use Rattle.parity72.proofs.Prelude.{arith}
use Rattle.parity72.proofs.Linear.{left-first, left-set, left-unset, left-none}
use Rattle.parity72.proofs.bytes.mul.Goals as goal
use Rattle.parity72.proofs.bytes.mul.Goals.{then-rest-eq1, else-rest-eq1}

pub loop-k-init : goal.loop-k-init
loop-k-init c = left-first c.args.b c.args.x

pub loop-k-preserved : goal.loop-k-preserved
loop-k-preserved c =
    let l = c.loop-k in
    elim c.if-rest-eq1.branch [
      | then-rest-eq1 w ↦ left-set c.args.b c.args.x l._k l.sum l.power l.rest _ _ l.invariant c.loop-k-test.true w.if-rest-eq1.true w.sum-is c.double-power.ensures
      | else-rest-eq1 w ↦ left-unset c.args.b c.args.x l._k l.sum l.power l.rest _ _ l.invariant c.loop-k-test.true w.if-rest-eq1.false w.sum-is c.double-power.ensures
    ]

pub returns : goal.returns
returns c = left-none c.args.b c.args.x c.loop-k._k c.loop-k.sum c.loop-k.power c.loop-k.rest c.loop-k.invariant (omega arith)
