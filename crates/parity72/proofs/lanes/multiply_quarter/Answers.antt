use Rattle.parity72.proofs.Prelude.{get_or, bit_xor, ap, sym, ◌∙◌, subst, arith, get_or-replicate}
use Rattle.parity72.proofs.LaneFacts.{zip-at}
use Rattle.parity72.proofs.Linear.{LeftToAdd, left-first, left-set, left-unset, left-none}
use Rattle.parity72.proofs.lanes.multiply_quarter.Goals as goal
use Rattle.parity72.proofs.lanes.multiply_quarter.Goals.{then-rest-eq1, else-rest-eq1}

pub loop-k-init : goal.loop-k-init
loop-k-init c k lt =
    let x = get_or c.args.lanes k 0 in
    subst (λ s. LeftToAdd x c.args.factor 0 s x c.args.factor) (sym (get_or-replicate 16 k 0 0 lt)) (left-first x c.args.factor)

pub loop-k-preserved : goal.loop-k-preserved
loop-k-preserved c k lt =
    let l = c.loop-k in
    let x = get_or c.args.lanes k 0 in
    elim c.if-rest-eq1.branch [
      | then-rest-eq1 w ↦
          left-set x c.args.factor l._k (get_or l.sum k 0) (get_or l.power k 0) l.rest _ _ (l.invariant k lt) c.loop-k-test.true w.if-rest-eq1.true
          (ap (λ s. get_or s k 0) w.sum-is ∙ zip-at bit_xor 16 l.sum l.power l.auto.sum.0 l.auto.power.0 k lt) (c.double_quarter-power.ensures k lt)
      | else-rest-eq1 w ↦
          left-unset x c.args.factor l._k (get_or l.sum k 0) (get_or l.power k 0) l.rest _ _ (l.invariant k lt) c.loop-k-test.true w.if-rest-eq1.false
          (ap (λ s. get_or s k 0) w.sum-is) (c.double_quarter-power.ensures k lt)
    ]

pub returns : goal.returns
returns c k lt =
    let l = c.loop-k in
    left-none (get_or c.args.lanes k 0) c.args.factor l._k (get_or l.sum k 0) (get_or l.power k 0) l.rest (l.invariant k lt) (omega arith)
