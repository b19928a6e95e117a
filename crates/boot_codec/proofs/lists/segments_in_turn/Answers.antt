use Rattle.boot_codec.proofs.Prelude.{◌∷◌, [], arith, length-append, err_from_is_err_and}
use Rattle.boot_codec.proofs.LoopLemmas.{segments_go_on, segments_end, segments_done}
use Rattle.boot_codec.proofs.lists.segments_in_turn.Goals as goal

pub returns-in_err-next-clause-gives : goal.returns-in_err-next-clause-gives
returns-in_err-next-clause-gives c =
    let p = err_from_is_err_and c.from_residual.result c.from_residual.ensures.1 in
    rw (p.1, p.2) (segments_end c.in_err-next.field-0.0 c.args.slots c.args.units c.loop.into.items c.args.count c.loop.counter c.loop.rest.now _ c.loop-test.true c.in_err-next.ensures c.loop.invariant.1)

pub loop-preserved : goal.loop-preserved
loop-preserved c =
    let next = c.in_ok-next.next in
    rw c.in_ok-push.ensures.items (
      omega (arith, length-append c.loop.into.items (next ∷ []), c.loop.invariant.0),
      segments_go_on c.args.slots c.args.units c.loop.into.items c.args.count c.loop.counter c.loop.rest.now next c.in_ok-next.after.now _ c.loop-test.true c.in_ok-next.ensures c.loop.invariant.1,
    )

pub returns-clause-gives : goal.returns-clause-gives
returns-clause-gives c = segments_done c.args.slots c.args.units c.loop.into.items c.args.count c.loop.counter c.loop.rest.now _ c.loop-test.false c.loop.invariant.1
