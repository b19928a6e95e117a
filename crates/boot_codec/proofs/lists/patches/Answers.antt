use Rattle.boot_codec.proofs.Prelude.{err_from_is_err_and, patches_of}
use Rattle.boot_codec.proofs.LoopLemmas.{patches_end, patches_done}
use Rattle.boot_codec.proofs.PatchLemmas.{patches_more}
use Rattle.boot_codec.proofs.lists.patches.Goals as goal

pub returns-in_err-head : goal.returns-in_err-head
returns-in_err-head c =
    let p = err_from_is_err_and c.from_residual-in_err-head.result c.from_residual-in_err-head.ensures.1 in
    rw (p.1, p.2) (patches_end c.in_err-head.field-0.0 c.args.slots c.args.units c.loop.least c.loop.room (patches_of c.loop.segments.items c.loop.heads.items) c.args.count c.loop.counter c.loop.rest.now _ c.loop-test.true c.in_err-head.ensures.gives c.loop.invariant.1)

pub loop-preserved : goal.loop-preserved
loop-preserved c =
    rw c.in_ok-push.ensures.items
    (patches_more c.args.slots c.args.units c.loop.least c.loop.room c.loop.segments.items c.patch.new.into.items c.loop.heads.items c.in_ok-head.head c.args.count c.loop.counter c.loop.rest.now c.in_ok-head.after.now _ c.loop-test.true c.loop.invariant.0 c.in_ok-head.ensures.behind c.in_ok-head.ensures.gives c.loop.invariant.1)

pub returns : goal.returns
returns c = rw c.from_parts.ensures (patches_done c.args.slots c.args.units c.loop.least c.loop.room (patches_of c.loop.segments.items c.loop.heads.items) c.args.count c.loop.counter c.loop.rest.now _ c.loop-test.false c.loop.invariant.1)
