use Rattle.record_tables.proofs.Prelude.{length, ap, arith, common_steps, length-filter_more}
use Rattle.record_tables.proofs.Counting.{pair_kept, pair_more, pair_room}
use Rattle.record_tables.proofs.joined.pair_of.Goals as goal

pub overflow_add-segments : goal.overflow_add-segments
overflow_add-segments c =
    let room = pair_room c.args.table c.args.index c.loop-at.at c.args.patches.now c.at-patch.result c.loop-at.own (omega arith) c.at-patch.ensures c.loop-at.invariant.own in
    omega (arith, room, c.requires, ap length c.as_slice.ensures, c.loop-at.invariant.segments)

pub loop-at-preserved : goal.loop-at-preserved
loop-at-preserved c =
    let h = c.loop-at.invariant in
    let kept = pair_kept c.args.table c.args.index c.loop-at.at c.args.patches.now c.at-patch.result c.loop-at.own (omega arith) c.at-patch.ensures h.own in
    let more = pair_more c.args.table c.args.index c.loop-at.at c.args.patches.now c.at-patch.result c.loop-at.own (omega arith) c.at-patch.ensures h.own in
    record {
      lower = grind (arith, common_steps);
      own = grind (arith, common_steps, length-filter_more);
      few = grind (arith, common_steps);
      segments = grind (arith, kept, more, h.segments);
    }
