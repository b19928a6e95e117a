use Rattle.shelf_look.proofs.Prelude.{◌∙◌, ◌<◌, List, ap, arith, length, sym, PatchSegment}
use Rattle.shelf_look.proofs.Counting.{few_of_table, of_other_table, one_of_table}
use Rattle.shelf_look.proofs.counts.counted.Goals as goal
use Rattle.shelf_look.proofs.counts.counted.Goals.{then-patch-tag, else-patch-tag}

pub loop-index-preserved : goal.loop-index-preserved
loop-index-preserved c =
    let ps = c.args.patches.now in
    let n = c.loop-index.index in
    let p = c.at-patch.result in
    let inv = c.loop-index.invariant in
    let lt : n < length ps = omega (arith, c.loop-index-test.true, c.len-index-end.ensures) in
    elim c.if-patch-tag.branch [
      | then-patch-tag w ↦ rw (w.counts-is) (record {
        done = one_of_table c.args.table ps n p lt c.at-patch.ensures c.args.visible _ _ c.loop-index.counts (ap (λ (ss : List PatchSegment). length ss) w.as_slice.ensures) w.from.ensures (w.if-patch-tag.true ∙ c.tag-tag.ensures) inv.done;
        few = (omega (arith, inv.few.0), omega (arith, inv.few.1));
      })
      | else-patch-tag w ↦ rw (w.counts-is) (record {
        done = of_other_table c.args.table ps n p lt c.at-patch.ensures c.args.visible c.loop-index.counts (λ is. w.if-patch-tag.false (is ∙ sym c.tag-tag.ensures)) inv.done;
        few = (omega (arith, inv.few.0), omega (arith, inv.few.1));
      })
    ]

pub overflow_add-counts-then-patch-tag : goal.overflow_add-counts-then-patch-tag
overflow_add-counts-then-patch-tag c =
    let ps = c.args.patches.now in
    let lt : c.loop-index.index < length ps = omega (arith, c.loop-index-test.true, c.len-index-end.ensures) in
    let few = few_of_table c.args.table ps c.loop-index.index c.at-patch.result lt c.at-patch.ensures in
    let long = ap (λ (ss : List PatchSegment). length ss) c.as_slice.ensures in
    omega (arith, few, c.loop-index.invariant.done.segments, long, c.requires.room)
