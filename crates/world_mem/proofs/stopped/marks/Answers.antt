use Rattle.world_mem.proofs.Prelude.{◌∙◌, ⊎_elim}
use Rattle.world_mem.proofs.Torn.{in_that}
use Rattle.world_mem.proofs.stopped.marks.Goals as goal

pub loop-span-preserved : goal.loop-span-preserved
loop-span-preserved c = record {
  len = c.note.ensures.len ∙ c.loop-span.invariant.len;
  each = λ i mark. ⊎_elim (λ is. in_that c.args.spans.now c.loop-span.span-index _ i c.loop-span-test.true is) (λ was. c.loop-span.invariant.each i was) (c.note.ensures.each i mark);
}
