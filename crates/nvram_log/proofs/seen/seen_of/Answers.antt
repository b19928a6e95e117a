use Rattle.nvram_log.proofs.Prelude.{refl}
use Rattle.nvram_log.proofs.seen.seen_of.Goals as goal

pub returns : goal.returns
returns c = record {
  gates = refl;
  some = λ i lt is. rw (← c.deref.ensures.value) (c.shown_in.ensures.some i lt is);
  none = λ i lt is. rw (← c.deref.ensures.value) (c.shown_in.ensures.none i lt is);
}
