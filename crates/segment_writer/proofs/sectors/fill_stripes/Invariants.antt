use Rattle.segment_writer.proofs.Prelude.{ℕ, ◌<◌, stripe_in, HoldsSectors}
use Rattle.segment_writer.proofs.sectors.fill_stripes.Given as goal

abbrev pub invariant-loop-number : goal.invariant-loop-number
invariant-loop-number l = (k : ℕ) → k < l.number → HoldsSectors l.staged l.order k (stripe_in l.stripes k)
