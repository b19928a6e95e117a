use Rattle.segment_writer.proofs.Prelude.{ℕ, ◌<◌, map, stripe_in, HoldsFacts}
use Rattle.segment_writer.proofs.facts.fill_stripes.Given as goal

abbrev pub invariant-loop-number : goal.invariant-loop-number
invariant-loop-number g l = (k : ℕ) → k < l.number → HoldsFacts (map g.F.TableFact.any l.facts) k (stripe_in l.stripes k)
