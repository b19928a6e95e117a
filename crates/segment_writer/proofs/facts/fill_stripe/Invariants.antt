use Rattle.segment_writer.proofs.Prelude.{ℕ, ◌+◌, ◌*◌, ◌<◌, map, text_in, IsTextOf}
use Rattle.segment_writer.proofs.facts.fill_stripe.Given as goal

abbrev pub invariant-loop-place : goal.invariant-loop-place
invariant-loop-place g l = (k : ℕ) → k < l.place → IsTextOf (map g.F.TableFact.any l.facts) (448 * l.number + k) (text_in l.stripe k)
