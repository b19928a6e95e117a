use Rattle.segment_writer.proofs.Prelude.{ℕ, ◌+◌, ◌*◌, ◌<◌, sector_of_stripe, IsSectorOf}
use Rattle.segment_writer.proofs.sectors.fill_stripe.Given as goal

abbrev pub invariant-loop-place : goal.invariant-loop-place
invariant-loop-place l = (k : ℕ) → k < l.place → IsSectorOf l.staged l.order (56 * l.number + k) (sector_of_stripe l.stripe k)
