use Rattle.segment_io.proofs.Prelude.{◌≡◌, ℕ, ◌<◌, shard_of, stripe_in}
use Rattle.segment_io.proofs.appending.gather_shard.Given as goal

abbrev pub invariant-loop-number : goal.invariant-loop-number
invariant-loop-number l = (k : ℕ) → k < l.number → shard_of l.run k ≡ shard_of (stripe_in l.stripes k) l.shard
