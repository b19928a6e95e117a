use Rattle.segment_io.proofs.Prelude.{◌≤◌, arith, place_of}
use Rattle.segment_io.proofs.units.are_places.Goals as goal

pub returns-then-slot-least : goal.returns-then-slot-least
returns-then-slot-least g c = (
  λ is. absurd (cc is),
  λ are.
      let slot = (place_of c.args.places.now c.loop-shard.shard).slot in
      let h : c.loop-shard.least ≤ slot = c.loop-shard.invariant.least slot (λ k lt. are.ascending k c.loop-shard.shard lt c.loop-shard-test.true) in absurd (omega (arith, h)),
)
