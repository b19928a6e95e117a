use Rattle.unit_map.proofs.TakingLemmas.{IsTakenUpTo}
use Rattle.unit_map.proofs.taking.take_chosen.Given as goal

abbrev pub invariant-loop-slot : goal.invariant-loop-slot
invariant-loop-slot l = IsTakenUpTo l.initial.drives l.drives l.chosen l.places l.slot l.shard
