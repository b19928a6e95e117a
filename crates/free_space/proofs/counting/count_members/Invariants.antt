use Rattle.free_space.proofs.Taking.{CountsUpTo}
use Rattle.free_space.proofs.counting.count_members.Given as goal

abbrev pub invariant-loop-slot : goal.invariant-loop-slot
invariant-loop-slot l = CountsUpTo l.initial.free l.free l.members l.slot
