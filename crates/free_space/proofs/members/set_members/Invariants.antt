use Rattle.free_space.proofs.Loops.{SetsUpTo}
use Rattle.free_space.proofs.members.set_members.Given as goal

abbrev pub invariant-loop-slot : goal.invariant-loop-slot
invariant-loop-slot l = SetsUpTo l.initial.map l.map l.flags l.slot
