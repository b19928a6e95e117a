use Rattle.table_planner.proofs.Prelude.{◌+◌, arith}
use Rattle.table_planner.proofs.ElidingLemmas.{elisions_distinct}
use Rattle.table_planner.proofs.PlanLemmas.{new_last}
use Rattle.array_memory.proofs.PlanLemmas.{ids_rise}
use Rattle.table_planner.proofs.planning.made_for_plan.Goals as goal

pub new_patches-requires-clause-elisions : goal.new_patches-requires-clause-elisions
new_patches-requires-clause-elisions c =
    let numbers = c.requires.left.1 in
    elisions_distinct c.args.memory.now c.args.eliding.now c.requires.sound c.requires.eliding (omega (arith, numbers))

pub new_patches-requires-clause-ascends : goal.new_patches-requires-clause-ascends
new_patches-requires-clause-ascends c = rw (c.deref.ensures.value, c.in_ok-segments.ensures) (ids_rise c.next-next.result.segment (c.next-next.result.sequence + c.len.result) c.len-2.result c.args.units.now)

pub new_patches-requires-clause-last : goal.new_patches-requires-clause-last
new_patches-requires-clause-last c = rw c.deref.ensures.value
    (new_last c.args.memory.now (c.args.memory.now.memory.next.sequence + c.len.result) c.len-2.result c.args.units.now c.in_ok-segments.segments.items c.kept.ensures (rw c.next-next.ensures at c.in_ok-segments.ensures))
