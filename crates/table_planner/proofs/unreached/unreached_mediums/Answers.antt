use Rattle.table_planner.proofs.ReachedLemmas.{descending, lowest_of}
use Rattle.table_planner.proofs.unreached.unreached_mediums.Goals as goal

pub reachable-requires-clause-descending : goal.reachable-requires-clause-descending
reachable-requires-clause-descending c =
    rw (c.ranges-elided.ensures.value, c.elided.ensures, c.mediums.ensures) (descending c.args.memory.now c.kept.ensures c.requires)

pub returns : goal.returns
returns c =
    let all = rw (c.ranges-elided.ensures.value, c.elided.ensures, c.mediums.ensures, c.deref.ensures.value) at c.in_ok-reached.ensures.mediums in
    let lowest = rw (c.ranges-elided.ensures.value, c.elided.ensures, c.next.ensures, c.deref-2.ensures.value) at c.in_ok-ids.ensures in
    lowest_of c.args.memory.now c.kept.ensures c.in_ok-from.from.items c.in_ok-reached.reached.items c.in_ok-ids.ids.items c.in_ok-from.ensures all lowest
