use Rattle.array_memory.proofs.PlanLemmas.{placed_ascend}
use Rattle.table_planner.proofs.PlanLemmas.{all_have}
use Rattle.table_planner.proofs.planning.placed_addresses.Goals as goal

pub repointed_facts-requires : goal.repointed_facts-requires
repointed_facts-requires c =
    rw (c.facts_of.ensures.facts, c.deref-2.ensures.value, c.in_ok-places.ensures, c.deref.ensures.value, c.next.ensures) (all_have c.args.memory.now.memory c.args.placing.now c.requires.sound c.requires.placing)

pub from_facts-requires : goal.from_facts-requires
from_facts-requires c =
    rw (c.in_ok-facts.ensures, c.facts_of.ensures.facts, c.deref-2.ensures.value, c.in_ok-places.ensures, c.deref.ensures.value, c.next.ensures)
    (placed_ascend c.args.memory.now.memory c.args.placing.now c.requires.sound c.requires.placing)

pub returns : goal.returns
returns c = rw (c.from_facts.ensures, c.in_ok-facts.ensures, c.facts_of.ensures.facts, c.deref-2.ensures.value, c.in_ok-places.ensures, c.deref.ensures.value, c.next.ensures)
