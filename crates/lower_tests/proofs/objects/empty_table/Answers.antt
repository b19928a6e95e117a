use Rattle.lower_tests.proofs.Prelude.{[], object_key, never, is_within, shown_nothing, number}
use Rattle.lower_tests.proofs.objects.empty_table.Goals as goal

pub returns-in-Ok-from_facts-clause-visible : goal.returns-in-Ok-from_facts-clause-visible
returns-in-Ok-from_facts-clause-visible c =
    shown_nothing object_key number never (is_within []) c.in-Ok-from_facts.table.visible (rw (c.in-Ok-from_facts.ensures.facts, c.in-Ok.ensures.0, c.in-Ok.ensures.1) at c.in-Ok-from_facts.ensures.visible)
