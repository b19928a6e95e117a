use Rattle.array_spec.proofs.ExampleValues.{groups_of_eleven, what_facts_say}
use Rattle.array_spec.proofs.replies.small_examples.Goals as goal

pub returns-clause-groups : goal.returns-clause-groups
returns-clause-groups c = groups_of_eleven

pub returns-clause-facts : goal.returns-clause-facts
returns-clause-facts c = what_facts_say
