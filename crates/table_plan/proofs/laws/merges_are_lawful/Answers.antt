use Rattle.table_plan.proofs.MergeLemmas.{is_merge, are_patch_facts, no_more_facts}
use Rattle.table_plan.proofs.laws.merges_are_lawful.Goals as goal

pub returns : goal.returns
returns c = record { merges = is_merge; facts = are_patch_facts; few = no_more_facts }
