use Rattle.table_soundness.proofs.Prelude.{facts_of, elided_ranges}
use Rattle.table_soundness.proofs.own.judge_own.Goals as goal

pub elided_by-requires : goal.elided_by-requires
elided_by-requires c = rw c.deref.ensures.value (elided_ranges (facts_of c.args.tables.now.elisions.items) c.requires.facts.elisions)

pub visible_in-requires : goal.visible_in-requires
visible_in-requires c = rw c.deref.ensures.value at c.in_ok-elided.ensures

pub first_unsound-requires-clause-elided : goal.first_unsound-requires-clause-elided
first_unsound-requires-clause-elided c = rw c.deref.ensures.value at c.in_ok-elided.ensures
