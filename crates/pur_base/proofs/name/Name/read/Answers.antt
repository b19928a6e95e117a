use Rattle.pur_base.proofs.NameLemmas.{padded}
use Rattle.pur_base.proofs.name.Name.read.Goals as goal

pub invariant_of-result : goal.invariant_of-result
invariant_of-result c =
    rw c.copy_from_slice.ensures.after (padded c.args.text.now (c.is_name_text.ensures.len c.if-not-is_name_text.false))
