use Rattle.array_memory.proofs.Prelude.{get_or, None, is_some, facts_in, is_hidden}
use Rattle.array_memory.proofs.NamedLemmas.{still_found}
use Rattle.array_memory.proofs.memory.Memory.find_in.Goals as goal

pub returns-else-may_point : goal.returns-else-may_point
returns-else-may_point c i l =
    still_found (is_some (get_or c.args.found.now i None)) (facts_in c.args.self.now.memory.tables.addresses) (is_hidden c.args.elided.now) (get_or c.args.ids.now i 0) c.args.patch.now
    (λ f there. c.may_point.ensures c.if-may_point.false f there i l)
