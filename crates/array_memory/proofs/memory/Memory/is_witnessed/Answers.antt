use Rattle.array_memory.proofs.Prelude.{sym, ◌∙◌, facts_in, is_hidden}
use Rattle.array_memory.proofs.NamedLemmas.{named_by}
use Rattle.array_memory.proofs.memory.Memory.is_witnessed.Goals as goal

pub returns-in-Some : goal.returns-in-Some
returns-in-Some c = λ holds. named_by (facts_in c.args.self.now.memory.tables.addresses) (is_hidden c.args.elided.now) c.args.segment _ _ (sym c.names_at.ensures ∙ holds)
