use Rattle.array_memory.proofs.Prelude.{sym, ◌∙◌}
use Rattle.array_memory.proofs.SaidLemmas.{named_by_said}
use Rattle.array_memory.proofs.said.SaidRun.witness.Goals as goal

pub returns-in-Some : goal.returns-in-Some
returns-in-Some c addresses hidden are = sym c.if-stands_in.true ∙ c.stands_in.ensures ∙ named_by_said c.args.self.now addresses hidden c.args.fact.now.medium.0 c.args.fact.now.sector c.args.segment _ are c.requires (sym c.in-Some.is ∙ c.at.ensures)

pub returns-in_default : goal.returns-in_default
returns-in_default c addresses hidden are = sym c.if-stands_in.false ∙ c.stands_in.ensures ∙ named_by_said c.args.self.now addresses hidden c.args.fact.now.medium.0 c.args.fact.now.sector c.args.segment _ are c.requires (sym c.in-Some.is ∙ c.at.ensures)

pub returns-in_default-2 : goal.returns-in_default-2
returns-in_default-2 c addresses hidden are = named_by_said c.args.self.now addresses hidden c.args.fact.now.medium.0 c.args.fact.now.sector c.args.segment _ are c.requires (sym c.in_default.is ∙ c.at.ensures)
