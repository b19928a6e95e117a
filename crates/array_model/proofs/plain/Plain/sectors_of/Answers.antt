use Rattle.array_model.proofs.Prelude.{sym, ◌∙◌}
use Rattle.array_model.proofs.PlaceLemmas.{sectors-of}
use Rattle.array_model.proofs.plain.Plain.sectors_of.Goals as goal

pub returns-in-Some : goal.returns-in-Some
returns-in-Some c = c.sectors_at.ensures ∙ sym (sectors-of c.args.name.now c.args.self.now c.in-Some.object c.in-Some.ensures.some.1)
