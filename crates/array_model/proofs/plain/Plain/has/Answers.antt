use Rattle.array_model.proofs.Prelude.{sym}
use Rattle.array_model.proofs.PlaceLemmas.{has-at}
use Rattle.array_model.proofs.plain.Plain.has.Goals as goal

pub returns-in-Some : goal.returns-in-Some
returns-in-Some c = sym (has-at c.args.name.now c.args.self.now c.in-Some.field-0 c.in-Some.ensures.some.1)
