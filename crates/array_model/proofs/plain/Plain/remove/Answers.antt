use Rattle.array_model.proofs.Prelude.{ap, ◌∙◌, array_of}
use Rattle.array_model.proofs.PlaceLemmas.{removed}
use Rattle.array_model.proofs.plain.Plain.remove.Goals as goal

pub returns : goal.returns
returns c = rw (← c.self.view_is) (ap array_of c.shift_remove.ensures.entries ∙ removed c.self.inside.objects.entries c.args.name.now)
