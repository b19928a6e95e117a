use Rattle.array_model.proofs.Prelude.{ap, ◌∙◌, array_of}
use Rattle.array_model.proofs.PlaceLemmas.{inserted}
use Rattle.array_model.proofs.plain.Plain.push.Goals as goal

pub returns-clause-ok : goal.returns-clause-ok
returns-clause-ok c =
    let absent = rw (← c.self.view_is) at c.requires in
    rw (← c.self.view_is) (ap array_of c.in_ok-insert.ensures.entries ∙ inserted c.self.inside.objects.entries c.args.name.now c.args.object absent)
