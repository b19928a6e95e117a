use Rattle.array_model.proofs.Prelude.{sym, ◌∙◌}
use Rattle.array_model.proofs.PlaceLemmas.{sectors-at-some, sectors-at-none}
use Rattle.array_model.proofs.plain.Plain.sectors_at.Goals as goal

pub returns-in-Some : goal.returns-in-Some
returns-in-Some c = rw (← c.self.view_is) (c.as_slice.ensures.value ∙ sym (sectors-at-some c.self.inside.objects.entries c.args.index _ c.in-Some.ensures.entry))

pub returns-in-None : goal.returns-in-None
returns-in-None c = rw (← c.self.view_is) (sym (sectors-at-none c.self.inside.objects.entries c.args.index c.in-None.ensures.entry))
