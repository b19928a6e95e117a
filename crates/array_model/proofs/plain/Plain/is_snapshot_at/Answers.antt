use Rattle.array_model.proofs.Prelude.{sym}
use Rattle.array_model.proofs.PlaceLemmas.{snapshot-at-some, snapshot-at-none}
use Rattle.array_model.proofs.plain.Plain.is_snapshot_at.Goals as goal

pub returns-in-Some : goal.returns-in-Some
returns-in-Some c = rw (← c.self.view_is) (sym (snapshot-at-some c.self.inside.objects.entries c.args.object _ c.in-Some.ensures.entry))

pub returns-in-None : goal.returns-in-None
returns-in-None c = rw (← c.self.view_is) (sym (snapshot-at-none c.self.inside.objects.entries c.args.object c.in-None.ensures.entry))
