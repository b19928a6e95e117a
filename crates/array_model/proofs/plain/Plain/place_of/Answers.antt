use Rattle.array_model.proofs.PlaceLemmas.{place-some, place-none}
use Rattle.array_model.proofs.plain.Plain.place_of.Goals as goal

pub returns-clause-some : goal.returns-clause-some
returns-clause-some c = rw (← c.self.view_is) (place-some c.args.name.now c.self.inside.objects.entries c.get_index_of.result c.get_index_of.ensures.index)

pub returns-clause-none : goal.returns-clause-none
returns-clause-none c = rw (← c.self.view_is) (place-none c.args.name.now c.self.inside.objects.entries c.get_index_of.result c.get_index_of.ensures.index)
