use Rattle.array_model.proofs.Prelude.{refl, sym, ap, ◌∙◌, with_sectors_at, array_of}
use Rattle.array_model.proofs.PlaceLemmas.{value-sectors, given-at}
use Rattle.array_model.proofs.plain.Plain.exchange.Goals as goal

pub returns-clause-before : goal.returns-clause-before
returns-clause-before c =
    rw (← c.self.view_is) (ap (λ v. v.items) c.replace.ensures.value ∙ sym (value-sectors c.self.inside.objects.entries c.args.object c.index_mut-object.result.now c.index_mut-object.ensures.value))

pub returns-clause-after : goal.returns-clause-after
returns-clause-after c =
    rw (← c.self.view_is) (given-at c.self.inside.objects.entries c.args.object c.index_mut-object.result.now _ c.index_mut-object.ensures.value refl
    ∙ ap (λ v. with_sectors_at (array_of c.self.inside.objects.entries) c.args.object v.items) c.replace.ensures.after)
