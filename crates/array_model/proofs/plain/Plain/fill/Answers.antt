use Rattle.array_model.proofs.Prelude.{refl, ap, ◌∙◌, arith, replicate, with_items_is, filled, with_span}
use Rattle.array_model.proofs.PlaceLemmas.{value-sectors, written-at}
use Rattle.array_model.proofs.plain.Plain.fill.Goals as goal

pub fill_span-requires : goal.fill_span-requires
fill_span-requires c =
    let is = value-sectors c.self.inside.objects.entries c.args.place.now.object c.index_mut-object.result.now c.index_mut-object.ensures.value in
    let room = rw (← c.self.view_is) at c.requires.sectors in
    rw (c.deref_mut.ensures.value, ← is) room

pub returns : goal.returns
returns c =
    rw (← c.self.view_is) (written-at c.self.inside.objects.entries c.args.place.now.object c.index_mut-object.result.now _ c.args.place.now.lba (replicate c.args.place.now.count (filled c.args.byte)) c.index_mut-object.ensures.value refl
    (with_items_is c.index_mut-object.result.now.sectors c.fill_span.new.sectors (omega (arith, c.fill_span.auto.sectors, c.deref_mut.ensures.len))
    ∙ c.fill_span.ensures ∙ ap (with_span c.args.place.now.lba (replicate c.args.place.now.count (filled c.args.byte))) c.deref_mut.ensures.value))
