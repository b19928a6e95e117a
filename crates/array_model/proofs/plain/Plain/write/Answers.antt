use Rattle.array_model.proofs.Prelude.{refl, ap, ◌∙◌, arith, with_items_is, with_span}
use Rattle.array_model.proofs.PlaceLemmas.{value-sectors, written-at}
use Rattle.array_model.proofs.plain.Plain.write.Goals as goal

pub write_span-requires : goal.write_span-requires
write_span-requires c =
    let is = value-sectors c.self.inside.objects.entries c.args.place.now.object c.index_mut-object.result.now c.index_mut-object.ensures.value in
    let room = rw (← c.self.view_is) at c.requires.there.sectors in
    rw (c.deref_mut.ensures.value, ← is, c.requires.all) room

pub returns : goal.returns
returns c =
    rw (← c.self.view_is) (written-at c.self.inside.objects.entries c.args.place.now.object c.index_mut-object.result.now _ c.args.place.now.lba c.args.sectors.now c.index_mut-object.ensures.value refl
    (with_items_is c.index_mut-object.result.now.sectors c.write_span.new.sectors (omega (arith, c.write_span.auto.sectors, c.deref_mut.ensures.len))
    ∙ c.write_span.ensures ∙ ap (with_span c.args.place.now.lba c.args.sectors.now) c.deref_mut.ensures.value))
