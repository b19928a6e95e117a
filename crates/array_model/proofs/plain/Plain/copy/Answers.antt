use Rattle.array_model.proofs.Prelude.{take, refl, sym, ap, ◌∙◌, arith, with_items_is, take_rest, span, with_span, array_of, sectors_at, with_sectors_at}
use Rattle.array_model.proofs.PlaceLemmas.{value-sectors, written-at, given-length, others-sectors, copied-past}
use Rattle.array_model.proofs.plain.Plain.copy.Goals as goal

pub copy_span-requires-clause-from : goal.copy_span-requires-clause-from
copy_span-requires-clause-from c =
    let is = value-sectors c.self.inside.objects.entries c.args.to.now.object c.index_mut-object.result.now c.index_mut-object.ensures.value in
    let room = rw (← c.self.view_is, c.if-from-to.true) at c.requires.from.sectors in
    rw (c.deref_mut.ensures.value, ← is) room

pub copy_span-requires-clause-to : goal.copy_span-requires-clause-to
copy_span-requires-clause-to c =
    let is = value-sectors c.self.inside.objects.entries c.args.to.now.object c.index_mut-object.result.now c.index_mut-object.ensures.value in
    let room = rw (← c.self.view_is) at c.requires.to.sectors in
    rw (c.deref_mut.ensures.value, ← is, c.requires.all) room

pub returns-then-from-to : goal.returns-then-from-to
returns-then-from-to c =
    let is = value-sectors c.self.inside.objects.entries c.args.to.now.object c.index_mut-object.result.now c.index_mut-object.ensures.value in
    rw (← c.self.view_is, c.if-from-to.true) (written-at c.self.inside.objects.entries c.args.to.now.object c.index_mut-object.result.now _ c.args.to.now.lba
    (span c.args.from.now.lba c.args.from.now.count (sectors_at (array_of c.self.inside.objects.entries) c.args.to.now.object)) c.index_mut-object.ensures.value refl
    (with_items_is c.index_mut-object.result.now.sectors c.copy_span.new.sectors (omega (arith, c.copy_span.auto.sectors, c.deref_mut.ensures.len))
    ∙ c.copy_span.ensures
    ∙ ap (λ s. with_span c.args.to.now.lba (span c.args.from.now.lba c.args.from.now.count s) s) c.deref_mut.ensures.value
    ∙ ap (λ s. with_span c.args.to.now.lba (span c.args.from.now.lba c.args.from.now.count s) c.index_mut-object.result.now.sectors.items) (sym is)))

pub write-requires-clause-there : goal.write-requires-clause-there
write-requires-clause-there c =
    rw c.exchange-sectors.ensures.after record {
      object = rw (given-length c.args.self.now c.args.from.now.object c.new.result.items) c.requires.to.object;
      sectors = rw (others-sectors c.args.self.now c.args.from.now.object c.args.to.now.object c.new.result.items c.if-from-to.false) c.requires.to.sectors;
    }

pub exchange-requires : goal.exchange-requires
exchange-requires c =
    rw (c.write.ensures, given-length c.exchange-sectors.new.self c.args.to.now.object _, c.exchange-sectors.ensures.after, given-length c.args.self.now c.args.from.now.object c.new.result.items) c.requires.from.object

pub returns : goal.returns
returns c =
    let body = ap (take c.args.from.now.count) (take_rest c.as_slice.result.now c.args.from.now.lba) ∙ ap (span c.args.from.now.lba c.args.from.now.count) c.as_slice.ensures.value in
    c.exchange-2.ensures.after
    ∙ copied-past c.args.self.now c.exchange-sectors.new.self c.write.new.self c.args.from.now.object c.args.to.now.object c.args.to.now.lba c.args.from.now.lba c.args.from.now.count c.new.result.items c.exchange-sectors.result.items
    c.if-from-to.false c.exchange-sectors.ensures.after c.exchange-sectors.ensures.before
    (c.write.ensures ∙ ap (λ s. with_sectors_at c.exchange-sectors.new.self c.args.to.now.object (with_span c.args.to.now.lba s (sectors_at c.exchange-sectors.new.self c.args.to.now.object))) body)
