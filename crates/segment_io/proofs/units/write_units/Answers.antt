use Rattle.segment_io.proofs.Prelude.{false, length, arith, refl, sym, ◌∙◌, get_or-set_same, drive, ran_write, write_unit_at, loses_one}
use Rattle.segment_io.proofs.Writing.{was_written}
use Rattle.segment_io.proofs.units.write_units.Goals as goal

pub returns-clause-lost : goal.returns-clause-lost
returns-clause-lost g c =
    loses_one _ _ c.args.lost.now.drives c.args.place.slot c.write-answer.result c.is_err.result (omega (arith, (g.met.S.Shelf.is_shelf c.args.shelf.now).drives.1)) c.if-lost-slot.false c.is_err.ensures.value c.write-answer.ensures.others c.write-answer.ensures.counts

pub returns-clause-written : goal.returns-clause-written
returns-clause-written g c h is =
    was_written c.write-answer.result _ (write_unit_at c.args.place c.args.n) (length c.args.from.now) c.args.from.now _ _ refl (c.write-answer.ensures.device h)
    (sym c.is_err.ensures.value ∙ sym (get_or-set_same c.args.lost.now.drives c.args.place.slot c.is_err.result false (omega (arith, (g.met.S.Shelf.is_shelf c.args.shelf.now).drives.1))) ∙ is)

pub returns-clause-ran : goal.returns-clause-ran
returns-clause-ran g c =
    let x = c.write-answer.ensures in
    ran_write (drive c.args.place.slot) refl (g.met.S.Shelf.is_shelf c.args.shelf.now) x.time x.others x.rest x.device (λ i is. (refl, is))
