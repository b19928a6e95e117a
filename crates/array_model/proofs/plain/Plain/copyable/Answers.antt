use Rattle.array_model.proofs.PlaceLemmas.{snapshot-copy, range-copy, range-over, fine-copy, place-is}
use Rattle.array_model.proofs.Prelude.{sym, ◌∙◌}
use Rattle.array_model.proofs.plain.Plain.copyable.Goals as goal

pub returns-then-is_snapshot_at-clause-err : goal.returns-then-is_snapshot_at-clause-err
returns-then-is_snapshot_at-clause-err c =
    snapshot-copy c.args.self.now c.args.name.now c.args.to.now c.args.lba c.args.to_lba c.args.count c.in-Some.object c.in-Some-place_of.target c.in-Some.ensures.some.1 c.in-Some-place_of.ensures.some.1
    (sym c.is_snapshot_at.ensures ∙ c.if-is_snapshot_at.true)

pub returns-in_default-span_at-clause-err : goal.returns-in_default-span_at-clause-err
returns-in_default-span_at-clause-err c =
    range-copy c.args.self.now c.args.name.now c.args.to.now c.args.lba c.args.to_lba c.args.count c.in-Some.object c.in-Some-place_of.target c.in-Some.ensures.some.1 c.in-Some-place_of.ensures.some.1
    (sym c.is_snapshot_at.ensures ∙ c.if-is_snapshot_at.false) c.in_default-span_at.ensures.none

pub returns-in-Some-span_at-2-clause-ok : goal.returns-in-Some-span_at-2-clause-ok
returns-in-Some-span_at-2-clause-ok c =
    let there = c.in-Some.ensures.some in
    let over = c.in-Some-place_of.ensures.some in
    let from = c.in-Some-span_at.ensures.some in
    let place = c.in-Some-span_at-2.ensures.some in (
      fine-copy c.args.self.now c.args.name.now c.args.to.now c.args.lba c.args.to_lba c.args.count c.in-Some.object c.in-Some-place_of.target there.1 over.1 (sym c.is_snapshot_at.ensures ∙ c.if-is_snapshot_at.false) from.0 place.0,
      place-is c.args.self.now c.args.name.now c.args.lba c.args.count c.in-Some.object _ there from.0 from.1,
      place-is c.args.self.now c.args.to.now c.args.to_lba c.args.count c.in-Some-place_of.target _ over place.0 place.1,
    )

pub returns-in-None-clause-err : goal.returns-in-None-clause-err
returns-in-None-clause-err c =
    range-over c.args.self.now c.args.name.now c.args.to.now c.args.lba c.args.to_lba c.args.count c.in-Some.object c.in-Some-place_of.target c.in-Some.ensures.some.1 c.in-Some-place_of.ensures.some.1
    (sym c.is_snapshot_at.ensures ∙ c.if-is_snapshot_at.false) c.in-Some-span_at.ensures.some.0 c.in-None.ensures.none
