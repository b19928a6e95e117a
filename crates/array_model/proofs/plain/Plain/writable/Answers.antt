use Rattle.array_model.proofs.PlaceLemmas.{snapshot-overwrite, range-overwrite, fine-overwrite, place-is}
use Rattle.array_model.proofs.Prelude.{sym, ◌∙◌}
use Rattle.array_model.proofs.plain.Plain.writable.Goals as goal

pub returns-then-is_snapshot_at-clause-err : goal.returns-then-is_snapshot_at-clause-err
returns-then-is_snapshot_at-clause-err c =
    snapshot-overwrite c.args.self.now c.args.name.now c.args.lba c.args.count c.in-Some.object c.in-Some.ensures.some.1 (sym c.is_snapshot_at.ensures ∙ c.if-is_snapshot_at.true)

pub returns-in-Some-span_at-clause-ok : goal.returns-in-Some-span_at-clause-ok
returns-in-Some-span_at-clause-ok c =
    let there = c.in-Some.ensures.some in
    let span = c.in-Some-span_at.ensures.some in (
      fine-overwrite c.args.self.now c.args.name.now c.args.lba c.args.count c.in-Some.object there.1 (sym c.is_snapshot_at.ensures ∙ c.if-is_snapshot_at.false) span.0,
      place-is c.args.self.now c.args.name.now c.args.lba c.args.count c.in-Some.object _ there span.0 span.1,
    )

pub returns-in-None-clause-err : goal.returns-in-None-clause-err
returns-in-None-clause-err c =
    range-overwrite c.args.self.now c.args.name.now c.args.lba c.args.count c.in-Some.object c.in-Some.ensures.some.1 (sym c.is_snapshot_at.ensures ∙ c.if-is_snapshot_at.false) c.in-None.ensures.none
