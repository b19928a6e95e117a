use Rattle.array_model.proofs.PlaceLemmas.{range-read, fine-read, place-is}
use Rattle.array_model.proofs.plain.Plain.readable.Goals as goal

pub returns-in-Some-span_at-clause-ok : goal.returns-in-Some-span_at-clause-ok
returns-in-Some-span_at-clause-ok c =
    let there = c.in-Some.ensures.some in
    let span = c.in-Some-span_at.ensures.some in (
      fine-read c.args.self.now c.args.name.now c.args.lba c.args.count c.in-Some.object there.1 span.0,
      place-is c.args.self.now c.args.name.now c.args.lba c.args.count c.in-Some.object _ there span.0 span.1,
    )

pub returns-in-None-clause-err : goal.returns-in-None-clause-err
returns-in-None-clause-err c =
    range-read c.args.self.now c.args.name.now c.args.lba c.args.count c.in-Some.object c.in-Some.ensures.some.1 c.in-None.ensures.none
