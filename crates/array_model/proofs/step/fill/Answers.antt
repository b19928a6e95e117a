use Rattle.array_model.proofs.StepLemmas.{fill-meets}
use Rattle.array_model.proofs.step.fill.Goals as goal

pub returns-in-Ok : goal.returns-in-Ok
returns-in-Ok c = fill-meets c.args.plain.now c.fill.new.self c.args.name.now c.args.lba c.args.count c.args.byte c.in-Ok.place c.in-Ok.ensures.ok c.fill.ensures
