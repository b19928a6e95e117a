use Rattle.array_model.proofs.StepLemmas.{copy-meets}
use Rattle.array_model.proofs.step.copy.Goals as goal

pub returns-in-Ok : goal.returns-in-Ok
returns-in-Ok c = copy-meets c.args.plain.now c.copy.new.self c.args.name.now c.args.to.now c.args.lba c.args.to_lba c.args.count c.in-Ok.from c.in-Ok.place c.in-Ok.ensures.ok c.copy.ensures
