use Rattle.array_model.proofs.StepLemmas.{write-meets}
use Rattle.array_model.proofs.step.write.Goals as goal

pub returns-in-Ok : goal.returns-in-Ok
returns-in-Ok c = write-meets c.args.plain.now c.write.new.self c.args.name.now c.args.lba c.args.sectors.now c.in-Ok.place c.in-Ok.ensures.ok c.write.ensures
