use Rattle.medium_flattener.proofs.Fronts.{nothing_taken}
use Rattle.medium_flattener.proofs.taking.take.Goals as goal

pub returns-in-None-clause-taken : goal.returns-in-None-clause-taken
returns-in-None-clause-taken c = nothing_taken c.requires.is_of.0 c.args.array.now c.requires.is_of.1
