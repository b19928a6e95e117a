use Rattle.medium_flattener.proofs.Fronts.{lowest_of}
use Rattle.medium_flattener.proofs.taking.take_front.Goals as goal

pub flatten-requires-clause-lowest : goal.flatten-requires-clause-lowest
flatten-requires-clause-lowest c = lowest_of c.args.array.now.memory.memory c.requires.front.0 c.args.front.now c.requires.is_of.1.sound c.requires.front.1
