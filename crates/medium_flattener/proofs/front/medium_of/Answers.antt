use Rattle.std.proofs.Common.{refl}
use Rattle.command_spec.proofs.KeptLemmas.{visible_said}
use Rattle.medium_flattener.proofs.front.medium_of.Goals as goal

pub returns-clause-of_name : goal.returns-clause-of_name
returns-clause-of_name c = record {
  object = c.in-Some.object;
  there = visible_said c.args.memory.now c.kept.ensures c.in-Some.object c.in-Some.ensures.some.0;
  named = c.in-Some.ensures.some.1;
  its = refl;
}
