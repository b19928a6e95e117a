use Rattle.memory_spec.proofs.ExampleValues.{two_volumes_read}
use Rattle.memory_spec.proofs.small_example.Goals as goal

pub returns : goal.returns
returns c = two_volumes_read
