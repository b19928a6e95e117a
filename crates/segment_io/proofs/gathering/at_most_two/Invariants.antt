use Rattle.segment_io.proofs.Numbers.{Numbers}
use Rattle.segment_io.proofs.gathering.at_most_two.Given as goal

abbrev pub invariant-loop-shard : goal.invariant-loop-shard
invariant-loop-shard l = Numbers l.unknown l.numbers.items l.shard
