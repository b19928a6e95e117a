use Rattle.unit_map.proofs.Prelude.{◌≡◌, length, IsChoice}
use Rattle.unit_map.proofs.choice.most_free.Given as goal

abbrev pub invariant-loop-shard : goal.invariant-loop-shard
invariant-loop-shard l = record {
  size : length l.chosen ≡ 24;
  choice : IsChoice l.drives l.chosen l._shard;
}
