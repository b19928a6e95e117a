use Rattle.segment_io.proofs.Prelude.{◌≡◌, length, SEGMENT_SHARDS}
use Rattle.segment_io.proofs.Gathers.{Gathers}
use Rattle.segment_io.proofs.gathering.gather.Given as goal

abbrev pub invariant-loop-shard : goal.invariant-loop-shard
invariant-loop-shard g l = record {
  gathers : Gathers (g.S.Shelf.shelf l.initial.shelf) (g.S.Shelf.shelf l.shelf) l.places l.stripe l.initial.unknown l.unknown l.shards l.shard;
  flags : length l.unknown ≡ SEGMENT_SHARDS;
  nine : length l.shards ≡ SEGMENT_SHARDS;
  rest : g.S.Shelf.shelf_rest l.initial.shelf l.shelf;
}
