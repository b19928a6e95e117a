use Rattle.segment_io.proofs.Prelude.{◌+◌, length, shard_of, shards_in, IsRunOf}
use Rattle.segment_io.proofs.Progress.{Progress}
use Rattle.segment_io.proofs.appending.write_run.Given as goal

abbrev pub invariant-loop-shard : goal.invariant-loop-shard
invariant-loop-shard g l =
    let a = g.S.Shelf.shelf l.initial.shelf in
    let b = g.S.Shelf.shelf l.shelf in
    record {
      progress : Progress a b l.places (l.number + 1) (length l.stripes) l.initial.lost.drives l.lost.drives (λ shard bytes. IsRunOf (λ number. shard_of (shards_in l.stripes l.p l.q number) shard) (length l.stripes) bytes) l.shard;
      rest : g.S.Shelf.shelf_rest l.initial.shelf l.shelf;
    }
