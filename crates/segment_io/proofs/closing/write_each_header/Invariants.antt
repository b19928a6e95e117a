use Rattle.segment_io.proofs.Prelude.{◌≡◌, header_unit}
use Rattle.segment_io.proofs.Progress.{Progress}
use Rattle.segment_io.proofs.closing.write_each_header.Given as goal

abbrev pub invariant-loop-shard : goal.invariant-loop-shard
invariant-loop-shard g l =
    let a = g.S.Shelf.shelf l.initial.shelf in
    let b = g.S.Shelf.shelf l.shelf in
    record {
      progress : Progress a b l.places 0 1 l.initial.lost.drives l.lost.drives (λ k bytes. bytes ≡ header_unit l.header k) l.shard;
      rest : g.S.Shelf.shelf_rest l.initial.shelf l.shelf;
    }
