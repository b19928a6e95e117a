use Rattle.segment_io.proofs.Prelude.{is_unknown, Rebuilds, AreRebuilt}
use Rattle.segment_io.proofs.rebuilding.rebuild_stripes.Given as goal

abbrev pub invariant-loop-stripe : goal.invariant-loop-stripe
invariant-loop-stripe g l =
    let a = g.S.Shelf.shelf l.initial.shelf in
    let b = g.S.Shelf.shelf l.shelf in
    record {
      run : Rebuilds a b l.places l.shard 1 l.stripes (is_unknown l.initial.unknown) l.unknown;
      done : a.honest → AreRebuilt a b l.places l.shard (is_unknown l.initial.unknown) l.stripe;
      rest : g.S.Shelf.shelf_rest l.initial.shelf l.shelf;
    }
