use Rattle.std.proofs.Common.{refl, arith}
use Rattle.segment_tests.proofs.Few.{two_placed}
use Rattle.segment_tests.proofs.data.write_two.Goals as goal

pub write_segments-requires : goal.write_segments-requires
write_segments-requires g c =
    two_placed (g.S.Shelf.shelf c.args.shelf.now) _ _ 7 c.args.staged.now c.args.order.now (c.if-not-are_places.ensures.0 refl) (c.if-not-are_places-2.ensures.0 refl) (c.if-not-lack_unit.ensures.0 refl) (c.if-not-have_unit.ensures.0 refl)
    (omega arith) (omega arith) refl refl (c.if-not-are_indices.ensures.0 refl)
