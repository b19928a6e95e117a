use Rattle.std.proofs.Common.{refl, arith}
use Rattle.std.proofs.lemmas.Bool.Decides.{nat_tests}
use Rattle.segment_tests.proofs.Few.{one_placed}
use Rattle.segment_tests.proofs.data.write_one.Goals as goal

pub write_segments-requires : goal.write_segments-requires
write_segments-requires g c =
    one_placed (g.S.Shelf.shelf c.args.shelf.now) _ c.args.staged.now c.args.order.now (c.if-not-are_places.ensures.0 refl) (grind (arith, nat_tests, c.if-is_empty.ensures)) (omega arith) refl (c.if-not-are_indices.ensures.0 refl)
