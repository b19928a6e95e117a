use Rattle.std.proofs.Common.{refl, arith}
use Rattle.patch_io.proofs.Parts.{lawful_places}
use Rattle.segment_tests.proofs.patches.segment_on.Goals as goal

pub returns : goal.returns
returns g c =
    let are = c.if-not-are_places.ensures.0 refl in
    record { id = omega arith; nine = are.nine; places = lawful_places (g.S.Shelf.shelf c.args.shelf.now) c.args.places are }
