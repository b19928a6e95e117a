use Rattle.std.proofs.Common.{arith}
use Rattle.std.proofs.lemmas.List.Elements.{All-more}
use Rattle.std.proofs.lemmas.Grind.{common_steps}
use Rattle.pur_base.specs.Places.{FitsBytes}
use Rattle.pur_base.proofs.front.Front.put_places.Goals as goal

pub loop-place-preserved : goal.loop-place-preserved
loop-place-preserved g c = record {
  bytes = grind (arith, common_steps);
  fits = All-more FitsBytes c.args.places.now c.loop-place.place-index _ (omega arith) c.loop-place.invariant.fits c.put_place.ensures.fits;
  len = omega arith;
}
