use Rattle.fact_codec.proofs.Prelude.{arith, ap, length, length-append, recursion_from_All, places_bytes, FitsBytes, length-places_bytes}
use Rattle.fact_codec.proofs.writing.put_segment.Goals as goal

pub returns-clause-fits : goal.returns-clause-fits
returns-clause-fits c =
    let places = c.args.segment.now.places in (
      omega (arith, ap length c.put_places.ensures.bytes, length-append c.args.front.now (places_bytes places), length-places_bytes places),
      recursion_from_All FitsBytes places c.put_places.ensures.fits,
    )
