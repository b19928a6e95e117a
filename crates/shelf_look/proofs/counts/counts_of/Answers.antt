use Rattle.shelf_look.proofs.Prelude.{List, ap, length, SegmentFact}
use Rattle.shelf_look.proofs.Counting.{seen_as}
use Rattle.shelf_look.proofs.counts.counts_of.Goals as goal

pub returns : goal.returns
returns c =
    let elisions = c.counted-elisions.ensures in (
      seen_as c.counted.ensures c.len.ensures.len,
      seen_as c.counted-2.ensures c.len-2.ensures,
      seen_as c.counted-3.ensures c.len-3.ensures,
      seen_as c.counted-4.ensures (ap (λ (l : List SegmentFact). length l) c.segments.ensures.segments),
      record { patches = elisions.patches; segments = elisions.segments; facts = elisions.facts; visible = elisions.facts },
    )
