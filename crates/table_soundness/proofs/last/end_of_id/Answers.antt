use Rattle.table_soundness.proofs.Prelude.{◌+◌, ◌-◌, ◌<◌, ◌≤◌, ◌/◌, slice_index_or, arith, ap, get_or_default, id_of}
use Rattle.table_soundness.proofs.LastLemmas.{ids_rise}
use Rattle.table_soundness.proofs.last.end_of_id.Goals as goal

pub loop-low-preserved-then-id : goal.loop-low-preserved-then-id
loop-low-preserved-then-id g c = record {
  order = omega (arith, c.loop-low-test.true);
  within = c.loop-low.invariant.within;
  below = λ i d l.
      let up : id_of (g.F.Fact.key (slice_index_or c.args.facts.now i d)) ≤ id_of (g.F.Fact.key c.index-facts-middle.result) =
      ids_rise g.F.Fact.key c.args.facts.now i (c.loop-low.low + (c.loop-low.high - c.loop-low.low) / 2) d c.index-facts-middle.result c.requires (omega (arith, l)) (omega (arith, c.loop-low.invariant.within, c.loop-low-test.true)) c.index-facts-middle.is in
      omega (arith, up, c.id.ensures, c.if-id.true);
  above = c.loop-low.invariant.above;
}

pub loop-low-preserved : goal.loop-low-preserved
loop-low-preserved g c = record {
  order = omega arith;
  within = omega (arith, c.loop-low.invariant.within, c.loop-low-test.true);
  below = c.loop-low.invariant.below;
  above = λ i d le l.
      let here : c.args.id < id_of (g.F.Fact.key c.index-facts-middle.result) = omega (arith, c.id.ensures, c.if-id.false) in
      let up : id_of (g.F.Fact.key (slice_index_or c.args.facts.now (c.loop-low.low + (c.loop-low.high - c.loop-low.low) / 2) c.index-facts-middle.result)) ≤ id_of (g.F.Fact.key (slice_index_or c.args.facts.now i d)) =
      ids_rise g.F.Fact.key c.args.facts.now (c.loop-low.low + (c.loop-low.high - c.loop-low.low) / 2) i c.index-facts-middle.result (slice_index_or c.args.facts.now i d) c.requires le l (get_or_default c.args.facts.now i d (slice_index_or c.args.facts.now i d) l) in
      let same = ap (λ f. id_of (g.F.Fact.key f)) c.index-facts-middle.is in
      omega (arith, up, same, here);
}
