use Rattle.elision.proofs.Prelude.{◌+◌, ◌-◌, ◌≤◌, ◌/◌, slice_index_or, arith}
use Rattle.elision.proofs.SearchLemmas.{starts_rise}
use Rattle.elision.proofs.search.ranges_begun.Goals as goal

pub loop-low-preserved-then-ranges-middle : goal.loop-low-preserved-then-ranges-middle
loop-low-preserved-then-ranges-middle c = record {
  order = omega (arith, c.loop-low-test.true);
  within = c.loop-low.invariant.within;
  begun = λ i d l.
      let up : (slice_index_or c.args.ranges.now i d).0 ≤ (slice_index_or c.args.ranges.now (c.loop-low.low + (c.loop-low.high - c.loop-low.low) / 2) (0, 0)).0 =
      starts_rise c.args.ranges.now i (c.loop-low.low + (c.loop-low.high - c.loop-low.low) / 2) d (0, 0) c.requires (omega (arith, l)) (omega (arith, c.loop-low.invariant.within, c.loop-low-test.true)) in
      omega (arith, up, c.if-ranges-middle.true);
  later = c.loop-low.invariant.later;
}

pub loop-low-preserved : goal.loop-low-preserved
loop-low-preserved c = record {
  order = omega arith;
  within = omega (arith, c.loop-low.invariant.within, c.loop-low-test.true);
  begun = c.loop-low.invariant.begun;
  later = λ i d le l.
      let up : (slice_index_or c.args.ranges.now (c.loop-low.low + (c.loop-low.high - c.loop-low.low) / 2) (0, 0)).0 ≤ (slice_index_or c.args.ranges.now i d).0 =
      starts_rise c.args.ranges.now (c.loop-low.low + (c.loop-low.high - c.loop-low.low) / 2) i (0, 0) d c.requires le l in
      omega (arith, up, c.if-ranges-middle.false);
}
