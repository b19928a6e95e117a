use Rattle.segment_io.proofs.Prelude.{◌<◌, ⊎_elim, true, length, ◌∙◌, arith, below_more, length-set, place_of, set_here, still_in, was_in}
use Rattle.segment_io.proofs.open.Open.drives.Goals as goal

pub loop-shard-preserved : goal.loop-shard-preserved
loop-shard-preserved c =
    let inv = c.loop-shard.invariant in
    let shard = c.loop-shard.shard in
    let places = c.args.self.now.places in
    let drives = c.loop-shard.drives in
    let slot = (place_of places shard).slot in
    let within : slot < length drives = omega (arith, c.requires shard c.loop-shard-test.true, inv.size) in
    record {
      size = length-set drives slot true ∙ inv.size;
      each = below_more _ shard (λ k lt. still_in drives slot (place_of places k).slot within (inv.each k lt)) (set_here drives slot true within);
      no_other = λ i is. ⊎_elim (λ e. (shard, omega arith, e)) (λ was. let h = inv.no_other i was in (h.0, omega (arith, h.1), h.2)) (was_in drives slot i is);
    }
