use Rattle.segment_writer.proofs.Prelude.{◌<◌, inl, inr, true, length, ◌∙◌, arith, below_more, length-set, place_of, set_here, still_in, was_in}
use Rattle.segment_writer.proofs.drives.mark_segment.Goals as goal

pub loop-shard-preserved : goal.loop-shard-preserved
loop-shard-preserved c =
    let inv = c.loop-shard.invariant in
    let shard = c.loop-shard.shard in
    let places = c.args.places.now in
    let drives = c.loop-shard.drives in
    let slot = (place_of places shard).slot in
    let within : slot < length drives = omega (arith, c.requires shard c.loop-shard-test.true, inv.size) in
    record {
      size = length-set drives slot true ∙ inv.size;
      each = below_more _ shard (λ k lt. still_in drives slot (place_of places k).slot within (inv.each k lt)) (set_here drives slot true within);
      stays = λ i is. still_in drives slot i within (inv.stays i is);
      no_other = λ i is. elim (was_in drives slot i is) [
        | inl e ↦ inr (shard, omega arith, e)
        | inr was ↦ elim (inv.no_other i was) [
          | inl old ↦ inl old
          | inr h ↦ inr (h.0, omega (arith, h.1), h.2)
        ]
      ];
    }
