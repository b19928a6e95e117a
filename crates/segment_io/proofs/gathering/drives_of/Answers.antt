use Rattle.segment_io.proofs.Prelude.{◌≢◌, ◌<◌, inl, inr, length, sym, ◌∙◌, arith, below_more, length-set, cases_eq, place_of, is_unknown, set_here, set_other}
use Rattle.segment_io.proofs.gathering.drives_of.Goals as goal

pub loop-shard-preserved : goal.loop-shard-preserved
loop-shard-preserved c =
    let inv = c.loop-shard.invariant in
    let shard = c.loop-shard.shard in
    let places = c.args.places.now in
    let drives = c.loop-shard.drives in
    let slot = (place_of places shard).slot in
    let flag = is_unknown c.args.unknown.now shard in
    let within : slot < length drives = omega (arith, c.requires.within shard c.loop-shard-test.true, inv.size) in
    record {
      size = length-set drives slot flag ∙ inv.size;
      each = below_more _ shard
          (λ k lt. let less = c.requires.ascending k shard lt c.loop-shard-test.true in let ne : (place_of places k).slot ≢ slot = omega (arith, less) in set_other drives slot (place_of places k).slot flag ne ∙ inv.each k lt)
          (set_here drives slot flag within);
      no_other = λ i is. elim (cases_eq i slot) [
        | inl e ↦ (shard, omega arith, e)
        | inr ne ↦ let h = inv.no_other i (sym (set_other drives slot i flag ne) ∙ is) in (h.0, omega (arith, h.1), h.2)
      ];
    }
