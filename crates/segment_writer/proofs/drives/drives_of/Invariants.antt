use Rattle.segment_writer.proofs.Prelude.{◌≡◌, ℕ, ◌<◌, true, is_in, place_of, units_of}
use Rattle.segment_writer.proofs.drives.drives_of.Given as goal

abbrev pub invariant-loop-number : goal.invariant-loop-number
invariant-loop-number g l =
    let y = g.N.Headed.layout l.new in
    record {
      each : (number shard : ℕ) → number < l.number → shard < 9 → is_in l.drives (place_of (units_of y number) shard).slot ≡ true;
      no_other : (slot : ℕ) → is_in l.drives slot ≡ true → (number shard : ℕ) × (number < y.count) × (shard < 9) × (slot ≡ (place_of (units_of y number) shard).slot);
    }
