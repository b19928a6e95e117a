use Rattle.segment_writer.proofs.Prelude.{◌≡◌, ℕ, ◌<◌, ◌≤◌, ◌||◌, is_in}
use Rattle.segment_writer.proofs.checkpoint_drives.join.Given as goal

abbrev pub invariant-loop-slot : goal.invariant-loop-slot
invariant-loop-slot l = record {
  passed : (k : ℕ) → k < l.slot → is_in l.drives k ≡ (is_in l.fn.drives k || is_in l.more k);
  ahead : (k : ℕ) → l.slot ≤ k → is_in l.drives k ≡ is_in l.fn.drives k;
}
