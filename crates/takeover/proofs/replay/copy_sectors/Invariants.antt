use Rattle.takeover.proofs.Prelude.{◌≡◌, ℕ, ◌*◌, ◌<◌, [], length, get_or, bytes_at}
use Rattle.takeover.proofs.replay.copy_sectors.Given as goal

abbrev pub invariant-loop-i : goal.invariant-loop-i
invariant-loop-i l = record {
  size : length l.into ≡ length l.initial.into;
  copied : (k : ℕ) → k < l.i → get_or l.into k [] ≡ bytes_at (512 * k) 512 l.bytes;
}
