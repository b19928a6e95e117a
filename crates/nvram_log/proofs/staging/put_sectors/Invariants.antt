use Rattle.nvram_log.proofs.Prelude.{◌≡◌, ℕ, ◌*◌, ◌<◌, ◌++◌, [], length, take, drop, slice_index_or, concat, IsBytesOf, SECTOR_BYTES}
use Rattle.nvram_log.proofs.staging.put_sectors.Given as goal

abbrev pub invariant-loop-i : goal.invariant-loop-i
invariant-loop-i l = record {
  copied : l.into ≡ concat (take l.i l.sectors) ++ drop (512 * l.i) l.initial.into;
  size : length (concat (take l.i l.sectors)) ≡ 512 * l.i;
  each : (k : ℕ) → k < l.i → IsBytesOf SECTOR_BYTES (slice_index_or l.sectors k []);
}
