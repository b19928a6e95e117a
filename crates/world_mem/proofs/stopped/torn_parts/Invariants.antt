use Rattle.world_mem.proofs.Prelude.{◌≡◌, ℕ, ◌<◌, length, disks_of, disk_at, plans_of, plan_at, sound, IsTorn}
use Rattle.world_mem.proofs.stopped.torn_parts.Given as goal

abbrev pub invariant-loop-part : goal.invariant-loop-part
invariant-loop-part g l = record {
  len : length l.all.items ≡ l.part-index;
  disks : (k : ℕ) → k < l.part-index → IsTorn (disk_at (disks_of l.parts) k) (disk_at (disks_of l.all.items) k);
  plans : (k : ℕ) → plan_at (plans_of l.all.items) k ≡ sound;
}
