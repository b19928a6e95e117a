use Rattle.world_mem.proofs.Prelude.{◌≡◌, ℕ, ◌<◌, length, disks_of, disk_at, plans_of, plan_at, sound, IsNew}
use Rattle.world_mem.proofs.blank.blanks.Given as goal

abbrev pub invariant-loop : goal.invariant-loop
invariant-loop l = record {
  len : length l.parts.items ≡ l.counter;
  disks : (k : ℕ) → k < l.counter → IsNew l.size (disk_at (disks_of l.parts.items) k);
  plans : (k : ℕ) → plan_at (plans_of l.parts.items) k ≡ sound;
}
