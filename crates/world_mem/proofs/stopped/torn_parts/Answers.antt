use Rattle.world_mem.proofs.Prelude.{◌≡◌, ◌<◌, ◌+◌, ℕ, List, sym, subst, rules, Disk, Part, disk_of, disks_of, disk_at, plans_of, plan_at, sound, IsTorn}
use Rattle.world_mem.proofs.Bank.{before}
use Rattle.world_mem.proofs.Pushed.{disk_more, one_plan_more}
use Rattle.world_mem.proofs.stopped.torn_parts.Goals as goal

pub loop-part-preserved : goal.loop-part-preserved
loop-part-preserved g c =
    let inv = c.loop-part.invariant in
    let parts = c.args.parts.now in
    let all = c.loop-part.all.items in
    let n = c.loop-part.part-index in
    let torn = c.in_ok-torn_part in
    let more = c.in_ok-push.ensures.items in
    let part = before parts n c.part-item.result torn.field-0 c.loop-part-test.true c.part-item.is in
    record {
      len = search rules;
      disks = subst (λ (l : List Part). (k : ℕ) → k < n + 1 → IsTorn (disk_at (disks_of parts) k) (disk_at (disks_of l) k)) (sym more)
          (disk_more (λ k d. IsTorn (disk_at (disks_of parts) k) d) all torn.field-0 n inv.len inv.disks (subst (λ (d : Disk). IsTorn d (disk_of torn.field-0)) (sym part) torn.ensures.disk));
      plans = subst (λ (l : List Part). (k : ℕ) → plan_at (plans_of l) k ≡ sound) (sym more) (one_plan_more all torn.field-0 inv.plans torn.ensures.plan);
    }
