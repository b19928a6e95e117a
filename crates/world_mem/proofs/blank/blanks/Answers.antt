use Rattle.world_mem.proofs.Prelude.{◌≡◌, ◌<◌, ◌+◌, ℕ, [], ◌∷◌, ◌++◌, List, sym, subst, rules, Part, disks_of, disk_at, plans_of, plan_at, sound, IsNew}
use Rattle.world_mem.proofs.Pushed.{disk_more, one_plan_more}
use Rattle.world_mem.proofs.blank.blanks.Goals as goal

pub loop-preserved : goal.loop-preserved
loop-preserved c =
    let inv = c.loop.invariant in
    let before = c.loop.parts.items in
    let p = c.in_ok-blank.field-0 in
    let more : c.push.new.self.items ≡ before ++ p ∷ [] = search rules in
    record {
      len = search rules;
      disks = subst (λ (l : List Part). (k : ℕ) → k < c.loop.counter + 1 → IsNew c.args.size (disk_at (disks_of l) k)) (sym more)
          (disk_more (λ k d. IsNew c.args.size d) before p c.loop.counter inv.len inv.disks c.in_ok-blank.ensures.disk);
      plans = subst (λ (l : List Part). (k : ℕ) → plan_at (plans_of l) k ≡ sound) (sym more) (one_plan_more before p inv.plans c.in_ok-blank.ensures.plan);
    }
