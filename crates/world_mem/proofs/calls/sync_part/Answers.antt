use Rattle.world_mem.proofs.Prelude.{rules, refl, Sync}
use Rattle.world_mem.proofs.Ends.{failed_call, starved_call, recorded_call}
use Rattle.world_mem.proofs.calls.sync_part.Goals as goal

pub returns-then-is_failing-clause-called : goal.returns-then-is_failing-clause-called
returns-then-is_failing-clause-called c = failed_call c.args.part.now c.is_failing.new.self c.fail_sync.new.part c.is_failing.ensures.same c.is_failing.ensures.plan (search rules) c.fail_sync.ensures.failed

pub returns-then-is_err-clause-called : goal.returns-then-is_err-clause-called
returns-then-is_err-clause-called c = starved_call c.args.part.now c.is_failing.new.self c.count_write.new.self c.is_failing.ensures.same c.is_failing.ensures.plan refl (search rules) c.count_write.ensures.plan c.count_write.ensures.same

pub returns-clause-called : goal.returns-clause-called
returns-clause-called c = recorded_call c.args.part.now c.is_failing.new.self _ c.is_failing.ensures.same c.is_failing.ensures.plan (Sync c.replace-dirty.result) refl (search rules) (search rules) refl refl (search rules)
