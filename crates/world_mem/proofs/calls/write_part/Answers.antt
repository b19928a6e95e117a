use Rattle.world_mem.proofs.Prelude.{◌∙◌, rules, refl}
use Rattle.world_mem.proofs.Ends.{failed_call, starved_call}
use Rattle.world_mem.proofs.calls.write_part.Goals as goal

pub returns-then-is_failing-clause-called : goal.returns-then-is_failing-clause-called
returns-then-is_failing-clause-called c = failed_call c.args.part.now c.is_failing.new.self c.fail_write.new.part c.is_failing.ensures.same c.is_failing.ensures.plan (search rules) c.fail_write.ensures.failed

pub returns-then-is_err-clause-called : goal.returns-then-is_err-clause-called
returns-then-is_err-clause-called c = starved_call c.args.part.now c.is_failing.new.self c.count_write.new.self c.is_failing.ensures.same c.is_failing.ensures.plan refl (search rules) c.count_write.ensures.plan c.count_write.ensures.same

pub returns-in-Err-clause-called : goal.returns-in-Err-clause-called
returns-in-Err-clause-called c =
    let same = c.in-Err.ensures.err ∙ c.is_failing.ensures.same in
    let plan = c.put.ensures.plan ∙ c.is_failing.ensures.plan in
    starved_call c.args.part.now c.put.new.self c.count_write-in-Err.new.self same plan refl (search rules) c.count_write-in-Err.ensures.plan c.count_write-in-Err.ensures.same
