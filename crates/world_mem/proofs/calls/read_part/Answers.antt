use Rattle.world_mem.proofs.Prelude.{rules, refl, Read}
use Rattle.world_mem.proofs.Ends.{failed_call, starved_call, recorded_call}
use Rattle.world_mem.proofs.calls.read_part.Goals as goal

pub returns-then-is_failing-clause-called : goal.returns-then-is_failing-clause-called
returns-then-is_failing-clause-called c = failed_call c.args.part.now c.is_failing.new.self c.fail_read.new.part c.is_failing.ensures.same c.is_failing.ensures.plan (search rules) c.fail_read.ensures.failed

pub returns-then-not-record-clause-called : goal.returns-then-not-record-clause-called
returns-then-not-record-clause-called c = starved_call c.args.part.now c.is_failing.new.self c.count_read.new.self c.is_failing.ensures.same c.is_failing.ensures.plan (search rules) (search rules) c.count_read.ensures.plan c.count_read.ensures.same

pub returns-clause-called : goal.returns-clause-called
returns-clause-called c = recorded_call c.args.part.now c.is_failing.new.self c.is_failing.new.self c.is_failing.ensures.same c.is_failing.ensures.plan Read (search rules) (search rules) (search rules) refl refl refl
