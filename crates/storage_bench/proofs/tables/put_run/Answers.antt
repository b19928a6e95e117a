use Rattle.std.proofs.Common.{◌+◌}
use Rattle.storage_bench.specs.Numbers.{AreBelow}
use Rattle.storage_bench.proofs.RunLemmas.{on_any, run_below, run_fresh, run_rising}
use Rattle.storage_bench.proofs.tables.put_run.Goals as goal

pub insert_run-requires-clause-fresh : goal.insert_run-requires-clause-fresh
insert_run-requires-clause-fresh g c = run_fresh c.args.table.now.patches c.args.table.now.unflushed c.args.run.now c.args.first 64 c.requires.below c.requires.numbers

pub insert_run-requires-clause-rising : goal.insert_run-requires-clause-rising
insert_run-requires-clause-rising g c = run_rising c.args.table.now.patches c.args.table.now.unflushed c.args.run.now c.args.first 64 c.requires.below c.requires.numbers

pub returns-in-Ok : goal.returns-in-Ok
returns-in-Ok g c =
    on_any c.elapsed.result (AreBelow (c.args.first + 64) c.insert_run.new.self)
    (rw c.in-Ok.ensures.patches (run_below c.args.table.now.patches c.args.table.now.unflushed c.args.run.now c.args.first 64 c.requires.below c.requires.numbers c.insert_run.new.self.unflushed c.in-Ok.ensures.facts))
