use Rattle.array_memory.proofs.Prelude.{◌≡◌, ◌+◌, ap, add-one, arith, Target, fact}
use Rattle.command_spec.specs.Prelude.{target_of}
use Rattle.command_spec.proofs.RunLemmas.{run_next}
use Rattle.array_memory.proofs.runs.write_run.Goals as goal

pub loop-i-preserved : goal.loop-i-preserved
loop-i-preserved c =
    let i = c.loop-i.i in
    let is : fact c.args.medium.0 (c.args.first + i) c.target_of.result (c.args.number + i) ≡ fact c.args.medium.0 (c.args.first + i) (target_of c.args.staged i) (c.args.number + i) =
    ap (λ (t : Target). fact c.args.medium.0 (c.args.first + i) t (c.args.number + i)) c.target_of.ensures in
    rw add-one (run_next c.args.staged c.args.medium.0 c.args.first c.args.number i c.loop-i.run (fact c.args.medium.0 (c.args.first + i) c.target_of.result (c.args.number + i)) (omega arith) is c.loop-i.invariant)
