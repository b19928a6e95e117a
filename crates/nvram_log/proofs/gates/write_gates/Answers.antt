use Rattle.nvram_log.proofs.Prelude.{◌≡◌, take, replicate, arith, take-replicate}
use Rattle.nvram_log.proofs.gates.write_gates.Goals as goal

pub returns-clause-outcome : goal.returns-clause-outcome
returns-clause-outcome g c n lt =
    let e : take c.args.count (replicate 64 c.args.gate) ≡ replicate c.args.count c.args.gate = take-replicate c.args.count 64 c.args.gate (omega arith) in
    rw e at (c.write_members.ensures.outcome n lt)
