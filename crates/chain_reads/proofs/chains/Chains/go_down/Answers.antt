use Rattle.chain_reads.proofs.Prelude.{◌+◌, arith, cursor_at}
use Rattle.chain_reads.proofs.ChainLemmas.{in_run_reads}
use Rattle.chain_reads.proofs.chains.Chains.go_down.Goals as goal

pub go_on-requires-clause-reads : goal.go_on-requires-clause-reads
go_on-requires-clause-reads c = λ f h k l.
    in_run_reads f c.args.from c.descend-at.result k (cursor_at c.args.cursors.now (c.args.i + k)) (c.requires.run k (omega (arith, l, c.descend-at.auto.said))) c.descend-at.ensures.sinks
    (c.descend-at.ensures.reads f h k l)
