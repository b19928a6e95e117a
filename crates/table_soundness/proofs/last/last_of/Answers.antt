use Rattle.table_soundness.proofs.Prelude.{sym, ◌∙◌, arith}
use Rattle.table_soundness.proofs.LastLemmas.{last_found, last_absent}
use Rattle.table_soundness.proofs.last.last_of.Goals as goal

pub returns-then-id-clause-some : goal.returns-then-id-clause-some
returns-then-id-clause-some g c =
    last_found g.F.Fact.key c.args.facts.now c.args.id c.end_of_id-end.result c.index-facts-end.result c.requires (omega arith) c.end_of_id-end.ensures.within c.index-facts-end.is (sym c.id.ensures ∙ c.if-id.true) c.end_of_id-end.ensures.above

pub returns-else-id-clause-none : goal.returns-else-id-clause-none
returns-else-id-clause-none g c =
    last_absent g.F.Fact.key c.args.facts.now c.args.id c.end_of_id-end.result c.index-facts-end.result c.requires (omega arith) c.end_of_id-end.ensures.within c.index-facts-end.is
    (λ e. omega (arith, c.id.ensures, c.if-id.false, e)) c.end_of_id-end.ensures.below c.end_of_id-end.ensures.above
