use Rattle.chain_reads.proofs.Prelude.{refl, ℕ, ◌+◌, ◌<◌, ◌≤◌, sym, subst, arith, length, Option, MediumFact, Spot, IsRangeAt, RunReadsOn}
use Rattle.chain_reads.proofs.ChainLemmas.{run_reads_on}
use Rattle.chain_reads.proofs.chains.Chains.onward.Goals as goal

pub returns-in-Some-clause-reads : goal.returns-in-Some-clause-reads
returns-in-Some-clause-reads c = λ f h.
    let from = c.args.from in
    let said = c.args.said.now in
    let part = c.part_at-part in
    let over = λ (x : ℕ) (l : from.sector ≤ x) (below : x < part.result.end).
    subst (λ (o : Option MediumFact). IsRangeAt f from.medium.0 x o) c.in-Some.is (part.ensures.says f h x l below) in
    subst (λ (next : Spot). RunReadsOn f from next (length said)) (sym c.onward_by.ensures)
    (run_reads_on f h.lead c.in-Some.range from said (c.requires.said f h) (c.if-not-is_silent.ensures refl) (over from.sector (omega arith) part.ensures.some).from_start
    (λ k l. over (from.sector + k) (omega arith) (omega (arith, l))))
