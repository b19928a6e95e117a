use Rattle.medium_table.proofs.Prelude.{nat_tests, ◌≡◌, ap, ◌∙◌, [], ◌∷◌, arith, nat_lt, true, false, le-ltb, lt-ltb, cut_facts, emptied, said}
use Rattle.pyramid.proofs.DistinctLemmas.{from_ok}
use Rattle.medium_table.proofs.RangeLemmas.{below_emptied, below_pair, cut_whole, cut_part, taken_as}
use Rattle.medium_table.proofs.table.MediumTable.put_cut.Goals as goal

pub returns-then-to-range-clause-says : goal.returns-then-to-range-clause-says
returns-then-to-range-clause-says c = grind (arith, nat_tests, emptied, from_ok, said, cut_whole, below_emptied)

pub returns-else-to-range-clause-says : goal.returns-else-to-range-clause-says
returns-else-to-range-clause-says c = grind (arith, nat_tests, from_ok, said, emptied, cut_part, below_pair)

pub returns-then-to-range-clause-facts : goal.returns-then-to-range-clause-facts
returns-then-to-range-clause-facts c =
    let ended : nat_lt c.args.to c.args.range.now.end ≡ false = le-ltb c.args.to c.args.range.now.end (omega (arith, c.if-to-range.true)) in
    let is : c.emptied-empty.result ∷ [] ≡ cut_facts c.args.range.now c.args.to c.args.seq.0 = rw ended (ap (λ e. e ∷ []) c.emptied-empty.ensures) in
    from_ok c.put_run.result _ _ c.put_run.ensures.facts (taken_as c.put_run.new.self.facts.unflushed c.args.self.now.facts.unflushed (c.emptied-empty.result ∷ []) (cut_facts c.args.range.now c.args.to c.args.seq.0) is)

pub returns-else-to-range-clause-facts : goal.returns-else-to-range-clause-facts
returns-else-to-range-clause-facts c =
    let less : nat_lt c.args.to c.args.range.now.end ≡ true = lt-ltb c.args.to c.args.range.now.end (omega (arith, c.requires.within, c.if-to-range.false)) in
    let is : c.emptied-empty.result ∷ c.rest_of-rest.result ∷ [] ≡ cut_facts c.args.range.now c.args.to c.args.seq.0 =
    rw less (ap (λ e. e ∷ c.rest_of-rest.result ∷ []) c.emptied-empty.ensures ∙ ap (λ t. emptied c.args.range.now c.args.seq.0 ∷ t ∷ []) c.rest_of-rest.ensures) in
    from_ok c.put_run-else-to-range.result _ _ c.put_run-else-to-range.ensures.facts
    (taken_as c.put_run-else-to-range.new.self.facts.unflushed c.args.self.now.facts.unflushed (c.emptied-empty.result ∷ c.rest_of-rest.result ∷ []) (cut_facts c.args.range.now c.args.to c.args.seq.0) is)

pub returns-then-to-range-clause-room : goal.returns-then-to-range-clause-room
returns-then-to-range-clause-room c h =
    let ended : nat_lt c.args.to c.args.range.now.end ≡ false = le-ltb c.args.to c.args.range.now.end (omega (arith, c.if-to-range.true)) in
    c.put_run.ensures.room (rw ended at h)

pub returns-else-to-range-clause-room : goal.returns-else-to-range-clause-room
returns-else-to-range-clause-room c h =
    let less : nat_lt c.args.to c.args.range.now.end ≡ true = lt-ltb c.args.to c.args.range.now.end (omega (arith, c.requires.within, c.if-to-range.false)) in
    c.put_run-else-to-range.ensures.room (rw less at h)
