use Rattle.lower_tests.proofs.Prelude.{◌+◌, ◌<◌, ◌∙◌, refl, arith, MediumFact, medium_key, IsOnGrid}
use Rattle.lower_tests.proofs.GridLemmas.{newest_alone, each_with}
use Rattle.lower_tests.proofs.chained.lead.Goals as goal

pub over-requires-clause-newest : goal.over-requires-clause-newest
over-requires-clause-newest c =
    newest_alone medium_key (λ (r : MediumFact). r.seq.0) c.args.mediums.now.facts.patches c.args.mediums.now.facts.unflushed _ c.requires.none (λ r d. (c.requires.each r d).1)

pub returns-in-Ok : goal.returns-in-Ok
returns-in-Ok c = λ _. record {
  none = c.in-Ok.ensures.patches ∙ c.requires.none;
  each = each_with (λ (r : MediumFact). IsOnGrid r × (r.seq.0 < c.args.number)) (λ (r : MediumFact). IsOnGrid r × (r.seq.0 < c.args.number + 1)) c.over.new.self.facts.unflushed c.args.mediums.now.facts.unflushed _
      (λ r h. (h.0, (let less = h.1 in omega (arith, less)))) c.requires.each (c.if-not-is_on_grid.ensures refl, omega arith) c.in-Ok.ensures.facts;
}
