use Rattle.pyramid.proofs.Prelude.{inl, inr, ◌++◌, facts_of, ok_or_err, rises_run}
use Rattle.pyramid.proofs.DistinctLemmas.{says_as, moved_behind, from_ok}
use Rattle.pyramid.proofs.pyramid.Pyramid.insert_run.Goals as goal

pub invariant_of-self : goal.invariant_of-self
invariant_of-self g c = record {
  ascend = c.self.invariant.ascend;
  ordered = c.insert_all.ensures.ordered;
  rises = rises_run g.F.Fact.number c.self.inside.patches.items c.self.inside.unflushed.items c.insert_all.new.facts.items c.args.run.now c.self.invariant.rises
      (rw (← c.self.view_is) at c.requires.rising)
      (λ f h. elim (ok_or_err c.insert_all.result _ _ c.insert_all.ensures.facts c.insert_all.ensures.refused) [
        | inl facts ↦ (facts f).0 h
        | inr same ↦ inl (rw same at h)
      ]);
}

pub returns-clause-facts : goal.returns-clause-facts
returns-clause-facts g c = rw (← c.self.view_is) c.insert_all.ensures.facts

pub returns-clause-says : goal.returns-clause-says
returns-clause-says g c =
    let ps = c.self.inside.patches.items in
    let us = c.self.inside.unflushed.items in
    rw (← c.self.view_is) (from_ok c.insert_all.result _ _ c.insert_all.ensures.facts (λ h. says_as g.F.Fact.key g.F.Fact.number g.F.Fact.empty ps c.insert_all.new.facts.items ((facts_of ps ++ us) ++ c.args.run.now) (invariant_of-self g c)
    (moved_behind (facts_of ps) us c.insert_all.new.facts.items (c.args.run.now) h)))
