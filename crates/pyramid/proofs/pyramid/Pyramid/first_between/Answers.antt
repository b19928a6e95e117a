use Rattle.pyramid.proofs.Prelude.{◌≤◌, sym, ◌∙◌, arith, Contains, is_within, facts_in}
use Rattle.pyramid.proofs.EndLemmas.{first_said, silent_through}
use Rattle.pyramid.proofs.pyramid.Pyramid.first_between.Goals as goal

pub first_key_of_all-key-requires-clause-ordered : goal.first_key_of_all-key-requires-clause-ordered
first_key_of_all-key-requires-clause-ordered g c = rw c.deref-in-loop-start.ensures.value c.self.invariant.ordered

pub returns-in-Some-clause-found : goal.returns-in-Some-clause-found
returns-in-Some-clause-found g c =
    let first : (f : g.row.F.Denot) → Contains (facts_in c.args.self.now) f → c.loop-start.start ≤ g.F.Fact.key f → c.first_key_of_all-key.result ≤ g.F.Fact.key f =
    rw (← c.self.view_is) (rw (c.deref.ensures.value, c.deref-in-loop-start.ensures.value) at c.first_key_of_all-key.ensures.first) in
    first_said g.F.Fact.key g.F.Fact.number g.F.Fact.empty (facts_in c.args.self.now) (is_within c.args.elided.now) c.args.from c.args.to c.loop-start.start c.first_key_of_all-key.result c.in-Some.fact
    c.loop-start.invariant.within c.first_key_of_all-key.ensures.from c.first_key_of_all-key.ensures.to first c.loop-start.invariant.silent (sym c.newest.ensures ∙ c.in-Some.is)

pub returns-then-key-to-clause-absent : goal.returns-then-key-to-clause-absent
returns-then-key-to-clause-absent g c =
    let first : (f : g.row.F.Denot) → Contains (facts_in c.args.self.now) f → c.loop-start.start ≤ g.F.Fact.key f → c.first_key_of_all-key.result ≤ g.F.Fact.key f =
    rw (← c.self.view_is) (rw (c.deref.ensures.value, c.deref-in-loop-start.ensures.value) at c.first_key_of_all-key.ensures.first) in
    λ k low high. silent_through g.F.Fact.key g.F.Fact.number g.F.Fact.empty (facts_in c.args.self.now) (is_within c.args.elided.now) c.args.from c.loop-start.start c.first_key_of_all-key.result first c.loop-start.invariant.silent
    (sym c.newest.ensures ∙ c.in_default.is) k low (omega (arith, c.if-key-to.true, high))

pub loop-start-preserved : goal.loop-start-preserved
loop-start-preserved g c =
    let first : (f : g.row.F.Denot) → Contains (facts_in c.args.self.now) f → c.loop-start.start ≤ g.F.Fact.key f → c.first_key_of_all-key.result ≤ g.F.Fact.key f =
    rw (← c.self.view_is) (rw (c.deref.ensures.value, c.deref-in-loop-start.ensures.value) at c.first_key_of_all-key.ensures.first) in
    record {
      within = omega (arith, c.first_key_of_all-key.ensures.from, c.loop-start.invariant.within);
      silent = λ k low less. silent_through g.F.Fact.key g.F.Fact.number g.F.Fact.empty (facts_in c.args.self.now) (is_within c.args.elided.now) c.args.from c.loop-start.start c.first_key_of_all-key.result first c.loop-start.invariant.silent
          (sym c.newest.ensures ∙ c.in_default.is) k low (omega (arith, less));
    }
