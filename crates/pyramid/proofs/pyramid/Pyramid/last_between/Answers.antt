use Rattle.pyramid.proofs.Prelude.{◌≤◌, sym, ◌∙◌, arith, Contains, is_within, facts_in}
use Rattle.pyramid.proofs.EndLemmas.{last_said, silent_at}
use Rattle.pyramid.proofs.pyramid.Pyramid.last_between.Goals as goal

pub last_key_of_all-key-requires-clause-ordered : goal.last_key_of_all-key-requires-clause-ordered
last_key_of_all-key-requires-clause-ordered g c = rw c.deref-in-loop-end.ensures.value c.self.invariant.ordered

pub returns-in-Some-clause-found : goal.returns-in-Some-clause-found
returns-in-Some-clause-found g c =
    let last : (f : g.row.F.Denot) → Contains (facts_in c.args.self.now) f → g.F.Fact.key f ≤ c.loop-end.end → g.F.Fact.key f ≤ c.last_key_of_all-key.result =
    rw (← c.self.view_is) (rw (c.deref.ensures.value, c.deref-in-loop-end.ensures.value) at c.last_key_of_all-key.ensures.last) in
    last_said g.F.Fact.key g.F.Fact.number g.F.Fact.empty (facts_in c.args.self.now) (is_within c.args.elided.now) c.args.from c.args.to c.loop-end.end c.last_key_of_all-key.result c.in-Some.fact
    c.last_key_of_all-key.ensures.from c.last_key_of_all-key.ensures.to c.loop-end.invariant.within last c.loop-end.invariant.silent (sym c.newest.ensures ∙ c.in-Some.is)

pub returns-then-key-from-clause-absent : goal.returns-then-key-from-clause-absent
returns-then-key-from-clause-absent g c =
    let last : (f : g.row.F.Denot) → Contains (facts_in c.args.self.now) f → g.F.Fact.key f ≤ c.loop-end.end → g.F.Fact.key f ≤ c.last_key_of_all-key.result =
    rw (← c.self.view_is) (rw (c.deref.ensures.value, c.deref-in-loop-end.ensures.value) at c.last_key_of_all-key.ensures.last) in
    λ k low high. silent_at g.F.Fact.key g.F.Fact.number g.F.Fact.empty (facts_in c.args.self.now) (is_within c.args.elided.now) c.args.to c.loop-end.end c.last_key_of_all-key.result last c.loop-end.invariant.silent
    (sym c.newest.ensures ∙ c.in_default.is) k (omega (arith, c.if-key-from.true, low)) high

pub loop-end-preserved : goal.loop-end-preserved
loop-end-preserved g c =
    let last : (f : g.row.F.Denot) → Contains (facts_in c.args.self.now) f → g.F.Fact.key f ≤ c.loop-end.end → g.F.Fact.key f ≤ c.last_key_of_all-key.result =
    rw (← c.self.view_is) (rw (c.deref.ensures.value, c.deref-in-loop-end.ensures.value) at c.last_key_of_all-key.ensures.last) in
    record {
      within = omega (arith, c.last_key_of_all-key.ensures.to, c.loop-end.invariant.within);
      silent = λ k less high. silent_at g.F.Fact.key g.F.Fact.number g.F.Fact.empty (facts_in c.args.self.now) (is_within c.args.elided.now) c.args.to c.loop-end.end c.last_key_of_all-key.result last c.loop-end.invariant.silent
          (sym c.newest.ensures ∙ c.in_default.is) k (omega (arith, c.if-key-from.false, c.last_key_of_all-key.ensures.from, less)) high;
    }
