use Rattle.pyramid.proofs.Prelude.{◌≤◌, ◌++◌, take, Contains, facts_of}
use Rattle.pyramid.proofs.EndLemmas.{IsOneOf}
use Rattle.pyramid.proofs.ends.first_key_of_all.Given as goal

abbrev pub invariant-loop-patch : goal.invariant-loop-patch
invariant-loop-patch g l = record {
  from : l.from ≤ l.key;
  to : l.key ≤ l.fn.to;
  there : IsOneOf g.F.Fact.key g.F.Fact.number l.fn.to (facts_of (take l.patch-index l.patches) ++ l.fn.unflushed) l.key;
  flushed : (f : g.row.F.Denot) → Contains (facts_of (take l.patch-index l.patches)) f → l.from ≤ g.F.Fact.key f → l.key ≤ g.F.Fact.key f;
  unflushed : (f : g.row.F.Denot) → Contains l.fn.unflushed f → l.from ≤ g.F.Fact.key f → l.key ≤ g.F.Fact.key f;
}
