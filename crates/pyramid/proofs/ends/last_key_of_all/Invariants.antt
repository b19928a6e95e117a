use Rattle.pyramid.proofs.Prelude.{◌≤◌, ◌++◌, take, Contains, facts_of}
use Rattle.pyramid.proofs.EndLemmas.{IsOneOf}
use Rattle.pyramid.proofs.ends.last_key_of_all.Given as goal

abbrev pub invariant-loop-patch : goal.invariant-loop-patch
invariant-loop-patch g l = record {
  from : l.fn.from ≤ l.key;
  to : l.key ≤ l.to;
  there : IsOneOf g.F.Fact.key g.F.Fact.number l.fn.from (facts_of (take l.patch-index l.patches) ++ l.fn.unflushed) l.key;
  flushed : (f : g.row.F.Denot) → Contains (facts_of (take l.patch-index l.patches)) f → g.F.Fact.key f ≤ l.to → g.F.Fact.key f ≤ l.key;
  unflushed : (f : g.row.F.Denot) → Contains l.fn.unflushed f → g.F.Fact.key f ≤ l.to → g.F.Fact.key f ≤ l.key;
}
