use Rattle.elision.proofs.Prelude.{◌≡◌, ◌++◌, ◌≤◌, ◌-◌, take, drop, lasts}
use Rattle.elision.proofs.merging.newest_of_each.Given as goal

abbrev pub invariant-loop-i : goal.invariant-loop-i
invariant-loop-i g l = record {
  order : l.start ≤ l.i;
  same : l.out.items ++ (take (l.i - l.start) (drop l.start l.facts) ++ lasts g.F.Fact.key (drop l.i l.facts)) ≡ lasts g.F.Fact.key l.facts;
}
