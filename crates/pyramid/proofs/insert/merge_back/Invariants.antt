use Rattle.pyramid.proofs.Prelude.{◌≡◌, ◌+◌, ◌≤◌, length, take, drop}
use Rattle.pyramid.proofs.WeaveLemmas.{IsWoven}
use Rattle.pyramid.proofs.insert.merge_back.Given as goal

abbrev pub invariant-loop-j : goal.invariant-loop-j
invariant-loop-j g l = record {
  i : l.i ≤ l.len;
  j : l.j ≤ length l.run;
  front : take l.i l.facts ≡ take l.i (take l.len l.fn.facts);
  woven : IsWoven g.F.Fact.key g.F.Fact.number (take l.len l.fn.facts) l.run (take l.i (take l.len l.fn.facts)) (take l.j l.run) (drop (l.i + l.j) l.facts);
}

abbrev pub decreases-loop-j : goal.decreases-loop-j
decreases-loop-j g l = l.i + l.j
