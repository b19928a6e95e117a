use Rattle.pyramid.proofs.Prelude.{◌≡◌, ◌≤◌, length, drop, None, facts_of, newest_of}
use Rattle.pyramid.proofs.pyramid.newest_flushed.Given as goal

abbrev pub invariant-loop-i : goal.invariant-loop-i
invariant-loop-i g l = record {
  within : l.i ≤ length l.patches;
  none : newest_of g.F.Fact.key g.F.Fact.number l.key (facts_of (drop l.i l.patches)) ≡ None;
}

abbrev pub decreases-loop-i : goal.decreases-loop-i
decreases-loop-i g l = l.i
