use Rattle.pyramid.proofs.Prelude.{◌≡◌, ℕ, ◌+◌, ◌<◌, ◌≤◌, length, drop, None, facts_of, newest_of}
use Rattle.pyramid.proofs.runs.run_flushed.Given as goal

abbrev pub invariant-loop-left : goal.invariant-loop-left
invariant-loop-left g l = record {
  within : l.left ≤ length l.patches;
  none : (i : ℕ) → i < l.len → newest_of g.F.Fact.key g.F.Fact.number (l.from + i) (facts_of (drop l.left l.patches)) ≡ None;
}

abbrev pub decreases-loop-left : goal.decreases-loop-left
decreases-loop-left g l = l.left
