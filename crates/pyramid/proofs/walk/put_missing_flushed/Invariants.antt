use Rattle.pyramid.proofs.Prelude.{◌≡◌, ℕ, ◌+◌, ◌<◌, ◌≤◌, length, get_or, drop, None, option_or, facts_of, newest_of}
use Rattle.pyramid.proofs.walk.put_missing_flushed.Given as goal

abbrev pub invariant-loop-left : goal.invariant-loop-left
invariant-loop-left g l = record {
  within : l.left ≤ length l.patches;
  put : (i : ℕ) → i < length l.out → get_or l.out i None ≡ option_or (get_or l.fn.out i None) (newest_of g.F.Fact.key g.F.Fact.number (l.from + i) (facts_of (drop l.left l.patches)));
}

abbrev pub decreases-loop-left : goal.decreases-loop-left
decreases-loop-left g l = l.left
