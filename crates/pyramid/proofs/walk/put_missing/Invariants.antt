use Rattle.pyramid.proofs.Prelude.{◌≡◌, ℕ, ◌+◌, ◌-◌, ◌<◌, ◌≤◌, length, get_or, take, None, option_or, newest_of}
use Rattle.pyramid.proofs.walk.put_missing.Given as goal

abbrev pub invariant-loop-at : goal.invariant-loop-at
invariant-loop-at g l = record {
  within : l.at ≤ length l.facts;
  above : (j : ℕ) (d : g.row.F.Denot) → l.at ≤ j → j < length l.facts → l.from ≤ g.F.Fact.key (get_or l.facts j d);
  put : (i : ℕ) → i < length l.out → get_or l.out i None ≡ option_or (get_or l.fn.out i None) (newest_of g.F.Fact.key g.F.Fact.number (l.from + i) (take l.at l.facts));
}

abbrev pub decreases-loop-at : goal.decreases-loop-at
decreases-loop-at g l = length l.facts - l.at
