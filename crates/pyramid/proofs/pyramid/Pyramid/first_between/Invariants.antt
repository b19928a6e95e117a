use Rattle.pyramid.proofs.Prelude.{◌≡◌, ℕ, ◌+◌, ◌-◌, ◌<◌, ◌≤◌, None, says, is_within, facts_in}
use Rattle.pyramid.proofs.pyramid.Pyramid.first_between.Given as goal

abbrev pub invariant-loop-start : goal.invariant-loop-start
invariant-loop-start g l = record {
  within : l.from ≤ l.start;
  silent : (k : ℕ) → l.from ≤ k → k < l.start → says g.F.Fact.key g.F.Fact.number g.F.Fact.empty (facts_in l.self) (is_within l.elided) k ≡ None;
}

abbrev pub decreases-loop-start : goal.decreases-loop-start
decreases-loop-start g l = l.to + 1 - l.start
