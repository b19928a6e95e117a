use Rattle.pyramid.proofs.Prelude.{◌≡◌, ℕ, ◌+◌, ◌-◌, ◌<◌, ◌≤◌, None, says, is_within, facts_in}
use Rattle.pyramid.proofs.pyramid.Pyramid.last_between.Given as goal

abbrev pub invariant-loop-end : goal.invariant-loop-end
invariant-loop-end g l = record {
  within : l.end ≤ l.to;
  silent : (k : ℕ) → l.end < k → k ≤ l.to → says g.F.Fact.key g.F.Fact.number g.F.Fact.empty (facts_in l.self) (is_within l.elided) k ≡ None;
}

abbrev pub decreases-loop-end : goal.decreases-loop-end
decreases-loop-end g l = l.end + 1 - l.from
