use Rattle.pyramid.proofs.Prelude.{◌≡◌, ℕ, ◌<◌, ◌≤◌, get_or, Some}
use Rattle.pyramid.proofs.pointed.pointed_by.Given as goal

abbrev pub invariant-loop-fact : goal.invariant-loop-fact
invariant-loop-fact g l = (i : ℕ) (d : g.row.F.Denot) → i < l.fact-index → (id : ℕ) → g.F.Fact.pointed (get_or l.facts i d) ≡ Some id → (l.pointed.first ≤ id) × (id ≤ l.pointed.last)
