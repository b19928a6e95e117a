use Rattle.pyramid.proofs.Prelude.{ℕ, ◌<◌, ◌≤◌, get_or}
use Rattle.pyramid.proofs.pointed.is_any_between.Given as goal

abbrev pub invariant-loop-id : goal.invariant-loop-id
invariant-loop-id l = (i : ℕ) → i < l.id-index → (l.pointed.first ≤ get_or l.ids i 0) × (get_or l.ids i 0 ≤ l.pointed.last) → ⊥
