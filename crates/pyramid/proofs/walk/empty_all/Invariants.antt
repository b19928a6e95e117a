use Rattle.pyramid.proofs.Prelude.{◌≡◌, ℕ, ◌<◌, get_or, None}
use Rattle.pyramid.proofs.walk.empty_all.Given as goal

abbrev pub invariant-loop-place : goal.invariant-loop-place
invariant-loop-place g l = (i : ℕ) → i < l.place-index → get_or l.out i None ≡ None
