use Rattle.address_table.proofs.Prelude.{◌≡◌, ℕ, ◌<◌, get_or, None}
use Rattle.address_table.proofs.table.empty_all.Given as goal

abbrev pub invariant-loop-place : goal.invariant-loop-place
invariant-loop-place l = (i : ℕ) → i < l.place-index → get_or l.out i None ≡ None
