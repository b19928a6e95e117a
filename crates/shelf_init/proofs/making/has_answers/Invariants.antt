use Rattle.shelf_init.proofs.Prelude.{◌≡◌, ℕ, ◌<◌, slice_index_or, true, false}
use Rattle.shelf_init.proofs.making.has_answers.Given as goal

abbrev pub invariant-loop-drive : goal.invariant-loop-drive
invariant-loop-drive l = (i : ℕ) → i < l.drive → slice_index_or l.answered i false ≡ true
