use Rattle.shelf_look.proofs.Prelude.{◌≡◌, ◌≤◌, take, set_count}
use Rattle.shelf_look.proofs.numbers.set_flags.Given as goal

abbrev pub invariant-loop-flag : goal.invariant-loop-flag
invariant-loop-flag l = (l.count ≡ set_count (take l.flag-index l.flags)) × (l.count ≤ l.flag-index)
