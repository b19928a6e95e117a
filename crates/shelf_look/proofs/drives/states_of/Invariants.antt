use Rattle.shelf_look.proofs.Prelude.{◌≡◌, ℕ, ◌<◌, get_or, length, state_at}
use Rattle.shelf_look.specs.declared.drives.DriveState.TheVariants.{Silent}
use Rattle.shelf_look.proofs.drives.states_of.Given as goal

abbrev pub invariant-loop-slot : goal.invariant-loop-slot
invariant-loop-slot l = record {
  size : length l.states ≡ 24;
  done : (k : ℕ) → k < l.slot → get_or l.states k Silent ≡ state_at l.seen l.answered k;
}
