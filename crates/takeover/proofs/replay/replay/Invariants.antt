use Rattle.takeover.proofs.Prelude.{◌≡◌, List, length, Command, HasRead}
use Rattle.takeover.proofs.Applying.{AreDone}
use Rattle.takeover.proofs.replay.replay.Given as goal

abbrev pub invariant-loop-i : goal.invariant-loop-i
invariant-loop-i l = record {
  room : length l.room ≡ length l.initial.room;
  done : (commands : List Command) → HasRead l.log commands → AreDone l.initial.memory commands l.i l.memory;
}
