use Rattle.shelf_look.proofs.Prelude.{◌≤◌, List, take, Command, HasRead, AreWaiting}
use Rattle.shelf_look.proofs.waiting.waiting_in.Given as goal

abbrev pub invariant-loop-i : goal.invariant-loop-i
invariant-loop-i l = record {
  creates : l.waiting.creates ≤ l.i;
  writes : l.waiting.writes ≤ l.i;
  fills : l.waiting.fills ≤ l.i;
  zeroes : l.waiting.zeroes ≤ l.i;
  snapshots : l.waiting.snapshots ≤ l.i;
  clones : l.waiting.clones ≤ l.i;
  copies : l.waiting.copies ≤ l.i;
  destroys : l.waiting.destroys ≤ l.i;
  done : (commands : List Command) → HasRead l.log commands → AreWaiting (take l.i commands) l.waiting;
}
