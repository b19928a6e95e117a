use Rattle.medium_table.proofs.Prelude.{◌≡◌, ℕ, ◌<◌, ◌≤◌, length, get_or, Contains, MediumId, MediumFact, AreMarks, IsReached}
use Rattle.medium_table.proofs.reach.follow.Given as goal

abbrev pub invariant-loop-i : goal.invariant-loop-i
invariant-loop-i l = record {
  within : l.i ≤ length l.ranges;
  each : length l.marks ≡ length l.ranges;
  marked : AreMarks l.ranges l.marks l.found.items;
  kept : (m : MediumId) → Contains l.fn.found.items m → Contains l.found.items m;
  closed : (j : ℕ) (d : MediumFact) → l.i ≤ j → j < length l.ranges → Contains l.found.items (get_or l.ranges j d).medium → Contains l.found.items (get_or l.ranges j d).target;
  sound : (m : MediumId) → Contains l.found.items m → IsReached (Contains l.ranges) l.fn.found.items m;
}

abbrev pub decreases-loop-i : goal.decreases-loop-i
decreases-loop-i l = l.i
