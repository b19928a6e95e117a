-- How a point is reached: the counts of failed calls at a reply are told by the stops from there on.
use Rattle.std.specs.Prelude.{◌<◌, ◌≤◌, ℕ, length}
use Rattle.memory_spec.specs.Prelude.{Device}
use Rattle.world.specs.Prelude.{Shelved, Stop, Elapses, Continues, OutputOnly, TakenOnly, IsCountedBy}
use Rattle.session_spec.specs.Faring.{Point, IsReached}

-- no stop since a moment leaves more output than there is
abbrev pub NoMore : ℕ → Shelved → Type 0
NoMore since s = (stop : Stop) → s.left_since since stop → length stop.output ≤ length s.output

-- each stop since a moment that leaves so much output has the counts that were reached then
abbrev pub CountsSince : ℕ → Shelved → ℕ → Shelved → Type 0
CountsSince since at output s = (stop : Stop) → s.left_since since stop → output ≤ length stop.output → IsCountedBy at stop

-- no more output, over a call on a device, over output and over input
abbrev pub OutputIsBounded : Shelved → Shelved → Type 0
OutputIsBounded a b = (since : ℕ) → since ≤ a.moment → NoMore since a
    → (Elapses a b → NoMore since b) × (OutputOnly a b → NoMore since b) × (TakenOnly a b → NoMore since b)

-- once more output was given, the stops that leave it have the counts of that moment
abbrev pub OutputCounts : Shelved → Shelved → Type 0
OutputCounts a b = (since : ℕ) → since ≤ a.moment → NoMore since a → OutputOnly a b → length a.output < length b.output → CountsSince since b (length b.output) b

-- and so it stays over a call, over output and over input
abbrev pub CountsStay : Shelved → Shelved → Shelved → Type 0
CountsStay at a b = (since output : ℕ) → since ≤ a.moment → Continues at a → CountsSince since at output a
    → (Elapses a b → Continues at b → CountsSince since at output b) × (OutputOnly a b → CountsSince since at output b) × (TakenOnly a b → CountsSince since at output b)

-- a point whose stop has the counts of that moment is reached
abbrev pub PointIsReached : Shelved → Shelved → Type 0
PointIsReached at s = (since : ℕ) (point : Point) → s.left_since since point.stop → length at.output ≤ length point.stop.output
    → ((d : Device) → point.stop.faults d ≤ (at.disk d).faults) → ((d : Device) → point.stop.write_faults d ≤ (at.disk d).write_faults)
    → CountsSince since at (length at.output) s → IsReached (s.left_since since) point
