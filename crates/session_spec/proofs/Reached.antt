-- The counts at a reply are told by the stops from there on: how a point is reached.
use Rattle.session_spec.proofs.Prelude.{nat_tests, ℕ, ◌≤◌, ◌<◌, List, length, ap, arith, length-append, Shelved, Stop, Elapses, Continues, OutputOnly, TakenOnly, IsCountedBy, IsFrontOf, Point, IsReached}
use Rattle.session_spec.specs.Reaching.{NoMore, CountsSince, OutputIsBounded, OutputCounts, CountsStay, PointIsReached}

front_shorter : (xs ys : List ℕ) → IsFrontOf xs ys → length xs ≤ length ys
front_shorter xs ys f = omega (arith, ap (λ (l : List ℕ). length l) f.1, length-append xs f.0)

-- ---- no more output

none_by_call : (m : ℕ) (a b : Shelved) → m ≤ a.moment → NoMore m a → Elapses a b → NoMore m b
none_by_call m a b le none time stop left = grind (arith, nat_tests)

none_by_giving : (m : ℕ) (a b : Shelved) → m ≤ a.moment → NoMore m a → OutputOnly a b → NoMore m b
none_by_giving m a b le none gives stop left = grind (arith, nat_tests, front_shorter)

none_by_taking : (m : ℕ) (a b : Shelved) → m ≤ a.moment → NoMore m a → TakenOnly a b → NoMore m b
none_by_taking m a b le none takes stop left = grind (arith, nat_tests)

-- ---- the counts

-- once a reply was given, the stops that leave it have the counts of that moment
counts_by_reply : (m : ℕ) (a b : Shelved) → m ≤ a.moment → NoMore m a → OutputOnly a b → length a.output < length b.output → CountsSince m b (length b.output) b
counts_by_reply m a b le none gives more stop left long = grind (arith, nat_tests)

-- and so it stays over later calls
since_then : {at a : Shelved} {stop : Stop} → Continues at a → IsCountedBy a stop → IsCountedBy at stop
since_then {at} {a} {stop} on counts = grind (arith, nat_tests)

counts_by_call : (m : ℕ) (at a b : Shelved) (n : ℕ) → m ≤ a.moment → Continues at b → CountsSince m at n a → Elapses a b → CountsSince m at n b
counts_by_call m at a b n le on reached time stop left long = grind (arith, nat_tests, since_then)

counts_by_giving : (m : ℕ) (at a b : Shelved) (n : ℕ) → m ≤ a.moment → Continues at a → CountsSince m at n a → OutputOnly a b → CountsSince m at n b
counts_by_giving m at a b n le on reached gives stop left long = grind (arith, nat_tests, since_then)

counts_by_taking : (m : ℕ) (at a b : Shelved) (n : ℕ) → m ≤ a.moment → Continues at a → CountsSince m at n a → TakenOnly a b → CountsSince m at n b
counts_by_taking m at a b n le on reached takes stop left long = grind (arith, nat_tests, since_then)

-- ---- points

-- a point whose stop has the counts of a moment is reached
reached : (m : ℕ) (at s : Shelved) (point : Point) → s.left_since m point.stop → length at.output ≤ length point.stop.output
    → ((d : _) → point.stop.faults d ≤ (at.disk d).faults) → ((d : _) → point.stop.write_faults d ≤ (at.disk d).write_faults)
    → CountsSince m at (length at.output) s → IsReached (s.left_since m) point
reached m at s point may long faults write_faults counts = grind (arith, nat_tests)

-- ---- the laws

pub output_is_bounded : (a b : Shelved) → OutputIsBounded a b
output_is_bounded a b m le none = (none_by_call m a b le none, none_by_giving m a b le none, none_by_taking m a b le none)

pub output_counts : (a b : Shelved) → OutputCounts a b
output_counts a b m le none gives more = counts_by_reply m a b le none gives more

pub counts_stay : (at a b : Shelved) → CountsStay at a b
counts_stay at a b m n le on since = grind (arith, nat_tests, counts_by_call, counts_by_giving, counts_by_taking)

pub point_is_reached : (at s : Shelved) → PointIsReached at s
point_is_reached at s m point may long faults write_faults counts = reached m at s point may long faults write_faults counts
