-- Devices that go missing as their calls fail.
use Rattle.takeover.proofs.Prelude.{or_parts, ◌≡◌, Bool, false, arith, ◌-◌, ◌^◌, ◌<◌, ℕ, nat_lt, nat_le, ltb-false, leb-false, Device, Conditions, IsWithin, Shelved, Stop, Continues, IsCountedBy, has_risen, losing, failed_since, failed_by, Condition, missing_if, not_risen_before, not_risen_in_both, not_risen_since, more_fail, nat_tests}

pub losing_more : (failed more : Device → Bool) (missing : Conditions) → ((d : Device) → more d ≡ false → failed d ≡ false) → IsWithin (losing failed missing) (losing more missing)
losing_more failed more missing less device = more_fail (failed device) (more device) (missing device) (less device)

-- from one moment to another
pub since_later : (old mid new : Shelved) (missing : Conditions) → Continues mid new → IsWithin (failed_since old mid missing) (failed_since old new missing)
since_later old mid new missing continues = grind (arith, nat_tests, losing_more, not_risen_before)

-- and to a stop
pub by_stop : (old mid : Shelved) (stop : Stop) (missing : Conditions) → IsCountedBy mid stop → IsWithin (failed_since old mid missing) (failed_by old stop missing)
by_stop old mid stop missing counts = grind (arith, nat_tests, losing_more, not_risen_before)

-- ---- in one call and then in the next

twice_at : (c : Condition) (x y z : Bool) → (z ≡ false → x ≡ false) → (z ≡ false → y ≡ false) → (x ≡ false → y ≡ false → z ≡ false) → missing_if y (missing_if x c) ≡ missing_if z c
twice_at c x y z h k l = grind (arith, nat_tests)

-- by a stop
pub twice_by : (old mid : Shelved) (stop : Stop) (missing : Conditions) → Continues old mid → IsCountedBy mid stop → failed_by mid stop (failed_since old mid missing) ≡ failed_by old stop missing
twice_by old mid stop missing on counts = grind (arith, nat_tests, missing_if, has_risen, twice_at, not_risen_before, not_risen_since, not_risen_in_both)

-- until now
pub twice_since : (old mid new : Shelved) (missing : Conditions) → Continues old mid → Continues mid new → failed_since mid new (failed_since old mid missing) ≡ failed_since old new missing
twice_since old mid new missing on after = grind (arith, nat_tests, missing_if, has_risen, twice_at, not_risen_before, not_risen_since, not_risen_in_both)

-- a count that hasn't risen is below its end
pub goes_on : (a b : ℕ) → has_risen a b ≡ false → b < 2 ^ 64 - 1
goes_on a b none = grind (arith, nat_tests, or_parts, nat_lt, nat_le, ltb-false, leb-false)
