-- Where two writes on one device write.
use Rattle.std.specs.Prelude.{◌≡◌, ◌⊎◌, ◌+◌, ℕ, List, slice_index, slice_range, length}
use Rattle.world.specs.Prelude.{Device, IsIn, Shelved, Stop}

-- two ranges on that device
abbrev pub TwoRanges : Device → ℕ → ℕ → ℕ → ℕ → Device → ℕ → Type 0
TwoRanges device at m then n d i = (d ≡ device) × (IsIn (record { start = at; size = m }) i ⊎ IsIn (record { start = then; size = n }) i)

-- the second range is as it was, or the first one holds these bytes
abbrev pub IsInTurn : Shelved → Device → ℕ → List ℕ → ℕ → ℕ → Stop → Type 0
IsInTurn shelf device at first then n stop =
    ((i : ℕ) → IsIn (record { start = then; size = n }) i → slice_index (stop.image device) i ≡ slice_index (shelf.disk device).bytes i)
    ⊎ (slice_range (stop.image device) at (at + length first) ≡ first)
