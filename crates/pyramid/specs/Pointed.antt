-- Bounds of the segments that the facts of a patch point to.
use Rattle.std.specs.Prelude.{◌≡◌, ℕ, ◌≤◌, List, Contains, Option, Some}

-- the id of each segment that one of the facts points to lies between these two
abbrev pub AreBetween : {F : Type 0} → (F → Option ℕ) → List F → ℕ → ℕ → Type 0
AreBetween {F} pointed facts first last = (f : F) → Contains facts f → (id : ℕ) → pointed f ≡ Some id → (first ≤ id) × (id ≤ last)
