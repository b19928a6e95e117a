-- How many units drives have free, once segments take theirs.
use Rattle.std.specs.Prelude.{◌≡◌, ℕ, ◌+◌, ◌≤◌, Bool, false, List, count_by, slice_index, slice_index_or, ◌==◌, if◌then◌else◌}
use Rattle.array_spec.specs.Prelude.{Place}

-- whether a place is on the drive of a slot
abbrev pub is_on : ℕ → Place → Bool
is_on slot p = p.slot == slot

-- how many of the places are on it
abbrev pub units_on : ℕ → List Place → ℕ
units_on slot ps = count_by (is_on slot) ps

-- each drive has so many units free
abbrev pub HasUnits : List ℕ → List Place → Type 0
HasUnits free ps = (slot : ℕ) → units_on slot ps ≤ slice_index free slot

-- each drive has so many fewer free
abbrev pub LosesUnits : List ℕ → List ℕ → List Place → Type 0
LosesUnits old new ps = (slot : ℕ) → slice_index new slot + units_on slot ps ≡ slice_index old slot

-- the drives whose flag isn't set have none
abbrev pub CountsMembers : List ℕ → List ℕ → List Bool → Type 0
CountsMembers old new flags = (slot : ℕ) → slice_index new slot ≡ (if slice_index_or flags slot false then slice_index old slot else 0)
