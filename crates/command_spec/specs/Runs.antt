-- The targets of a run of sectors: staged sectors one behind another, or none.
use Rattle.std.specs.Prelude.{ℕ, zero, suc, ◌+◌, ◌≤◌, ◌^◌, List, [], ◌∷◌, Option, Some, None}
use Rattle.memory_spec.specs.Prelude.{Target, Stored, Zero}

-- the target of the sector at a place of a run: staged from an index on, or zeros
abbrev pub target_of : Option ℕ → ℕ → Target
target_of (Some index) i = Stored (record { segment = record { 0 = 0 }; index = index + i })
target_of None i = Zero

-- the targets of so many sectors, from a place of the run on
abbrev pub targets_from : Option ℕ → ℕ → ℕ → List Target
targets_from staged i zero = []
targets_from staged i (suc n) = target_of staged i ∷ targets_from staged (i + 1) n

-- so many indices from the first on have 16 bits, where sectors are staged
abbrev pub AreIndices : Option ℕ → ℕ → Type 0
AreIndices (Some index) n = index + n ≤ 2 ^ 16
AreIndices None n = Unit {0}
