-- Which segment a sector stands in, and which addresses bear witness of segments.
use Rattle.std.specs.Prelude.{ℕ, Bool, false, ◌==◌, cond, List, [], ◌∷◌, Option, Some}
use Rattle.memory_spec.specs.Prelude.{Target, Stored, Zero, AddressFact}
use Rattle.table_plan.specs.declared.witnesses.Witness.{Witness}

-- whether the sector stands in the segment
abbrev pub stands_in : ℕ → Target → Bool
stands_in segment (Stored at) = at.segment.0 == segment
stands_in segment Zero = false

-- the fact's address, where it names a sector of the segment, or else the witness so far
abbrev pub witness_or : ℕ → Option Witness → AddressFact → Option Witness
witness_or segment so_far f = cond (stands_in segment f.target) (Some (record { medium = f.medium; sector = f.sector })) so_far

-- the last address among the facts that names a sector of the segment, or else the witness so far
abbrev pub last_witness : ℕ → Option Witness → List AddressFact → Option Witness
last_witness segment so_far [] = so_far
last_witness segment so_far (f ∷ fs) = last_witness segment (witness_or segment so_far f) fs
