-- How far the sectors of a run have come.
use Rattle.std.specs.Prelude.{◌≡◌, ℕ, ◌+◌, ◌-◌, ◌<◌, ◌≤◌, ◌^◌, ⊤, List, Option, Some, None, option_map, length, slice_index_or}
use Rattle.pyramid.specs.Prelude.{Facts, IsOver, address, AddressFact, MediumFact, Target, ReadsAt}
use Rattle.chain_reads.specs.declared.cursor.Spot.{Spot}
use Rattle.chain_reads.specs.declared.cursor.Cursor.{Cursor}
use Rattle.chain_reads.specs.declared.cursor.Cursor.TheVariants.{At, Settled}
use Rattle.chain_reads.specs.declared.chains.Chains.{Chains}
use Rattle.chain_reads.specs.Chains.{AreChains}

-- the tables hold these facts, of which each chain of mediums ends
abbrev pub AreOf : Facts → Chains → Type 0
AreOf f chains = AreChains f chains.mediums.now.facts chains.addresses.now.facts chains.elided.now

-- the cursor in a place
abbrev pub cursor_at : List Cursor → ℕ → Cursor
cursor_at cursors place = slice_index_or cursors place (Settled None)

-- what is left of the way at most, in mediums
abbrev pub weight : Cursor → ℕ
weight (At spot) = spot.medium.0 + 1
weight (Settled target) = 0

-- it is at that sector of the medium, or settled
abbrev pub IsInRun : ℕ → ℕ → Cursor → Type 0
IsInRun medium sector (At spot) = (spot.medium.0 ≡ medium) × (spot.sector ≡ sector)
IsInRun medium sector (Settled target) = sector < 2 ^ 32

-- what is read at the second place is read at the first
abbrev pub ReadsBelow : Facts → ℕ → ℕ → Spot → Type 0
ReadsBelow f medium sector spot = (target : Option Target) → ReadsAt f spot.medium.0 spot.sector target → ReadsAt f medium sector target

-- the sector so many behind
abbrev pub behind : Spot → ℕ → Spot
behind spot sectors = record { medium = spot.medium; sector = spot.sector + sectors }

-- where a sector reads on that a range has
abbrev pub onward_by : MediumFact → Spot → Spot
onward_by r spot = record { medium = r.target; sector = r.target_start + (spot.sector - r.start) }

-- each of so many sectors from the first place on reads as its own one from the second place on
abbrev pub RunReadsOn : Facts → Spot → Spot → ℕ → Type 0
RunReadsOn f from at count = (k : ℕ) → k < count → ReadsBelow f from.medium.0 (from.sector + k) (behind at k)

-- these say where the sectors of a run stand, as far as their medium itself says it
abbrev pub IsSaidOf : Facts → Spot → List (Option AddressFact) → Type 0
IsSaidOf f from said = (k : ℕ) → k < length said → option_map (λ a. a.target) (slice_index_or said k None) ≡ address f from.medium.0 (from.sector + k)

-- a sector of a medium reads as where the cursor stands
abbrev pub ReadsAs : Facts → ℕ → ℕ → Cursor → Type 0
ReadsAs f medium sector (At spot) = ReadsBelow f medium sector spot
ReadsAs f medium sector (Settled target) = ReadsAt f medium sector target

-- the cursor is settled, or reads as that place does, which isn't above it
abbrev pub ReadsOn : Facts → Spot → Cursor → Type 0
ReadsOn f place (At spot) = (place.medium.0 ≤ spot.medium.0) × ReadsBelow f spot.medium.0 spot.sector place
ReadsOn f place (Settled target) = ⊤

-- each sector that reads as where the first stands reads as where the second does
abbrev pub Follows : Facts → Cursor → Cursor → Type 0
Follows f was now = (medium sector : ℕ) → ReadsAs f medium sector was → ReadsAs f medium sector now

-- the range over a sector, or none
abbrev pub IsRangeAt : Facts → ℕ → ℕ → Option MediumFact → Type 0
IsRangeAt f medium sector (Some r) = IsOver f medium sector r
IsRangeAt f medium sector None = (r : MediumFact) → ¬ (IsOver f medium sector r)

-- each cursor of the second follows its own of the first
abbrev pub AllFollow : Facts → List Cursor → List Cursor → Type 0
AllFollow f was now = (place : ℕ) → Follows f (cursor_at was place) (cursor_at now place)

-- none has more of its way left
abbrev pub NoneRises : List Cursor → List Cursor → Type 0
NoneRises was now = (place : ℕ) → weight (cursor_at now place) ≤ weight (cursor_at was place)
