-- What a checkpoint makes of the tables, told by the facts of patches: which mediums and data segments it elides, what its new ones hold, and what its new patches add.
use Rattle.std.specs.Prelude.{◌≡◌, ◌≢◌, ◌⊎◌, ◌↔◌, ℕ, ◌+◌, ◌<◌, ◌≤◌, false, IsTrue, List, [], ◌∷◌, ◌++◌, length, Some, None, IsSome, Contains, AllPairs}
use Rattle.std.specs.Int.{div_ceil}
use Rattle.memory_spec.specs.Prelude.{Facts, address_key, address, segment, is_elided, NextNumbers, SEGMENT_SECTORS, FACTS_PER_SEGMENT, Location, Stored, AddressFact, SegmentFact, Table, Patch, of_table, IsReached}
use Rattle.pur_base.specs.declared.request.Table.TheVariants as table
use Rattle.session_spec.specs.declared.limits.TheConstants.{ELIDED_MEDIUMS, ELIDED_SEGMENTS}

-- ---- mediums that are elided

-- Of the mediums whose ids were given before, those of the lowest ids that no object reaches are elided, by their ranges and by their addresses, and all of them where they are fewer than one checkpoint may elide.
-- No others are.
pub record ElidesUnreached (old new : Facts) (next : NextNumbers) (mediums : List ℕ) : Type 0 where
  pub ascending : AllPairs (λ i j. i < j) mediums
  pub few : length mediums ≤ ELIDED_MEDIUMS
  pub unreached : (id : ℕ) → Contains mediums id → ¬ (IsReached new next.object id)
  pub ranges : (id : ℕ) → IsTrue (is_elided new.elisions table.Medium id) ↔ (IsTrue (is_elided old.elisions table.Medium id) ⊎ Contains mediums id)
  pub addresses : (id : ℕ) → IsTrue (is_elided new.elisions table.Address id) ↔ (IsTrue (is_elided old.elisions table.Address id) ⊎ Contains mediums id)
  -- what is left that could be elided has higher ids than those, which are as many as may be
  pub lowest : (id : ℕ) → 1 ≤ id → id < next.medium → is_elided new.elisions table.Medium id ≡ false → ¬ (IsReached new next.object id) → (length mediums ≡ ELIDED_MEDIUMS) × ((i : ℕ) → Contains mediums i → i < id)

-- ---- data segments that are elided

-- no visible address names a sector of the segment
abbrev pub IsUnnamed : Facts → ℕ → Type 0
IsUnnamed facts id = (medium sector : ℕ) (at : Location) → address facts medium sector ≡ Some (Stored at) → at.segment.0 ≢ id

-- Of the visible segments whose ids were given before, those of the lowest ids that no address names any more are gone, and all of them where they are fewer than one checkpoint may elide.
-- Each other one is as it was, and what was gone stays so. Where the new facts are sound, no address names one that is gone.
pub record ElidesUnnamed (old new : Facts) (next : ℕ) (elided : List ℕ) : Type 0 where
  pub ascending : AllPairs (λ i j. i < j) elided
  pub few : length elided ≤ ELIDED_SEGMENTS
  pub visible : (id : ℕ) → Contains elided id → IsSome (segment old id)
  pub gone : (id : ℕ) → Contains elided id → segment new id ≡ None
  pub others : (id : ℕ) → id < next → ¬ (Contains elided id) → segment new id ≡ segment old id
  -- what is left that could be elided has higher ids than those, which are as many as may be
  pub lowest : (id : ℕ) → id < next → IsSome (segment new id) → IsUnnamed new id → (length elided ≡ ELIDED_SEGMENTS) × ((i : ℕ) → Contains elided i → i < id)

-- ---- data segments that are new

-- the newest fact of an address names the sector
pub record HasAddress (facts : Facts) (at : Location) : Type 0 where
  pub fact : AddressFact
  pub there : Contains facts.addresses fact
  pub names : fact.target ≡ Stored at
  pub newest : (f : AddressFact) → Contains facts.addresses f → address_key f ≡ address_key fact → f.seq.0 ≤ fact.seq.0

-- So many segments from an id on are visible. Each holds sectors, and an address of its own names each of these; each but the last is full.
pub record HoldAddressed (facts : Facts) (first count : ℕ) : Type 0 where
  pub some : (i : ℕ) → i < count → (d : SegmentFact) × (segment facts (first + i) ≡ Some d) × (1 ≤ d.placed)
  pub full : (i : ℕ) (d : SegmentFact) → i + 1 < count → segment facts (first + i) ≡ Some d → d.placed ≡ SEGMENT_SECTORS
  pub named : (i index : ℕ) (d : SegmentFact) → i < count → segment facts (first + i) ≡ Some d → index < d.placed → HasAddress facts (record { segment = record { 0 = first + i }; index = index })

-- ---- new patches

-- as many segments as its facts fill, and some
pub record IsFilled (p : Patch) : Type 0 where
  pub some : 1 ≤ p.facts
  pub segments : length p.segments ≡ div_ceil p.facts FACTS_PER_SEGMENT

-- each table has the patches that it had, and behind them one more at most
abbrev pub HaveOneMore : List Patch → List Patch → Type 0
HaveOneMore old new = (t : Table) → (of_table t new ≡ of_table t old) ⊎ ((p : Patch) × (of_table t new ≡ of_table t old ++ p ∷ []) × IsFilled p)

-- the one list begins with the other
abbrev pub GoesOn : {F : Type 0} → List F → List F → Type 0
GoesOn {F} old new = (more : List F) × (new ≡ old ++ more)

-- each table has the facts that it had, in their order, and others behind them
pub record FactsGoOn (old new : Facts) : Type 0 where
  pub objects : GoesOn old.objects new.objects
  pub mediums : GoesOn old.mediums new.mediums
  pub addresses : GoesOn old.addresses new.addresses
  pub segments : GoesOn old.segments new.segments
  pub elisions : GoesOn old.elisions new.elisions
