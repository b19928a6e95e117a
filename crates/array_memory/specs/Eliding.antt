-- Which mediums and segments a checkpoint elides, and what is elided then.
use Rattle.std.specs.Prelude.{◌≡◌, ◌≢◌, ◌⊎◌, ℕ, ◌+◌, ◌*◌, ◌<◌, ◌≤◌, false, List, length, Contains, AllPairs}
use Rattle.memory_spec.specs.Prelude.{Facts, is_elided, AreElidedRanges, Table, Memory, IsSound, facts as all_facts, IsReached}
use Rattle.pur_base.specs.declared.request.Table.TheVariants as table
use Rattle.elision.specs.Ranges.{ranges_of}
use Rattle.medium_table.specs.Prelude.{AreLowestUnreached}
use Rattle.table_plan.specs.Prelude.{IsUnused, AreElidedToo, AreElisionsOf, IsElidedBy, eliding, items_of}
use Rattle.command_spec.specs.declared.limits.TheConstants.{ELIDED_MEDIUMS, ELIDED_SEGMENTS, LOG_ROOM}
use Rattle.array_memory.specs.declared.plan.Eliding.{Eliding}
use Rattle.command_spec.specs.Prelude.{Kept}

-- ---- which

-- the mediums of the lowest ids that no object reaches and whose ranges aren't elided, and all of them where they are fewer than may be elided
abbrev pub AreLowestUnreachedOf : Memory → List ℕ → Type 0
AreLowestUnreachedOf m ids = AreLowestUnreached (is_elided (all_facts m.tables).elisions table.Medium) (IsReached (all_facts m.tables) m.next.object) m.next.medium ELIDED_MEDIUMS ids

-- the segments of the lowest ids that are visible and that afterwards no address names, and all of them where they are fewer than may be elided
pub record AreLowestUnused (was now : Facts) (ids : List ℕ) : Type 0 where
  pub ascending : AllPairs (λ i j. i < j) ids
  pub few : length ids ≤ ELIDED_SEGMENTS
  pub each : (id : ℕ) → Contains ids id → IsUnused was now id
  pub others : (id : ℕ) → IsUnused was now id → Contains ids id ⊎ ((length ids ≡ ELIDED_SEGMENTS) × ((i : ℕ) → Contains ids i → i < id))

-- ---- how

-- Memory once they are elided, which no code makes: a plan is one of this memory.
abbrev pub eliding_by : Memory → Eliding → Memory
eliding_by m e = eliding m e.facts.items

-- Each is elided by a fact of its own, a medium by one for its ranges and one for its addresses, with the next numbers.
-- These are the elided ids of each table then, with room for those of a whole log.
pub record IsElidingOf (k : Kept) (e : Eliding) : Type 0 where
  pub unreached : AreLowestUnreachedOf k.memory e.mediums.items
  pub unused : AreLowestUnused (all_facts k.memory.tables) (all_facts (eliding_by k.memory e).tables) e.segments.items
  pub made : AreElisionsOf (IsElidedBy (all_facts k.memory.tables)) k.memory.next.sequence (items_of e.mediums.items e.segments.items) e.facts.items
  pub elided : (t : Table) → t ≢ table.Elision → AreElidedRanges (all_facts (eliding_by k.memory e).tables).elisions t (ranges_of e.elided t)
  pub room : LOG_ROOM.ranges ≤ e.elided.object_room

-- ---- what that leaves

-- These mediums and segments are elided and no others. A medium that still might be, since no object reaches it then, lies behind them all, and they are as many as may be;
-- so does a segment that is visible then and that no address names.
pub record HasElided (was now : Memory) (mediums segments : List ℕ) : Type 0 where
  pub too : AreElidedToo (all_facts was.tables) (all_facts now.tables) mediums segments
  pub mediums_left : (id : ℕ) → 1 ≤ id → id < now.next.medium → is_elided (all_facts now.tables).elisions table.Medium id ≡ false → ¬ (IsReached (all_facts now.tables) now.next.object id)
      → (length mediums ≡ ELIDED_MEDIUMS) × ((i : ℕ) → Contains mediums i → i < id)
  pub segments_left : (id : ℕ) → IsUnused (all_facts now.tables) (all_facts now.tables) id → (length segments ≡ ELIDED_SEGMENTS) × ((i : ℕ) → Contains segments i → i < id)

-- So it is with what a checkpoint elides, by as many facts.
abbrev pub ElidingLeaves : Type 0
ElidingLeaves = (k : Kept) (e : Eliding) → IsSound k.memory → IsElidingOf k e
    → HasElided k.memory (eliding_by k.memory e) e.mediums.items e.segments.items × (length e.facts.items ≡ 2 * length e.mediums.items + length e.segments.items)
