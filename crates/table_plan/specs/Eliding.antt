-- What eliding mediums that no object reaches, and segments that no address names, makes of memory: a fact for each of their ids, behind the unflushed ones.
use Rattle.std.specs.Prelude.{◌≡◌, ◌≢◌, ◌⊎◌, ◌↔◌, ℕ, ◌+◌, ◌*◌, ◌<◌, ◌≤◌, IsTrue, List, [], ◌∷◌, ◌++◌, length, map, Some, Contains}
use Rattle.std.specs.List.{flat_map}
use Rattle.memory_spec.specs.Prelude.{Facts, address, segment, is_elided, Table, Location, Stored, SegmentFact, ElisionFact, NUMBER_LIMIT, facts, Memory, IsSound, IsElisionOf, IsEliding, IsReached}
use Rattle.pur_base.specs.declared.request.Table.TheVariants as table

-- ---- which segments

-- the segment of the id is visible, and afterwards no visible address names one of its sectors
pub record IsUnused (was now : Facts) (id : ℕ) : Type 0 where
  pub fact : SegmentFact
  pub visible : segment was id ≡ Some fact
  pub unnamed : (medium sector : ℕ) (at : Location) → address now medium sector ≡ Some (Stored at) → at.segment.0 ≢ id

-- ---- ids of tables

-- the items of mediums: of each its ranges and then its addresses
abbrev pub medium_items : List ℕ → List (Table × ℕ)
medium_items ids = flat_map (λ id. (table.Medium, id) ∷ (table.Address, id) ∷ []) ids

-- the items of segments
abbrev pub segment_items : List ℕ → List (Table × ℕ)
segment_items ids = map (λ id. (table.Segment, id)) ids

-- the items of mediums, and behind them those of segments
abbrev pub items_of : List ℕ → List ℕ → List (Table × ℕ)
items_of mediums segments = medium_items mediums ++ segment_items segments

-- what is elided where that item is too
abbrev pub with_item : (Table → ℕ → Type 0) → Table × ℕ → Table → ℕ → Type 0
with_item IsElided item t i = IsElided t i ⊎ ((t ≡ item.0) × (i ≡ item.1))

-- ---- their facts

-- The elisions of several items where ids of some are elided: to each the items before it are elided too, and numbers rise by one.
abbrev pub AreElisionsOf : (Table → ℕ → Type 0) → ℕ → List (Table × ℕ) → List ElisionFact → Type 0
AreElisionsOf IsElided number [] [] = Unit {0}
AreElisionsOf IsElided number [] (f ∷ fs) = ⊥
AreElisionsOf IsElided number (item ∷ items) [] = ⊥
AreElisionsOf IsElided number (item ∷ items) (f ∷ fs) = IsElisionOf item.0 (IsElided item.0) number item.1 f × AreElisionsOf (with_item IsElided item) (number + 1) items fs

-- the facts elide that id of the table
abbrev pub IsElidedBy : Facts → Table → ℕ → Type 0
IsElidedBy facts t id = IsTrue (is_elided facts.elisions t id)

-- ---- memory

-- memory with these elisions behind the unflushed ones, and its next number behind theirs
abbrev pub eliding : Memory → List ElisionFact → Memory
eliding m added = record m {
  tables = record m.tables { elisions = record m.tables.elisions { unflushed = m.tables.elisions.unflushed ++ added } };
  next = record m.next { sequence = m.next.sequence + length added };
}

-- what is elided then is what was, and in both tables these mediums, and these segments
pub record AreElidedToo (was now : Facts) (medium_ids segment_ids : List ℕ) : Type 0 where
  pub objects : (id : ℕ) → is_elided now.elisions table.Object id ≡ is_elided was.elisions table.Object id
  pub mediums : (id : ℕ) → IsElidedBy now table.Medium id ↔ (IsElidedBy was table.Medium id ⊎ Contains medium_ids id)
  pub addresses : (id : ℕ) → IsElidedBy now table.Address id ↔ (IsElidedBy was table.Address id ⊎ Contains medium_ids id)
  pub segments : (id : ℕ) → IsElidedBy now table.Segment id ↔ (IsElidedBy was table.Segment id ⊎ Contains segment_ids id)

-- Mediums that were given and that no object reaches may be elided so, and so may segments that are unused then.
abbrev pub ItemsMayBeElided : Type 0
ItemsMayBeElided = (m : Memory) (mediums segments : List ℕ) (added : List ElisionFact)
    → IsSound m → ((id : ℕ) → Contains mediums id → (1 ≤ id) × (id < m.next.medium) × ¬ (IsReached (facts m.tables) m.next.object id))
    → ((id : ℕ) → Contains segments id → IsUnused (facts m.tables) (facts (eliding m added).tables) id)
    → AreElisionsOf (IsElidedBy (facts m.tables)) m.next.sequence (items_of mediums segments) added → m.next.sequence + length added < NUMBER_LIMIT
    → IsEliding m (eliding m added) added

-- These and no others are elided then, by as many facts.
abbrev pub ItemsAreElided : Type 0
ItemsAreElided = (m : Memory) (mediums segments : List ℕ) (added : List ElisionFact)
    → AreElisionsOf (IsElidedBy (facts m.tables)) m.next.sequence (items_of mediums segments) added
    → AreElidedToo (facts m.tables) (facts (eliding m added).tables) mediums segments × (length added ≡ 2 * length mediums + length segments)
