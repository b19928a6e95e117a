-- What stands on the drives that aren't lost, once unused units were written.
use Rattle.array_checkpoint.proofs.Prelude.{◌≡◌, inl, inr, ℕ, ◌<◌, List, refl, sym, subst, Bool, AllByRecursion, Image, View, Place, SegmentFact, AnyFact, AreEnough, ArePlaces, BaseStands, TablesStand, all_facts, Shelved, IsShelf, geometry_of, Contents, Runs, facts, patches, AreAmong, ContentsStand, AreUnitsToTake, shelf_of, IsDrive, IsMember, Register, Content, drives_of, is_in, bytes_of, place_of, ShowsMost, Array, SegmentsHold, WritesFree, IsArrayOf, IsReady, OnUnused}
use Rattle.array_core.proofs.Keeping.{unnamed}
use Rattle.array_core.proofs.Kept.{free_writes_leave}
use Rattle.array_checkpoint.proofs.FreeUnits.{spares_used}
use Rattle.array_checkpoint.proofs.PreparedLemmas.{same_shelf}
use Rattle.array_checkpoint.proofs.Stays.{contents_stay, few_missing, tables_hold}
use Rattle.register.proofs.Rounds.{same_shelf as shelf_stays}

-- drives of the record that aren't lost
abbrev pub AreLeft : Register → List Bool → List Bool → Type 0
AreLeft r lost left = (i : ℕ) → IsMember left i → IsMember (drives_of r) i × ¬ (IsMember lost i)

-- members among them are among the drives of the record
among_record : (r : Register) (image : Image) (lost left : List Bool) → AreLeft r lost left → (members : View) → AreAmong left image members → AreAmong (drives_of r) image members
among_record r image lost left fewer members among i = elim (among i) [
  | inl none ↦ inl none
  | inr shown ↦ inr ((fewer i shown.0).0, shown.1)
]

-- the size of the shelf is the record's
pub own_size : (shelf : Shelved) (x : Array) → IsArrayOf (geometry_of shelf) x → geometry_of shelf ≡ shelf_of x.register.record
own_size shelf x of = sym (same_shelf (geometry_of shelf) x of)

module _ (a b : Shelved) (x : Array) (of : IsArrayOf (geometry_of a) x) (run : Runs IsDrive (OnUnused x) a b) (lost left : List Bool) (fewer : AreLeft x.register lost left)
    (members : View) (among : AreAmong left (bytes_of b) members) (enough : AreEnough (geometry_of b) members) where
  enough_before : AreEnough (geometry_of a) members
  enough_before = subst (λ g. AreEnough g members) (sym (shelf_stays run.continues)) enough

  of_record : AreAmong (drives_of x.register) (bytes_of b) members
  of_record = among_record x.register (bytes_of b) lost left fewer members among

  -- of units that were taken they show all but two at most, and none that is lost
  pub shown : (places : List Place) → AreUnitsToTake x.register.record (facts x.memory.memory.tables) places → ShowsMost (bytes_of b) places lost members
  shown places take = record {
    each = λ shard less. elim (among (place_of places shard).slot) [
      | inl none ↦ inl none
      | inr is ↦ inr (is.1, unnamed (is_in lost (place_of places shard).slot) (fewer (place_of places shard).slot is.0).1)
    ];
    missing = few_missing (geometry_of a) members places (subst (λ g. ArePlaces g places) (sym (own_size a x of)) take.lawful) enough_before;
  }

  -- what segments held stands still
  pub still_held : a.honest → (contents : Contents) → SegmentsHold contents a x.register (facts x.memory.memory.tables) → ContentsStand contents members (facts x.memory.memory.tables)
  still_held honest contents hold =
      contents_stay (geometry_of a) a b x.register members of_record x.register.record (facts x.memory.memory.tables) (OnUnused x) enough_before (run.writes honest) (spares_used x)
      (subst (λ n. AllByRecursion (λ (f : SegmentFact). f.segment.0 < n) (facts x.memory.memory.tables).segments) of.segment_ids of.sound.ids.segments) of.segments.places contents hold

  -- and so do the tables of the record, with the base
  pub old_tables : IsShelf a → IsShelf b → a.honest → (held : Content) → IsReady a x held → WritesFree x.register held a b
      → TablesStand (geometry_of b) members x.register.record (patches x.memory.memory.tables) × BaseStands members (all_facts (patches x.memory.memory.tables)) x.register.record.next.object held.base
  old_tables is is_b honest held ready free =
      subst (λ (ps : List (List AnyFact)). TablesStand (geometry_of b) members x.register.record ps × BaseStands members (all_facts ps) x.register.record.next.object held.base) ready.patches_are
      (tables_hold b x.register x.log.members held is_b (run.continues.honest honest) (free_writes_leave a b is honest x.register x.register x.log.members held ready.is_open free refl (λ i m. m)) members of_record enough)
