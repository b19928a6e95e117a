-- Facts that a command adds, and what the tables then say.
use Rattle.std.specs.Prelude.{◌≡◌, ◌≢◌, ◌⊎◌, ◌↔◌, ℕ, ◌+◌, ◌-◌, ◌<◌, ◌≤◌, false, List, [], ◌∷◌, ◌++◌, length, replicate, Option, Some, None, Contains, slice_get, ◌==◌, ◌&&◌, nat_le, nat_lt, if◌then◌else◌}
use Rattle.std.specs.List.{AllZip}
use Rattle.array_spec.specs.Prelude.{Array, replaced, appended, filled, OBJECT_SECTORS, Facts, objects, object, range, address, Target, Volume, ObjectFact, MediumFact, AddressFact}
use Rattle.pyramid.specs.Prelude.{facts_in}
use Rattle.memory_spec.specs.Memory.{Memory, Contents, TargetReads, FactsRead}

-- ---- addresses of a span of a medium

-- one fact for each target, from a sector of the medium and a number on
abbrev pub address_facts : ℕ → ℕ → ℕ → List Target → List AddressFact
address_facts medium sector number [] = []
address_facts medium sector number (t ∷ ts) =
    record { medium = record { 0 = medium }; sector = sector; target = t; seq = record { 0 = number } } ∷ address_facts medium (sector + 1) (number + 1) ts

-- what is said of an address once the span has these targets
abbrev pub overlaid : ℕ → ℕ → List Target → (ℕ → ℕ → Option Target) → ℕ → ℕ → Option Target
overlaid medium lba targets before m x =
    if (m == medium) && (nat_le lba x && nat_lt x (lba + length targets)) then slice_get targets (x - lba) else before m x

-- the tables say the same but for that, at each sector that an object may have
pub record IsOverlaid (old new : Facts) (medium lba : ℕ) (targets : List Target) : Type 0 where
  pub addresses : (m x : ℕ) → x < OBJECT_SECTORS → address new m x ≡ overlaid medium lba targets (address old) m x
  pub ranges : (m start : ℕ) → range new m start ≡ range old m start
  pub objects : (id : ℕ) → object new id ≡ object old id

-- the medium is that of the one object of this name, which has these sectors, and of no other, and no range leads to it
pub record IsOwnMedium (f : Facts) (next : ℕ) (name : List ℕ) (medium lba count : ℕ) : Type 0 where
  pub owner : ObjectFact
  pub there : Contains (objects f next) owner
  pub named : owner.name ≡ name
  pub its : owner.medium.0 ≡ medium
  pub fits : lba + count ≤ owner.sectors
  pub one_name : (x : ObjectFact) → Contains (objects f next) x → x.name ≡ name → x ≡ owner
  pub alone : (x : ObjectFact) → Contains (objects f next) x → x.medium.0 ≡ medium → x ≡ owner
  pub frozen : (m start : ℕ) (r : MediumFact) → range f m start ≡ Some r → r.target.0 ≢ medium

-- what is read lies within the greatest size: the sectors of each object, and those that a range leads to
pub record AreWithinSize (f : Facts) (next : ℕ) : Type 0 where
  pub objects : (x : ObjectFact) → Contains (objects f next) x → x.sectors ≤ OBJECT_SECTORS
  pub ranges : (m start : ℕ) (r : MediumFact) → range f m start ≡ Some r → r.target_start + (r.end - r.start) ≤ OBJECT_SECTORS

-- With the targets of these sectors in the span, and more sectors staged, the tables read as the array with those sectors in the span.
abbrev pub OverwriteReads : Type 0
OverwriteReads = (contents : Contents) (staged more : List (List ℕ)) (old new : Facts) (next : ℕ) (name : List ℕ) (medium lba : ℕ) (targets : List Target) (sectors : List (List ℕ)) (array : Array)
    → IsOwnMedium old next name medium lba (length sectors)
    → AreWithinSize old next
    → AllZip (TargetReads contents (staged ++ more)) targets sectors
    → IsOverlaid old new medium lba targets
    → FactsRead contents staged old next array
    → FactsRead contents (staged ++ more) new next (replaced array name lba sectors)

-- ---- a new volume

-- an object and a medium that no fact speaks of
pub record AreNew (f : Facts) (id medium : ℕ) : Type 0 where
  pub no_object : object f id ≡ None
  pub no_address : (x : ℕ) → address f medium x ≡ None
  pub no_range : (start : ℕ) → range f medium start ≡ None

-- the tables say the same, and that one object more
pub record IsCreated (old new : Facts) (x : ObjectFact) : Type 0 where
  pub objects : (id : ℕ) → object new id ≡ (if id == x.object.0 then Some x else object old id)
  pub ranges : (m start : ℕ) → range new m start ≡ range old m start
  pub addresses : (m sector : ℕ) → address new m sector ≡ address old m sector

-- they then read as the array with one more volume, of zeros
abbrev pub CreateReads : Type 0
CreateReads = (contents : Contents) (staged : List (List ℕ)) (old new : Facts) (x : ObjectFact) (array : Array)
    → AreNew old x.object.0 x.medium.0 → x.kind ≡ Volume → IsCreated old new x
    → FactsRead contents staged old x.object.0 array
    → FactsRead contents staged new (x.object.0 + 1) (appended array x.name false (replicate x.sectors (filled 0)))

-- ---- the same reading

-- two lists of facts say the same at each key
pub record SayTheSame (old new : Facts) : Type 0 where
  pub objects : (id : ℕ) → object new id ≡ object old id
  pub ranges : (m start : ℕ) → range new m start ≡ range old m start
  pub addresses : (m x : ℕ) → address new m x ≡ address old m x

-- then they read as the same array: so a merge and a flush change no reading
abbrev pub SameReads : Type 0
SameReads = (contents : Contents) (staged : List (List ℕ)) (old new : Facts) (next : ℕ) (array : Array)
    → SayTheSame old new → FactsRead contents staged old next array → FactsRead contents staged new next array

-- Addresses that name other places with the same sectors read the same: a sector that was moved, one that a checkpoint places, and one that is found by its hint.
pub record AreMoved (contents contents2 : Contents) (staged staged2 : List (List ℕ)) (old new : Facts) : Type 0 where
  pub none : (m x : ℕ) → address old m x ≡ None → address new m x ≡ None
  pub some : (m x : ℕ) (t : Target) → address old m x ≡ Some t
      → (t2 : Target) × (address new m x ≡ Some t2) × ((body : List ℕ) → TargetReads contents staged t body → TargetReads contents2 staged2 t2 body)
  pub ranges : (m start : ℕ) → range new m start ≡ range old m start
  pub objects : (id : ℕ) → object new id ≡ object old id

abbrev pub MovedReads : Type 0
MovedReads = (contents contents2 : Contents) (staged staged2 : List (List ℕ)) (old new : Facts) (next : ℕ) (array : Array)
    → AreMoved contents contents2 staged staged2 old new → FactsRead contents staged old next array → FactsRead contents2 staged2 new next array

-- ---- what a command leaves in memory

-- These addresses were added, and so many sectors staged. The order of facts that aren't flushed isn't told.
pub record HasPut (was now : Memory) (run : List AddressFact) (more : List (List ℕ)) : Type 0 where
  pub objects : facts_in now.tables.objects ≡ facts_in was.tables.objects
  pub mediums : facts_in now.tables.mediums ≡ facts_in was.tables.mediums
  pub segments : facts_in now.tables.segments ≡ facts_in was.tables.segments
  pub elisions : facts_in now.tables.elisions ≡ facts_in was.tables.elisions
  pub addresses : (f : AddressFact) → Contains (facts_in now.tables.addresses) f ↔ (Contains (facts_in was.tables.addresses) f ⊎ Contains run f)
  pub staged : now.staged ≡ was.staged ++ more
  pub next : now.next ≡ record was.next { sequence = was.next.sequence + length run }

-- this object was added
pub record HasCreated (was now : Memory) (x : ObjectFact) : Type 0 where
  pub objects : (f : ObjectFact) → Contains (facts_in now.tables.objects) f ↔ (Contains (facts_in was.tables.objects) f ⊎ (f ≡ x))
  pub mediums : facts_in now.tables.mediums ≡ facts_in was.tables.mediums
  pub addresses : facts_in now.tables.addresses ≡ facts_in was.tables.addresses
  pub segments : facts_in now.tables.segments ≡ facts_in was.tables.segments
  pub elisions : facts_in now.tables.elisions ≡ facts_in was.tables.elisions
  pub staged : now.staged ≡ was.staged
  pub next : now.next ≡ record was.next { object = was.next.object + 1; medium = was.next.medium + 1; sequence = was.next.sequence + 1 }
