-- What a snapshot, a clone and a copy add to the tables of an array: objects that are new or move to new mediums, and ranges of these mediums.
-- A volume whose medium is to be read through other mediums moves to a new one, which leads to it whole: so no volume writes what others read.
use Rattle.std.specs.Prelude.{◌≡◌, ◌≢◌, ◌⊎◌, ◌↔◌, ℕ, ◌+◌, ◌<◌, Bool, not, nat_lt, ◌&&◌, ◌==◌, if◌then◌else◌, bytes_eq, List, [], ◌∷◌, ◌++◌, Some, Contains}
use Rattle.array_spec.specs.Prelude.{Facts, object, range, address, OBJECT_SECTORS, ObjectKind, Volume, Snapshot, ObjectFact, MediumFact, NextNumbers, is_snapshot}
use Rattle.pyramid.specs.Prelude.{facts_in}
use Rattle.memory_spec.specs.Prelude.{ranges_beside, Memory}

-- ---- facts

-- the object on another medium, by the fact of a number
abbrev pub moved : ObjectFact → ℕ → ℕ → ObjectFact
moved x medium number = record x { medium = record { 0 = medium }; seq = record { 0 = number } }

-- an object of the next id that is as large as another one
abbrev pub derived : NextNumbers → ObjectFact → ObjectKind → List ℕ → ℕ → ℕ → ObjectFact
derived next x kind name medium number = record {
  object = record { 0 = next.object };
  kind = kind;
  sectors = x.sectors;
  medium = record { 0 = medium };
  name = name;
  seq = record { 0 = number };
}

-- the sectors of a medium from a start up to an end lead to those of a target from a start on
abbrev pub leading : ℕ → ℕ → ℕ → ℕ → ℕ → ℕ → MediumFact
leading medium start end target target_start number = record {
  medium = record { 0 = medium };
  start = start;
  end = end;
  target = record { 0 = target };
  target_start = target_start;
  seq = record { 0 = number };
}

-- a medium leads to all of the object's
abbrev pub whole : ℕ → ObjectFact → ℕ → MediumFact
whole medium x number = leading medium 0 x.sectors x.medium.0 0 number

-- ---- what each command adds

-- the facts, and the numbers that are given next behind them
pub record Derived : Type 0 where
  pub objects : List ObjectFact
  pub ranges : List MediumFact
  pub next : NextNumbers

-- a snapshot of the object under a new name: it has the medium that the object had
abbrev pub snapshot_of : NextNumbers → ObjectFact → List ℕ → Derived
snapshot_of next x name =
    if is_snapshot x.kind then record {
      objects = derived next x Snapshot name x.medium.0 next.sequence ∷ [];
      ranges = [];
      next = record next { object = next.object + 1; sequence = next.sequence + 1 };
    } else record {
      objects = derived next x Snapshot name x.medium.0 next.sequence ∷ moved x next.medium (next.sequence + 1) ∷ [];
      ranges = whole next.medium x (next.sequence + 2) ∷ [];
      next = record next { object = next.object + 1; medium = next.medium + 1; sequence = next.sequence + 3 };
    }

-- a volume under a new name, whose medium leads to the one that the object had
abbrev pub clone_of : NextNumbers → ObjectFact → List ℕ → Derived
clone_of next x name =
    if is_snapshot x.kind then record {
      objects = derived next x Volume name next.medium next.sequence ∷ [];
      ranges = whole next.medium x (next.sequence + 1) ∷ [];
      next = record next { object = next.object + 1; medium = next.medium + 1; sequence = next.sequence + 2 };
    } else record {
      objects = moved x next.medium next.sequence ∷ derived next x Volume name (next.medium + 1) (next.sequence + 2) ∷ [];
      ranges = whole next.medium x (next.sequence + 1) ∷ whole (next.medium + 1) x (next.sequence + 3) ∷ [];
      next = record next { object = next.object + 1; medium = next.medium + 2; sequence = next.sequence + 4 };
    }

-- a medium leads to all of a volume's, but for the sectors from a place on that lead to those of an object; with numbers from one on
abbrev pub around : ℕ → ℕ → ObjectFact → ℕ → ObjectFact → ℕ → ℕ → List MediumFact
around medium number x lba y to count =
    let behind = number + (if to == 0 then 0 else 1) in
    (if to == 0 then [] else leading medium 0 to y.medium.0 0 number ∷ [])
    ++ (leading medium to (to + count) x.medium.0 lba behind ∷ [])
    ++ (if nat_lt (to + count) y.sectors then leading medium (to + count) y.sectors y.medium.0 (to + count) (behind + 1) ∷ [] else [])

-- whether the object that is copied from moves as well: a volume, and not the one that is copied to
abbrev pub moves_both : ObjectFact → ObjectFact → Bool
moves_both x y = not (is_snapshot x.kind) && not (bytes_eq x.name y.name)

-- so many sectors of the object from a place on, copied into a volume
abbrev pub copy_of : NextNumbers → ObjectFact → ℕ → ObjectFact → ℕ → ℕ → Derived
copy_of next x lba y to count =
    let numbers = 1 + ranges_beside y.sectors to count in
    if moves_both x y then record {
      objects = moved x next.medium next.sequence ∷ moved y (next.medium + 1) (next.sequence + 2) ∷ [];
      ranges = whole next.medium x (next.sequence + 1) ∷ around (next.medium + 1) (next.sequence + 3) x lba y to count;
      next = record next { medium = next.medium + 2; sequence = next.sequence + (2 + numbers) };
    } else record {
      objects = moved y next.medium next.sequence ∷ [];
      ranges = around next.medium (next.sequence + 1) x lba y to count;
      next = record next { medium = next.medium + 1; sequence = next.sequence + numbers };
    }

-- ---- what that makes of memory

-- These facts were added. The order of facts that aren't flushed isn't told.
pub record HasDerived (was now : Memory) (d : Derived) : Type 0 where
  pub objects : (f : ObjectFact) → Contains (facts_in now.tables.objects) f ↔ (Contains (facts_in was.tables.objects) f ⊎ Contains d.objects f)
  pub mediums : (f : MediumFact) → Contains (facts_in now.tables.mediums) f ↔ (Contains (facts_in was.tables.mediums) f ⊎ Contains d.ranges f)
  pub addresses : facts_in now.tables.addresses ≡ facts_in was.tables.addresses
  pub segments : facts_in now.tables.segments ≡ facts_in was.tables.segments
  pub elisions : facts_in now.tables.elisions ≡ facts_in was.tables.elisions
  pub staged : now.staged ≡ was.staged
  pub next : now.next ≡ d.next

-- the tables then say these, and of all other ids and mediums what they said
pub record IsDerived (old new : Facts) (d : Derived) : Type 0 where
  pub given : (x : ObjectFact) → Contains d.objects x → object new x.object.0 ≡ Some x
  pub kept : (id : ℕ) → ((x : ObjectFact) → Contains d.objects x → x.object.0 ≢ id) → object new id ≡ object old id
  pub range_given : (r : MediumFact) → Contains d.ranges r → range new r.medium.0 r.start ≡ Some r
  pub range_kept : (m start : ℕ) → start < OBJECT_SECTORS → ((r : MediumFact) → Contains d.ranges r → r.medium.0 ≢ m) → range new m start ≡ range old m start
  pub range_of : (m start : ℕ) (r : MediumFact) → range new m start ≡ Some r → Contains d.ranges r ⊎ (range old m start ≡ Some r)
  pub addresses : (m x : ℕ) → address new m x ≡ address old m x
