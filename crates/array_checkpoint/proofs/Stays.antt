-- What stands on the drives of an open array, once units that its tables leave free were written.
use Rattle.array_checkpoint.proofs.Prelude.{◌≡◌, ◌⊎◌, inl, inr, ℕ, ◌+◌, ◌*◌, ◌/◌, ◌≤◌, ◌<◌, List, refl, sym, ap, arith, Bool, true, false, Option, Some, None, count_by, is_none, slice_index_or, AllByRecursion, Drive, Nv, Geometry, View, drive, segment, Place, SegmentFact, BootRecord, Facts, Device, is_used, BaseStands, TablesStand, ArePlaces, all_facts, places_keep, places_count, bytes_same, in_unit, Keeps, SameUnit, same_units_keep, data_is_used, AreEnough, geometry_of, IsShelf, MayStop, Shelved, WritesOnly, Contents, AreAmong, ContentsStand, read_now, counted_alike, IsMember, Register, drives_of, Content, StandsInLog, in_cut, drives_view}

-- ---- what segments hold

-- what a drive that is shown now showed before
shown_then : Option (List ℕ) → List ℕ → Option (List ℕ)
shown_then None old = None
shown_then (Some bytes) old = Some old

as_many : (o : Option (List ℕ)) (old : List ℕ) → is_none (shown_then o old) ≡ is_none o
unfolding shown_then
as_many None old = refl
as_many (Some bytes) old = refl

-- no byte of a unit that a segment uses is written
abbrev pub SparesUsed : BootRecord → Facts → (Device → ℕ → Type 0) → Type 0
SparesUsed boot f W = (p : Place) → is_used boot f p.slot p.unit ≡ true → (at : ℕ) → at / 65536 ≡ p.unit → W (drive p.slot) at → ⊥

module _ (shelf : Geometry) (start mid : Shelved) (r : Register) (members : View)
    (some : (i : ℕ) → (members (drive i) ≡ None) ⊎ (IsMember (drives_of r) i × (members (drive i) ≡ Some (mid.disk (drive i)).bytes))) where
  was : View
  was (Drive d) = shown_then (members (Drive d)) (start.disk (Drive d)).bytes
  was (Nv n) = None

  was_fewer : (i : ℕ) → (was (drive i) ≡ drives_view start r (drive i)) ⊎ (was (drive i) ≡ None)
  unfolding was shown_then
  was_fewer i = elim (some i) [
    | inl none ↦ inr (rw none refl)
    | inr is ↦
        let m : slice_index_or (drives_of r) i false ≡ true = is.0 in
        let shown : members (drive i) ≡ Some (mid.disk (drive i)).bytes = is.1 in
        inl (rw m (rw shown refl))
  ]

  was_enough : AreEnough shelf members → AreEnough shelf was
  unfolding was
  was_enough few =
      let same = counted_alike (λ i. is_none (shown_then (members (drive i)) (start.disk (drive i)).bytes)) (λ i. is_none (members (drive i))) 0 shelf.slots (λ i. as_many (members (drive i)) (start.disk (drive i)).bytes) in
      omega (arith, same, few)

  -- a unit that a segment uses shows the same
  unit_stays : (boot : BootRecord) (f : Facts) (W : Device → ℕ → Type 0) → WritesOnly W start mid → SparesUsed boot f W → (p : Place) → is_used boot f p.slot p.unit ≡ true → SameUnit was members p
  unfolding was shown_then SameUnit
  unit_stays boot f W writes spares p used n below = elim (some p.slot) [
    | inl none ↦ rw none refl
    | inr is ↦
        let shown : members (drive p.slot) ≡ Some (mid.disk (drive p.slot)).bytes = is.1 in
        rw shown (ap (λ (b : List ℕ). Some b) (bytes_same (start.disk (drive p.slot)).bytes (mid.disk (drive p.slot)).bytes (65536 * p.unit + 4096 * n) 4096 (sym (writes.device (drive p.slot)).size)
        (λ at low high. sym ((writes.device (drive p.slot)).bytes at (spares p used at (in_unit at p.unit n below low high))))))
  ]

  -- each sector that was placed stands on the members as it did on the drives of the record
  pub contents_stay : (boot : BootRecord) (f : Facts) (W : Device → ℕ → Type 0) → AreEnough shelf members → WritesOnly W start mid → SparesUsed boot f W
      → AllByRecursion (λ x. x.segment.0 < boot.next.segment) f.segments
      → ((id : ℕ) (d : SegmentFact) → segment f id ≡ Some d → ArePlaces shelf d.places)
      → (contents : Contents) → ContentsStand contents (drives_view start r) f → ContentsStand contents members f
  unfolding Keeps
  contents_stay boot f W enough writes spares below places contents hold id index d is placed =
      let s = hold id index d is placed in
      let kept = places_keep shelf (drives_view start r) was was_fewer (was_enough enough) d.places (places id d is) in
      let moved = same_units_keep was members d.places (data_is_used boot f (SameUnit was members) below (unit_stays boot f W writes spares) id d is) in
      (s.0, moved (index / 56) s.0 (kept (index / 56) s.0 s.1), s.2)

-- ---- tables

-- what reads give now is what a stop may leave
pub may_stop_now : (s : Shelved) → IsShelf s → s.honest → MayStop s (read_now s)
may_stop_now s is honest = record {
  device = λ d. record { size = refl; is_byte = λ i. is.bytes honest d i; clean = λ i out. refl };
  counts = record { faults = λ d. omega arith; write_faults = λ d. omega arith };
  output = refl;
  taken = refl;
}

-- the old tables stand on enough of the drives that are left, and hold the base
pub tables_hold : (mid : Shelved) (r : Register) (nvrams : List Bool) (held : Content) → IsShelf mid → mid.honest → StandsInLog mid r nvrams held
    → (members : View) → AreAmong (drives_of r) (λ d. (mid.disk d).bytes) members → AreEnough (geometry_of mid) members
    → TablesStand (geometry_of mid) members r.record held.patches × BaseStands members (all_facts held.patches) r.record.next.object held.base
tables_hold mid r nvrams held is honest stands members among enough =
    (stands.tables (read_now mid) (may_stop_now mid is honest)).each members (λ i. elim (among i) [
      | inl none ↦ inl none
      | inr shown ↦ inr (stands.is_of.named i (in_cut r.drives r.record.slots i shown.0), stands.bodies i shown.0, shown.1)
    ]) enough

-- ---- few drives are missing

-- at most two of nine units are on drives that are missing, where no more are of the shelf
pub few_missing : (shelf : Geometry) (members : View) (places : List Place) → ArePlaces shelf places → AreEnough shelf members → count_by (λ place. is_none (members (drive place.slot))) places ≤ 2
few_missing shelf members places lawful enough =
    let few = places_count shelf.slots shelf.units (λ i. is_none (members (drive i))) places 0 shelf.slots (omega arith) lawful.ascending in
    omega (arith, few, enough)
