-- What segments hold on the drives that are left, once other tables were stored.
use Rattle.array_core.proofs.Prelude.{nat_tests, ◌≡◌, inl, inr, ℕ, ◌+◌, ◌≤◌, List, length, ◌∙◌, arith, Bool, Some, is_none, count_by, slice_index_or, Geometry, slots_of, drive, Device, Facts, segment, SegmentFact, set_count, ArePlaces, AreEnough, geometry_of, Shelved, Runs, Contents, AreAmong, IsMember, Register, drives_of, LeavesFewer, SegmentsHold, drives_view, HoldOnLeft, OnSlotsAndLog}
use Rattle.array_core.proofs.Segments.{AreKept, drives_left, few_bad, hold_kept, off_slots}
use Rattle.array_core.proofs.Stages.{left_among, later_itself}

-- the drives of a record show themselves
view_among : (shelf : Shelved) (r : Register) → AreAmong (drives_of r) (λ d. (shelf.disk d).bytes) (drives_view shelf r)
view_among shelf r i = grind (arith, nat_tests, slice_index_or, drives_of)

-- and are enough, where they are all but two of the shelf
view_enough : (size : Geometry) (shelf : Shelved) (r : Register) → length (drives_of r) ≡ size.slots → size.slots ≤ set_count (drives_of r) + 2 → AreEnough size (drives_view shelf r)
view_enough size shelf r slots enough = grind (arith, nat_tests, few_bad, is_none, drive, drives_of, count_by, slots_of, set_count)

-- both boot slots lie in front of all data units, and the log is on other devices
off_data : (r : Register) (members : List Bool) (k i : ℕ) → 196608 ≤ i → OnSlotsAndLog r members (drive k) i → ⊥
off_data r members k i past (inl on) = off_slots (drives_of r) k i past on
off_data r members k i past (inr none) = none

-- What stands on all drives that aren't lost, or all but two of the shelf, stands on those of a later record, once it was stored and the log cleared.
pub segments_left : (old new : Shelved) (was now : Register) (members left lost : List Bool) {D : Device → Type 0} {most : ℕ} → Runs D (OnSlotsAndLog was members) old new → LeavesFewer (geometry_of new) lost most was now members left
    → now.record.slots ≡ was.record.slots → now.record.members.drives ≡ now.drives → now.record.slots ≤ set_count now.drives + 2 → old.honest → (contents : Contents) (fs : Facts)
    → ((id : ℕ) (d : SegmentFact) → segment fs id ≡ Some d → ArePlaces (geometry_of old) d.places) → HoldOnLeft old was lost contents fs → SegmentsHold contents new now fs
segments_left old new was now members left lost {D} {most} run x slots drives enough h contents fs places hold =
    let writes = run.writes h in
    let kept : AreKept old new now = record {
      size = λ i m. (writes.device (drive i)).size;
      bytes = λ i at m past. (writes.device (drive i)).bytes at (off_data was members i at past);
    } in
    let flags = x.of_shelf.lawful.lawful.members in
    let on_shelf = drives_left (geometry_of new) now now x.of_shelf (later_itself now.record) drives flags.drive_flags flags.within enough in
    let same : new.drives ≡ old.drives = run.continues.drives in
    let is_left : (i : ℕ) → IsMember (drives_of now) i → IsMember (drives_of was) i × ¬ (IsMember lost i) =
    left_among slots x in
    hold_kept (geometry_of old) old new now kept contents fs places
    (hold (drives_of now) is_left (drives_view old now) (view_among old now) (view_enough (geometry_of old) old now (on_shelf.0 ∙ same) (let all = on_shelf.1 in omega (arith, all, same))))
