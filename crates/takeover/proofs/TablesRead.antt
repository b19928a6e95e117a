-- The tables of the record that was found were read: what is known then, and why they weren't.
use Rattle.takeover.proofs.Prelude.{◌≡◌, ◌⊎◌, inl, inr, ℕ, ◌<◌, ◌≤◌, Bool, true, false, not, List, [], length, refl, sym, ◌∙◌, ap, subst, arith, Option, Some, None, slice_index, option_and_then, if◌then◌else◌, AllZip, bytes_eq, cases_Bool, not-false, Geometry, View, Conditions, drive, nvram, Device, Drive, Nv, Array, AnyFact, BootSlot, IsRecordOf, body_in, names, of_members, other_slot, shown_by, with_body, spelling, DiffersOnlyIn, IsNamedByNone, Stands, MayBeGiven, PatchesStand, PatchStands, all_facts, sound_before, geometry_of, has_failed, has_risen, Shelved, Stop, IsShelf, IsSame, Continues, MayStop, WritesOnly, then_run, weaker, patches, all_patches, OnlyFailedAreSilent, read_now, failed_since, IsBearable, Yields, generation_in, LeavesOnly, Enters, PatchIsShown, rose_before, StripesStandOf, is_in, ShowsDrives, ShowsNoOtherDrive, StripesStandOfAll, Loaded, IsMember, slot_in, IsInForceOn, IsLawfulLoad, StandsAgain, OnNothing, Kept, IsFoundOn, AreClean, AreTablesSeen, IsSeenIn, ShowsUnfailed, HasTables, IsMemoryOf, risen_more, nat_tests, IsFoundFirmly, IsRecordFound, StandsWhileFinding}
use Rattle.table_loading.proofs.Zips.{zip_first}
use Rattle.memory_spec.proofs.Stored.{stored_tables_read}
use Rattle.takeover.proofs.Failing.{since_later}
use Rattle.takeover.proofs.Loading.{at_time, may_at_time, same_leaves}
use Rattle.takeover.proofs.Moved.{patches_alike, shown_alike}
use Rattle.takeover.proofs.Stops.{given_at, unstored}
use Rattle.takeover.proofs.TablesHeld.{held_base, held_here, held_patches, hold_tables, named_shows, patches_stand_here}
use Rattle.array_core.proofs.Logged.{nothing_else}
use Rattle.register.proofs.Rounds.{same_shelf as shelf_stays}
use Rattle.takeover.proofs.LogOpened.{while_read}

-- devices that were only read stand as they stood
module _ (b t : Shelved) (x : Loaded) (later : Conditions) (arrays : List Array) (after : Continues b t) (same : (d : Device) → IsSame (b.disk d) (t.disk d)) (found : IsFoundOn b x later arrays) where
  same_shelf : geometry_of b ≡ geometry_of t
  same_shelf = shelf_stays after

  before : (start : Stop) → MayStop t start → MayStop b (at_time b start.image)
  before start may = may_at_time b start.image (λ d. same_leaves (b.disk d) (t.disk d) (start.image d) (same d) (may.device d))

  in_force : IsInForceOn t x.drives later (other_slot (slot_in x.slot)) x.record
  in_force = record {
    lawful = subst (λ (g : Geometry). IsRecordOf g x.record) same_shelf found.in_force.lawful;
    sound = λ i lt s. found.in_force.sound i (omega (arith, lt, after.drives)) s;
    clean = λ i m s. (same (drive i)).dirty ∙ found.in_force.clean i m s;
    shown = λ i m s. ap (shown_by (other_slot (other_slot (slot_in x.slot)))) (same (drive i)).bytes ∙ found.in_force.shown i m s;
    given = λ start may. subst (λ (g : Geometry). MayBeGiven g start.image later (other_slot (other_slot (slot_in x.slot))) x.record) same_shelf (found.in_force.given (at_time b start.image) (before start may));
  }

  pub found_read : IsFoundOn t x later arrays
  found_read = record {
    in_force = in_force;
    in_its_slot = found.in_its_slot;
    named = found.named;
    bodies = λ i m. ap (body_in (slot_in x.slot)) (same (drive i)).bytes ∙ found.bodies i m;
    room = found.room;
    stands = λ start may. subst (λ (g : Geometry). Stands g start.image later arrays) same_shelf (found.stands (at_time b start.image) (before start may));
    left_out = λ start may d out. subst (λ (g : Geometry). IsNamedByNone g start.image later d) same_shelf (found.left_out (at_time b start.image) (before start may) d out);
  }

-- and what they showed is as it was seen
module _ (a b t : Shelved) (x : Loaded) (on : Continues a b) (after : Continues b t) (is_b : IsShelf b) (h_b : b.honest) (same : (d : Device) → IsSame (b.disk d) (t.disk d)) (wrote : WritesOnly OnNothing b t)
    (seen : IsSeenIn a b x) where
  since : (d : Device) → has_failed (read_now a) (read_now b) d ≡ true → has_failed (read_now a) (read_now t) d ≡ true
  since d up = rose_before (a.disk d).faults (b.disk d).faults (t.disk d).faults (after.faults d) up

  pub silent_read : OnlyFailedAreSilent (has_failed (read_now a) (read_now t)) seen.view
  silent_read d none = since d (seen.silent d none)

  pub only_boot : DiffersOnlyIn (λ drive unit. unit < 3) (read_now a).image (read_now t).image
  only_boot = grind (arith, nat_tests, nvram, length, drive, slice_index)

  pub seen_read : IsSeenIn a t x
  seen_read = record {
    view = seen.view;
    shown = seen.shown;
    nvrams = seen.nvrams;
    silent = silent_read;
    effective = seen.effective;
    enough = seen.enough;
    held = seen.held;
    dropped = λ i lt. elim (seen.dropped i lt) [
      | inl is ↦ inl is
      | inr (inl none) ↦ inr (inl none)
      | inr (inr up) ↦ inr (inr (since (drive i) up))
    ];
    only_boot = only_boot;
    bodies = λ slot i. ap (body_in slot) (same (drive i)).bytes ∙ seen.bodies slot i;
    given = λ missing arrays enters. then_run on (seen.given missing arrays enters)
        (weaker (λ stop left silent bears. given_at a b missing x on is_b h_b seen.view (seen.given missing arrays enters) t stop left.counts stop.image (λ i. nothing_else (λ k w. w) (left.bytes (drive i))) silent bears) wrote.any_moment);
  }

-- ---- what stands as the patches

member_shown : (named : Bool) (slot : BootSlot) (body : List ℕ) (o : Option (List ℕ)) (bytes : List ℕ) → (if named then option_and_then (with_body slot body) o else None) ≡ Some bytes → o ≡ Some bytes
member_shown false slot body o bytes e = absurd (cc e)
member_shown true slot body None bytes e = absurd (cc e)
member_shown true slot body (Some other) bytes e = elim (cases_Bool (bytes_eq (body_in slot other) body)) [
  | inl same ↦ sym (rw same refl) ∙ e
  | inr differs ↦ absurd (let none : (if bytes_eq (body_in slot other) body then Some other else None) ≡ None = rw differs refl in cc (none, e))
]

-- what a member shows now
pub shown_now : Option (List ℕ) → List ℕ → Option (List ℕ)
shown_now None now = None
shown_now (Some bytes) now = Some now

some_now : (o : Option (List ℕ)) (bytes now : List ℕ) → o ≡ Some bytes → shown_now o now ≡ Some now
unfolding shown_now
some_now (Some other) bytes now e = refl
some_now None bytes now e = absurd (cc e)

-- of the drives that the record was found on, those that it names as they are now
module _ (a b : Shelved) (x : Loaded) (lawful : IsRecordOf (geometry_of a) x.record) (seen : IsSeenIn a b x) (missing : List Bool)
    (others : (slot : ℕ) → slot < 24 → is_in missing slot ≡ not (is_in x.drives slot)) (few : b.drives ≤ 24) where
  -- a view in which each of them shows what it showed as a member, or nothing
  module _ (members : View) (shown : (i : ℕ) → (members (drive i) ≡ None) ⊎ (members (drive i) ≡ of_members (slot_in x.slot) x.record seen.view (drive i))) where
    pub view : View
    view (Drive d) = shown_now (members (Drive d)) (b.disk (Drive d)).bytes
    view (Nv n) = members (Nv n)

    shows_old : (i : ℕ) (bytes : List ℕ) → members (drive i) ≡ Some bytes → bytes ≡ (a.disk (drive i)).bytes
    shows_old i bytes is = elim (shown i) [
      | inl hidden ↦ absurd (cc (hidden, is))
      | inr as_member ↦ elim (seen.shown (drive i)) [
        | inl shows ↦ same_some bytes (a.disk (drive i)).bytes (seen.view (drive i)) (member_shown (names x.record (drive i)) (slot_in x.slot) (spelling x.record) (seen.view (drive i)) bytes (sym as_member ∙ is)) shows
        | inr none ↦ absurd (cc (none, member_shown (names x.record (drive i)) (slot_in x.slot) (spelling x.record) (seen.view (drive i)) bytes (sym as_member ∙ is)))
      ]
    ]
      where
        same_some : (p q : List ℕ) (o : Option (List ℕ)) → o ≡ Some p → o ≡ Some q → p ≡ q
        same_some p q o e f = cc

    alike : (i : ℕ) → ((members (drive i) ≡ None) × (view (drive i) ≡ None)) ⊎ ((members (drive i) ≡ Some (a.disk (drive i)).bytes) × (view (drive i) ≡ Some (b.disk (drive i)).bytes))
    unfolding view shown_now
    alike i = one (members (drive i)) (λ bytes is. shows_old i bytes is)
      where
        one : (o : Option (List ℕ)) → ((bytes : List ℕ) → o ≡ Some bytes → bytes ≡ (a.disk (drive i)).bytes)
            → ((o ≡ None) × (shown_now o (b.disk (drive i)).bytes ≡ None)) ⊎ ((o ≡ Some (a.disk (drive i)).bytes) × (shown_now o (b.disk (drive i)).bytes ≡ Some (b.disk (drive i)).bytes))
        one None was = inl (refl, refl)
        one (Some bytes) was = inr (ap (λ (l : List ℕ). Some l) (was bytes refl), refl)

    -- each drive that isn't missing is shown as it is now
    pub shows : ((i : ℕ) → members (drive i) ≡ of_members (slot_in x.slot) x.record seen.view (drive i)) → ShowsDrives b missing view
    unfolding view
    shows are slot lt there =
        let m : IsMember x.drives slot = not-false (is_in x.drives slot) (sym (others slot (omega (arith, lt, few))) ∙ there) in
        some_now (members (drive slot)) (a.disk (drive slot)).bytes (b.disk (drive slot)).bytes (are slot ∙ seen.held slot m)

    pub stand_now : (there : List (List AnyFact)) → PatchesStand members x.record there → PatchesStand view x.record there
    stand_now there stand = patches_alike (read_now a).image (read_now b).image seen.only_boot members view alike (geometry_of a) x.record there lawful stand

    -- no others stand than those that were loaded
    pub no_other_than : ((i : ℕ) → members (drive i) ≡ of_members (slot_in x.slot) x.record seen.view (drive i)) → (loaded : List (List AnyFact)) → ((v : View) → ShowsDrives b missing v → StripesStandOfAll v x.record → PatchesStand v x.record loaded) → (there : List (List AnyFact)) → PatchesStand members x.record there → there ≡ loaded
    no_other_than are loaded stand there stands =
        let now = stand_now there stands in
        all_patches view x.record.patches there loaded now (stand view (shows are) (zip_first (PatchStands view) (StripesStandOf view) (λ p facts is. is.stripes) x.record.patches there now))

  -- where of those that show something no call failed, they show the facts that were loaded
  module _ (t : Shelved) (on : Continues a b) (after : Continues b t) (members : View) (unfailed : ShowsUnfailed a t (of_members (slot_in x.slot) x.record seen.view) members) where
    shown : (i : ℕ) → (members (drive i) ≡ None) ⊎ (members (drive i) ≡ of_members (slot_in x.slot) x.record seen.view (drive i))
    shown i = elim (unfailed i) [ inl none ↦ inl none | inr fine ↦ inr fine.0 ]

    some_or : (o : Option (List ℕ)) → (o ≡ None) ⊎ ((bytes : List ℕ) × (o ≡ Some bytes))
    some_or None = inl refl
    some_or (Some bytes) = inr (bytes, refl)

    fine_since : (i : ℕ) → has_failed (read_now a) (read_now t) (drive i) ≡ false → has_risen (b.disk (drive i)).faults (t.disk (drive i)).faults ≡ false
    fine_since i fine = grind (arith, nat_tests, drive, risen_more)

    is_left : (i : ℕ) (bytes : List ℕ) → i < b.drives → of_members (slot_in x.slot) x.record seen.view (drive i) ≡ Some bytes → has_failed (read_now a) (read_now t) (drive i) ≡ false → is_in missing i ≡ false
    is_left i bytes lt as_member fine = grind (arith, nat_tests, not, drive, rose_before)

    shows_no_other : ShowsNoOtherDrive b t missing (view members shown)
    unfolding view shown_now
    shows_no_other i lt = grind (arith, nat_tests, some_or, some_now, is_left, fine_since)

    pub facts_shown : (loaded : List (List AnyFact)) → ((v : View) → ShowsNoOtherDrive b t missing v → AllZip (PatchIsShown v) x.record.patches loaded) → AllZip (PatchIsShown members) x.record.patches loaded
    facts_shown loaded given =
        shown_alike (read_now a).image (read_now b).image seen.only_boot members (view members shown) (alike members shown) (geometry_of a) x.record loaded lawful (given (view members shown) shows_no_other)

-- what was seen, of the record and of its tables
pub tables_seen : (a b t : Shelved) (x : Loaded) (k : Kept) (on : Continues a b) (after : Continues b t) (is_b : IsShelf b) (h_b : b.honest) (same : (d : Device) → IsSame (b.disk d) (t.disk d)) (wrote : WritesOnly OnNothing b t)
    (seen : IsSeenIn a b x) (lawful : IsRecordOf (geometry_of a) x.record) (missing : List Bool) (others : (slot : ℕ) → slot < 24 → is_in missing slot ≡ not (is_in x.drives slot)) (few : b.drives ≤ 24)
    → ((v : View) → ShowsDrives b missing v → StripesStandOfAll v x.record → PatchesStand v x.record (patches k.memory.tables))
    → ((v : View) → ShowsNoOtherDrive b t missing v → AllZip (PatchIsShown v) x.record.patches (patches k.memory.tables)) → AreTablesSeen a t (record { loaded = x; memory = k })
unfolding seen_read
tables_seen a b t x k on after is_b h_b same wrote seen lawful missing others few stand shown = record {
  seen = seen_read a b t x on after is_b h_b same wrote seen;
  no_other = λ members are there stands. no_other_than a b x lawful seen missing others few members (λ i. inr (are i)) are (patches k.memory.tables) stand there stands;
  shown = λ members unfailed. facts_shown a b x lawful seen missing others few t on after members unfailed (patches k.memory.tables) shown;
}

-- ---- where the devices stand for arrays

-- clean after both calls
pub clean_then : (a b t : Shelved) (missing : Conditions) → Continues a b → Continues b t → ((d : Device) → IsSame (b.disk d) (t.disk d)) → AreClean b (failed_since a b missing) → AreClean t (failed_since a t missing)
clean_then a b t missing on after same clean d sound = (same d).dirty ∙ clean d (sound_before (failed_since a b missing d) (failed_since a t missing d) (since_later a b t missing after d) sound)

module _ (b t : Shelved) (x : Loaded) (k : Kept) (later : Conditions) (arrays : List Array) (after : Continues b t) (is_t : IsShelf t) (h_t : t.honest) (same : (d : Device) → IsSame (b.disk d) (t.disk d))
    (found : IsFoundOn t x later arrays) (made : IsMemoryOf (geometry_of t) x.record k) (missing : List Bool) (others : (slot : ℕ) → slot < 24 → is_in missing slot ≡ not (is_in x.drives slot)) (few : b.drives ≤ 24)
    (stand : (v : View) → ShowsDrives b missing v → StripesStandOfAll v x.record → PatchesStand v x.record (patches k.memory.tables)) where
  abbrev full : View
  full = of_members (slot_in x.slot) x.record (λ d. Some (t.disk d).bytes)

  full_shows : ShowsDrives b missing full
  full_shows slot lt there =
      let m : IsMember x.drives slot = not-false (is_in x.drives slot) (sym (others slot (omega (arith, lt, few))) ∙ there) in
      named_shows (slot_in x.slot) x.record (λ d. Some (t.disk d).bytes) slot (b.disk (drive slot)).bytes (found.named slot m) (ap (body_in (slot_in x.slot)) (sym (same (drive slot)).bytes) ∙ found.bodies slot m)
      (ap (λ (l : List ℕ). Some l) (same (drive slot)).bytes)

  -- the patches that the drives hold are those of memory
  same_patches : held_patches t x later arrays is_t h_t found ≡ patches k.memory.tables
  same_patches =
      let here = patches_stand_here t x later arrays is_t h_t found in
      all_patches full x.record.patches (held_patches t x later arrays is_t h_t found) (patches k.memory.tables) here
      (stand full full_shows (zip_first (PatchStands full) (StripesStandOf full) (λ p facts is. is.stripes) x.record.patches (held_patches t x later arrays is_t h_t found) here))

  pub has_tables : (base : Array) × HasTables t x k (patches k.memory.tables) base
  has_tables =
      let ps = held_patches t x later arrays is_t h_t found in
      let base = held_base t x later arrays is_t h_t found in
      let here = held_here t x later arrays is_t h_t found in
      let read = stored_tables_read (geometry_of t) here.0 x.record ps base here.1 here.2 in (
        base,
        record {
          hold = subst (λ (qs : List (List AnyFact)). Rattle.takeover.specs.Tables.HoldTables t x qs base) same_patches (hold_tables t x later arrays is_t h_t found);
          contents = read.0;
          reads = made.reads read.0 base (subst (λ (qs : List (List AnyFact)). Rattle.memory_spec.specs.Memory.FactsRead read.0 [] (all_facts qs) x.record.next.object base) same_patches read.2);
        },
      )

-- ---- the record that was found is as it was

-- while devices are only read a stop leaves what might have been left before
pub again_read : (a b t : Shelved) (missing : Conditions) (arrays : List Array) → Continues a b → IsShelf b → b.honest → LeavesOnly a b (StandsAgain a missing arrays) → WritesOnly (λ d i. ⊥) b t
    → LeavesOnly a t (StandsAgain a missing arrays)
again_read a b t missing arrays on is_b h_b first reading = grind (arith, nat_tests, then_run, weaker, at_time, may_at_time)

pub firm_read : (b t : Shelved) (x : Loaded) (missing : Conditions) (arrays : List Array) → Continues b t → ((d : Device) → IsSame (b.disk d) (t.disk d)) → IsFoundFirmly b x missing arrays → IsFoundFirmly t x missing arrays
firm_read b t x missing arrays after same firm = record {
  sound = firm.sound;
  below = λ i m. omega (arith, firm.below i m, after.drives);
  logs = firm.logs;
  older = λ i m. subst (λ (l : List ℕ). Yields (other_slot (other_slot (slot_in x.slot))) (generation_in (body_in (other_slot (slot_in x.slot)) l)) (generation_in (spelling x.record))) (sym (same (drive i)).bytes) (firm.older i m);
  found = λ later more bears sound. found_read b t x later arrays after same (firm.found later more (subst (λ (g : Geometry). IsBearable g later) (sym (shelf_stays after)) bears) sound);
}

pub record_read : (a b t : Shelved) (x : Loaded) → Continues b t → ((d : Device) → (t.disk d).write_faults ≡ (b.disk d).write_faults) → (a.honest → (d : Device) → IsSame (b.disk d) (t.disk d)) → IsRecordFound a b x → IsRecordFound a t x
record_read a b t x after looks same is = record {
  lawful = subst (λ (g : Geometry). IsLawfulLoad g x) (shelf_stays after) is.lawful;
  enough = omega (arith, is.enough, after.drives);
  unlost = λ i lt m. looks (drive i) ∙ is.unlost i (omega (arith, lt, after.drives)) m;
  shown = λ h i m. subst (λ (l : List ℕ). shown_by (slot_in x.slot) l ≡ Some (spelling x.record)) (sym (same h (drive i)).bytes) (is.shown h i m);
  firmly = λ h missing next boot arrays enters entry. firm_read b t x missing arrays after (same h) (is.firmly h missing next boot arrays enters entry);
}

-- what is known while the tables are read, whether they are loaded or not
pub while_reading_tables : (a b t : Shelved) (x : Loaded) → Continues a b → Continues b t → IsShelf b → b.honest → ((d : Device) → IsSame (b.disk d) (t.disk d)) → WritesOnly (λ d i. ⊥) b t
    → ((missing : Conditions) (arrays : List Array) → Enters a missing arrays → IsBearable (geometry_of a) (failed_since a b missing) → IsFoundOn b x (failed_since a b missing) arrays)
    → StandsWhileFinding a b → StandsWhileFinding a t
while_reading_tables a b t x on after is_b h_b same reading found first = record {
  any_moment = λ missing arrays enters. unstored a b missing arrays on is_b h_b (first.any_moment missing arrays enters) t (weaker (λ stop left. left.counts) reading.any_moment)
      (λ bears. while_read b t x (failed_since a b missing) arrays reading (found missing arrays enters bears));
  clean = λ missing clean. clean_then a b t missing on after same (first.clean missing clean);
  again = λ missing next boot arrays enters entry. again_read a b t missing arrays on is_b h_b (first.again missing next boot arrays enters entry) reading;
}
