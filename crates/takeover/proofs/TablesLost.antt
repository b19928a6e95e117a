-- Why the tables of the record that was found weren't read.
use Rattle.takeover.proofs.Prelude.{nat_tests, ◌≡◌, ◌⊎◌, inl, inr, ℕ, ◌+◌, ◌-◌, ◌<◌, ◌≤◌, Bool, true, false, not, List, refl, sym, ◌∙◌, ap, subst, arith, Err, cond, Option, None, count_by, is_some, if◌then◌else◌, range_with_len, All-contains, All-from_recursion, Geometry, View, Conditions, Sound, Missing, is_missing, drive, Device, AnyFact, IsPatch, BootSlot, IsRecordOf, of_members, Patch, BootRecord, not_holding, AreSound, PatchesStand, places_of_part, spells_one, one_is_effective, geometry_of, has_failed, losing, missing_if, Shelved, IsSame, Continues, OnlyFailedAreSilent, read_now, HasNoArray, HasTooFew, split_count, risen, rose_before, is_in, ArePlaces, place_of, drive_of, AreLostSince, ShowsDrives, Loaded, slot_in, OpenFault, IsFaultOfTables, AreTablesSeenBy, IsSeenIn}
use Rattle.patch_io.proofs.Parts.{places_of}
use Rattle.table_loading.specs.declared.fault.TablesFault.{TablesFault}
use Rattle.table_loading.specs.declared.fault.TablesFault.TheVariants as tables
use Rattle.table_loading.specs.Faults.{IsTablesFault}
use Rattle.table_loading.proofs.Loaded.{lawful_patches}
use Rattle.takeover.proofs.TablesRead.{shows, stand_now, view}
use Rattle.register.proofs.Rounds.{same_shelf}

-- three of them
three_counted : (f : ℕ → Bool) (n i j k : ℕ) → i < j → j < k → k < n → f i ≡ true → f j ≡ true → f k ≡ true → 3 ≤ count_by f (range_with_len 0 n)
three_counted f n i j k ij jk kn fi fj fk =
    let first = split_count f 0 n i (n - (i + 1)) (omega arith) (omega (arith, ij, jk, kn)) (omega (arith, ij, jk, kn)) in
    let second = split_count f (i + 1) (n - (i + 1)) j (n - (j + 1)) (omega (arith, ij)) (omega (arith, ij, jk, kn)) (omega (arith, ij, jk, kn)) in
    let third = split_count f (j + 1) (n - (j + 1)) k (n - (k + 1)) (omega (arith, jk)) (omega (arith, ij, jk, kn)) (omega (arith, ij, jk, kn)) in
    omega (arith, first, second, third, one (f i) fi, one (f j) fj, one (f k) fk)
  where
    one : (b : Bool) → b ≡ true → 1 ≤ cond b 1 0
    one true e = omega arith
    one false e = absurd (cc e)

gone : (fails : Bool) (o : Option (List ℕ)) → (fails ≡ true) ⊎ (o ≡ None) → is_missing (missing_if fails (if is_some o then Sound else Missing)) ≡ true
gone fails o h = grind (arith, nat_tests)

module _ (a b t : Shelved) (x : Loaded) (on : Continues a b) (after : Continues b t) (h_b : b.honest) (lawful : IsRecordOf (geometry_of a) x.record) (same : (d : Device) → IsSame (b.disk d) (t.disk d))
    (seen : IsSeenIn a b x) (silent : OnlyFailedAreSilent (has_failed (read_now a) (read_now t)) seen.view)
    (missing : List Bool) (others : (slot : ℕ) → slot < 24 → is_in missing slot ≡ not (is_in x.drives slot)) (few : b.drives ≤ 24) where
  abbrev slot : BootSlot
  slot = slot_in x.slot

  -- ---- no tables stand

  members : View
  members = of_members slot x.record seen.view

  no_tables : ((v : View) (ps : List (List AnyFact)) → ShowsDrives b missing v → PatchesStand v x.record ps → AreSound (geometry_of b) x.record ps → ⊥) → HasNoArray a t
  unfolding members
  no_tables none = record {
    view = seen.view;
    shown = seen.shown;
    silent = silent;
    unread = λ e. inr (λ ps stand sound.
        let one = one_is_effective (geometry_of a) seen.view e.slot slot _ _ e.effective seen.effective in
        let boots : e.boot ≡ x.record = spells_one (geometry_of a) e.boot x.record e.lawful lawful one.1 in
        let here : PatchesStand (of_members slot x.record seen.view) x.record ps = subst (λ (r : BootRecord). PatchesStand (of_members slot r seen.view) r ps) boots
        (subst (λ (s : BootSlot). PatchesStand (of_members s e.boot seen.view) e.boot ps) one.0 stand) in
        none (view a b x lawful seen missing others few members (λ i. inr refl)) ps (shows a b x lawful seen missing others few members (λ i. inr refl) (λ i. refl))
        (stand_now a b x lawful seen missing others few members (λ i. inr refl) ps here)
        (subst (λ (g : Geometry). AreSound g x.record ps) (same_shelf on) (subst (λ (r : BootRecord). AreSound (geometry_of a) r ps) boots sound)));
    unwritten = λ none. absurd (none (record { slot = slot; boot = x.record; lawful = lawful; effective = seen.effective }));
  }

  -- ---- a patch is lost

  fails : Device → Bool
  fails = has_failed (read_now a) (read_now t)

  now : Conditions
  now = losing fails (not_holding slot x.record seen.view)

  is_lost : (p : Patch) (part : ℕ) (drives : List Bool) → AreLostSince b t (places_of_part p part) missing drives → ArePlaces b (places_of_part p part)
      → (shard : ℕ) → shard < 9 → is_in drives (place_of (places_of_part p part) shard).slot ≡ true → is_missing (now (drive_of (places_of_part p part) shard)) ≡ true
  unfolding now fails
  is_lost p part drives lost places shard below is =
      gone (has_failed (read_now a) (read_now t) (drive at)) (of_members slot x.record seen.view (drive at)) (elim (lost.cause shard below is) [
        | inl gone_before ↦ elim (seen.dropped at (omega (arith, lt, on.drives))) [
          | inl member ↦ absurd (cc (gone_before, others at (omega (arith, lt, few)) ∙ ap not member))
          | inr (inl none) ↦ inr none
          | inr (inr up) ↦ inl (rose_before (a.disk (drive at)).faults (b.disk (drive at)).faults (t.disk (drive at)).faults (after.faults (drive at)) up)
        ]
        | inr rises ↦ inl (risen (a.disk (drive at)).faults (lost.faults (drive at)) (t.disk (drive at)).faults (t.disk (drive at)).faults (omega (arith, on.faults (drive at), lost.since (drive at))) rises (omega arith))
      ])
    where
      at : ℕ
      at = (place_of (places_of_part p part) shard).slot

      lt : at < b.drives
      lt = (places.each shard below).slot

  too_few : (p : Patch) (part : ℕ) (drives : List Bool) → AreLostSince b t (places_of_part p part) missing drives → ArePlaces b (places_of_part p part) → HasTooFew a t
  unfolding now fails
  too_few p part drives lost places = record {
    found = record { view = seen.view; shown = seen.shown; effective = record { slot = slot; boot = x.record; lawful = lawful; effective = seen.effective } };
    silent = silent;
    unborne = λ bears.
        let three = lost.three in
        let some = three_counted (λ i. is_missing (losing (has_failed (read_now a) (read_now t)) (not_holding slot x.record seen.view) (drive i))) a.drives
        (place_of (places_of_part p part) three.first).slot (place_of (places_of_part p part) three.second).slot (place_of (places_of_part p part) three.third).slot
        (places.ascending three.first three.second three.in_order.0 (omega (arith, three.in_order.1, three.in_order.2))) (places.ascending three.second three.third three.in_order.1 three.in_order.2)
        (omega (arith, (places.each three.third three.in_order.2).slot, on.drives))
        (is_lost p part drives lost places three.first (omega (arith, three.in_order.0, three.in_order.1, three.in_order.2)) three.are.0)
        (is_lost p part drives lost places three.second (omega (arith, three.in_order.1, three.in_order.2)) three.are.1)
        (is_lost p part drives lost places three.third three.in_order.2 three.are.2) in
        absurd (omega (arith, some, bears.drives));
    unwritten = λ many. absurd (omega (arith, many, seen.enough));
  }

  -- ---- each fault

  pub fault_seen : (fault : TablesFault) (e : OpenFault) → IsTablesFault b t x.record missing fault → IsFaultOfTables fault e → AreTablesSeenBy a t (Err e)
  fault_seen (tables.BadPatch table) e is named = grind (arith, nat_tests, no_tables)
  fault_seen (tables.Unsound table) e is named = grind (arith, nat_tests, no_tables)
  fault_seen (tables.Lost lost) e is named =
      let p = is.0 in
      let patch : IsPatch b.drives b.units p = All-contains (IsPatch b.drives b.units) x.record.patches p
      (All-from_recursion (IsPatch b.drives b.units) x.record.patches (lawful_patches b x.record (subst (λ (g : Geometry). IsRecordOf g x.record) (same_shelf on) lawful)).each) is.1 in
      subst (λ (f : OpenFault). AreTablesSeenBy a t (Err f)) (sym named.1) (too_few p is.2.0 lost.drives is.2.2 (places_of b p is.2.0 patch is.2.1))
  fault_seen (tables.Memory m) e is named = subst (λ (f : OpenFault). AreTablesSeenBy a t (Err f)) (sym named) tt
