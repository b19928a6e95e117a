-- What a stop in the store leaves, by the record that was found.
use Rattle.takeover.proofs.Prelude.{nat_tests, ◌≡◌, ◌≢◌, ◌⊎◌, inl, inr, ℕ, ◌<◌, Bool, true, false, List, Option, Some, None, refl, sym, ◌∙◌, ap, subst, arith, cases_Bool, Device, Drive, Nv, Geometry, Image, Condition, Conditions, Sound, Missing, LeftOut, IsBearable, drive, nvram, Array, AnyFact, BootRecord, BootSlot, names, other_slot, spelling, members_view, Stands, MayBeGiven, geometry_of, has_failed, has_risen, Shelved, Stop, IsShelf, MayStop, Continues, IsCountedBy, LeavesBut, ComesBack, Found, IsStanding, LeftOutAreNamedByNone, OnlyFailedAreSilent, StandsStill, read_now, failed_by, failed_since, left_out_once, not_risen_since, rose_before, Loaded, IsMember, slot_in, AccountsFor, StandsBut, WasGiven, failed_calls, Register, OnSlots, drives_of, next_slot, own_slot, AreOfMembers, GivesOldOrNext, IsNextOf, MayStore, StandsBack, StillGiven, cut_in, OpenedLog, IsLogOpen}
use Rattle.nvram_log.specs.Prelude.{IsMember as IsLogMember}
use Rattle.takeover.proofs.Loading.{may_read}
use Rattle.takeover.proofs.RecoveredLemmas.{content}
use Rattle.takeover.proofs.Stops.{bears_from_b, standing_from_a, given_from_a}
use Rattle.takeover.proofs.Failing.{twice_by}
use Rattle.takeover.proofs.WhatFound.{not_named}
use Rattle.register.proofs.Rounds.{same_shelf}

-- each record that may be given names no device that was left out
module _ (n : Shelved) (x : Loaded) (now : Conditions) (arrays : List Array) (ps : List (List AnyFact)) (base : Array) (o : OpenedLog) (was : Register) (is_n : IsShelf n) (h_n : n.honest)
    (opened : IsLogOpen n x now arrays ps base o) (record_is : was.record ≡ x.record) (drives_are : was.drives ≡ x.drives) (stop : Stop) where
  abbrev shelf : Geometry
  shelf = geometry_of n

  abbrev here : Stop
  here = read_now n

  may_here : MayStop n here
  may_here = may_read n is_n h_n

  -- so the record that was found
  found_given : MayBeGiven shelf here.image now (other_slot (other_slot (slot_in x.slot))) x.record
  found_given = opened.found.in_force.given here may_here

  is_named : (d : Device) (boot : BootRecord) → IsNextOf was o.log.members boot → names boot d ≡ true → names x.record d ≡ true
  is_named (Drive d) boot next named = opened.found.named d.0 (subst (λ (l : List Bool). IsMember l d.0) drives_are (next.drives d.0 named))
  is_named (Nv k) boot next named = opened.fewer k.0 (subst (λ (l : List Bool). IsLogMember l k.0) next.nvrams_are named)

  -- a device that was left out is named by none
  out_unnamed : (d : Device) → now d ≡ LeftOut → (boot : BootRecord) → IsNextOf was o.log.members boot → names boot d ≡ false
  out_unnamed d out boot next = grind (arith, nat_tests, names, may_here, found_given, is_named)

  abbrev later : Conditions
  later = failed_by n stop now

  -- the devices stand then as they stood
  module _ (gives : (slot : BootSlot) (boot : BootRecord) → MayBeGiven shelf stop.image later slot boot → WasGiven n now slot boot ⊎ IsNextOf was o.log.members boot) where
    pub standing_at : Stands shelf stop.image later arrays → IsStanding shelf stop.image later arrays
    standing_at stands = record { stands = stands; left_out = left_out }
      where
        left_out : LeftOutAreNamedByNone shelf stop.image later
        left_out d out slot boot g =
            let was_out : now d ≡ LeftOut = left_out_once (has_risen (n.disk d).faults (stop.faults d)) (now d) out in
            elim (gives slot boot g) [
              | inl before ↦ opened.found.left_out before.start before.may d was_out slot boot before.given
              | inr next ↦ out_unnamed d was_out boot next
            ]

  -- and in conditions in which members are back
  module _ (back : Conditions) (gives : (slot : BootSlot) (boot : BootRecord) → MayBeGiven shelf stop.image back slot boot → (boot ≡ was.record) ⊎ IsNextOf was o.log.members boot)
      (unnamed : (d : Device) → back d ≡ LeftOut → names x.record d ≡ false) where
    pub standing_back : Stands shelf stop.image back arrays → IsStanding shelf stop.image back arrays
    standing_back stands = record { stands = stands; left_out = left_out }
      where
        left_out : LeftOutAreNamedByNone shelf stop.image back
        left_out d out slot boot g = elim (gives slot boot g) [
          | inl same ↦ ap (λ (b : BootRecord). names b d) (same ∙ record_is) ∙ unnamed d out
          | inr next ↦ elim (cases_Bool (names boot d)) [
            | inr none ↦ none
            | inl named ↦ absurd (cc (unnamed d out, is_named d boot next named))
          ]
        ]

-- of conditions by the record that was found: a member on which no call failed is sound, a device that isn't named is left out
back_as : (named failed : Bool) → Option (List ℕ) → Condition
back_as false failed o = LeftOut
back_as true true o = Missing
back_as true false (Some bytes) = Sound
back_as true false None = Missing

back_out : (named failed : Bool) (o : Option (List ℕ)) → back_as named failed o ≡ LeftOut → named ≡ false
unfolding back_as
back_out named failed o h = grind (arith, nat_tests)

back_sound : (named failed : Bool) (o : Option (List ℕ)) → back_as named failed o ≡ Sound → (failed ≡ false) × (o ≢ None) × (named ≡ true)
unfolding back_as
back_sound named failed o h = grind (arith, nat_tests)

cases_back : (named failed : Bool) (o : Option (List ℕ)) → named ≡ true → (back_as named failed o ≡ Missing) ⊎ (back_as named failed o ≡ Sound)
unfolding back_as
cases_back named failed o h = grind (arith, nat_tests)

cases_condition : (c : Condition) → (c ≡ Sound) ⊎ ((c ≡ Missing) ⊎ (c ≡ LeftOut))
cases_condition c = grind (arith, nat_tests)

comes_back : {geometry : Geometry} {image : Image} (found : Found geometry image) (failed : Device → Bool) (after : Conditions) (d : Device) (named fails : Bool) (o : Option (List ℕ))
    → after d ≡ back_as named fails o → names found.effective.boot d ≡ named → failed d ≡ fails → members_view found.view found.effective d ≡ o → ComesBack found failed after d
unfolding back_as
comes_back found failed after d named fails o h k l m = grind (arith, nat_tests, not_named)

-- the store's stops as those of the opening
module _ (a n : Shelved) (x : Loaded) (missing : Conditions) (arrays : List Array) (ps : List (List AnyFact)) (base : Array) (o : OpenedLog) (was : Register) (on : Continues a n) (is_n : IsShelf n) (h_n : n.honest)
    (opened : IsLogOpen n x (failed_since a n missing) arrays ps base o) (record_is : was.record ≡ x.record) (drives_are : was.drives ≡ x.drives)
    (may_store : MayStore n was o.log.members (failed_since a n missing) (content ps base opened.commands) arrays)
    (found : Found (geometry_of a) (read_now a).image) (boot_is : found.effective.boot ≡ x.record)
    (drive_left : (fails : Device → Bool) → ((d : Device) → has_failed (read_now a) (read_now n) d ≡ true → fails d ≡ true) → (i : ℕ) → i < a.drives → members_view found.view found.effective (drive i) ≢ None → fails (drive i) ≡ false → IsMember x.drives i)
    (nvram_left : (fails : Device → Bool) → ((d : Device) → has_failed (read_now a) (read_now n) d ≡ true → fails d ≡ true) → (k : ℕ) → members_view found.view found.effective (nvram k) ≢ None → fails (nvram k) ≡ false → IsLogMember o.log.members k)
    (begun : (stop : Stop) → IsCountedBy n stop → OnlyFailedAreSilent (has_failed (read_now a) stop) found.view → IsBearable (geometry_of a) (failed_by a stop missing)
    → (start : Stop) → MayStop n start → MayBeGiven (geometry_of a) start.image (failed_by a stop missing) (own_slot x.record) x.record) where
  pub stored_at : (stop : Stop) → LeavesBut (OnSlots (drives_of was)) n stop
      → StandsBut n (drives_of was) (failed_since a n missing) (next_slot was.record) was.record arrays stop
      → GivesOldOrNext n was o.log.members (failed_since a n missing) stop
      → StillGiven n was o.log.members (content ps base opened.commands) stop ⊎ StandsBack n was o.log.members (content ps base opened.commands) stop
      → StandsStill a (Some found) missing arrays stop
  stored_at stop left stands gives back = record {
    standing = λ bears.
        let acc = accounts (bears_from_b a n missing on stop left.counts bears) in
        standing_from_a a n missing on stop left.counts arrays
        (standing_at n x (failed_since a n missing) arrays ps base o was is_n h_n opened record_is drives_are stop (λ slot boot g. gives later acc slot boot g) (stands later acc));
    stored = λ bears silent since. elim back [
      | inl still ↦
          let g = still (failed_since a n missing) arrays may_store later (accounts (bears_from_b a n missing on stop left.counts bears)) (given_in (begun stop left.counts silent bears)) in
          let newer = since (own_slot was.record) was.record (given_from_a a n missing on stop left.counts (own_slot was.record) was.record g) in
          absurd (omega (arith, newer, ap (λ (b : BootRecord). b.generation) boot_is, ap (λ (b : BootRecord). b.generation) record_is))
      | inr stood ↦ (after, (λ d on_shelf. comes_back found fails after d (names x.record d) (fails d) (members_view found.view found.effective d) refl (ap (λ (b : BootRecord). names b d) boot_is) refl refl), λ borne. is_back stood borne)
    ];
  }
    where
      later : Conditions
      later = failed_by n stop (failed_since a n missing)

      accounts : IsBearable (geometry_of n) later → AccountsFor n (drives_of was) (failed_since a n missing) (next_slot was.record) (spelling was.record) stop.faults stop.write_faults later
      accounts bears = failed_calls n (drives_of was) (failed_since a n missing) (next_slot was.record) (spelling was.record) stop.faults stop.write_faults bears

      given_in : ((start : Stop) → MayStop n start → MayBeGiven (geometry_of a) start.image (failed_by a stop missing) (own_slot x.record) x.record)
          → (start : Stop) → MayStop n start → MayBeGiven (geometry_of n) start.image later (own_slot was.record) was.record
      given_in gives start may =
          subst (λ (r : BootRecord). MayBeGiven (geometry_of n) start.image later (own_slot r) r) (sym record_is)
          (subst (λ (g : Geometry). MayBeGiven g start.image later (own_slot x.record) x.record) (same_shelf on)
          (subst (λ (c : Conditions). MayBeGiven (geometry_of a) start.image c (own_slot x.record) x.record) (sym (twice_by a n stop missing on left.counts)) (gives start may)))

      fails : Device → Bool
      fails = has_failed (read_now a) stop

      after : Conditions
      after d = back_as (names x.record d) (fails d) (members_view found.view found.effective d)

      by_then : (d : Device) → has_failed (read_now a) (read_now n) d ≡ true → fails d ≡ true
      by_then d up = rose_before (a.disk d).faults (n.disk d).faults (stop.faults d) (left.counts.faults d) up

      of_members : IsBearable (geometry_of n) after → AreOfMembers n was o.log.members (failed_since a n missing) stop after
      of_members borne = record {
        bearable = borne;
        on_drives = λ i lt sound.
            let three = back_sound (names x.record (drive i)) (fails (drive i)) (members_view found.view found.effective (drive i)) sound in
            let member : IsMember x.drives i = drive_left fails by_then i (omega (arith, lt, on.drives)) three.1 three.0 in (
              cut_in was.drives was.record.slots i (omega (arith, lt, slots)) (subst (λ (l : List Bool). IsMember l i) (sym drives_are) member),
              not_risen_since (a.disk (drive i)).faults (n.disk (drive i)).faults (stop.faults (drive i)) (on.faults (drive i)) (left.counts.faults (drive i)) three.0,
            );
        on_nvram = λ k lt sound.
            let three = back_sound (names x.record (nvram k)) (fails (nvram k)) (members_view found.view found.effective (nvram k)) sound in
            (nvram_left fails by_then k three.1 three.0, ap (λ (r : BootRecord). names r (nvram k)) record_is ∙ three.2);
        left_out = λ k out.
            let none = back_out (names x.record (nvram k)) (fails (nvram k)) (members_view found.view found.effective (nvram k)) out in
            ((λ m. absurd (cc (none, opened.fewer k m))), ap (λ (r : BootRecord). names r (nvram k)) record_is ∙ none);
        unnamed = λ i out. ap (λ (r : BootRecord). names r (drive i)) record_is ∙ back_out (names x.record (drive i)) (fails (drive i)) (members_view found.view found.effective (drive i)) out;
        dropped = λ k lt named gone. back_missing k (sym (ap (λ (r : BootRecord). names r (nvram k)) record_is) ∙ named) gone ∙ sym (is_missing_now k lt (sym (ap (λ (r : BootRecord). names r (nvram k)) record_is) ∙ named) gone);
      }
        where
          slots : was.record.slots ≡ n.drives
          slots = may_store.logged.is_of.lawful.slots

          -- an NVRAM device that the record names and the store leaves out failed
          back_missing : (k : ℕ) → names x.record (nvram k) ≡ true → (IsLogMember o.log.members k → ⊥) → after (nvram k) ≡ Missing
          back_missing k named gone = elim (cases_back (names x.record (nvram k)) (fails (nvram k)) (members_view found.view found.effective (nvram k)) named) [
            | inl is ↦ is
            | inr sound ↦
                let three = back_sound (names x.record (nvram k)) (fails (nvram k)) (members_view found.view found.effective (nvram k)) sound in
                absurd (gone (nvram_left fails by_then k three.1 three.0))
          ]

          is_missing_now : (k : ℕ) → k < 2 → names x.record (nvram k) ≡ true → (IsLogMember o.log.members k → ⊥) → failed_since a n missing (nvram k) ≡ Missing
          is_missing_now k lt named gone = elim (cases_condition (failed_since a n missing (nvram k))) [
            | inl sound ↦ absurd (gone (opened.sound k lt sound))
            | inr (inl is) ↦ is
            | inr (inr out) ↦ absurd (cc (named, opened.found.left_out (read_now n) (may_read n is_n h_n) (nvram k) out _ x.record (opened.found.in_force.given (read_now n) (may_read n is_n h_n))))
          ]

      is_back : StandsBack n was o.log.members (content ps base opened.commands) stop → IsBearable (geometry_of a) after → IsStanding (geometry_of a) stop.image after arrays
      is_back stood borne =
          let e : geometry_of a ≡ geometry_of n = same_shelf on in
          let both = stood.each (failed_since a n missing) arrays may_store after (of_members (subst (λ (g : Geometry). IsBearable g after) e borne)) in
          subst (λ (g : Geometry). IsStanding g stop.image after arrays) (sym e)
          (standing_back n x (failed_since a n missing) arrays ps base o was is_n h_n opened record_is drives_are stop after both.1
          (λ d out. back_out (names x.record d) (fails d) (members_view found.view found.effective d) out)
          both.0)
