-- What an opening found, as its session says it, and what becomes of each device.
use Rattle.takeover.proofs.Prelude.{nat_tests, ◌≡◌, ◌≢◌, ◌⊎◌, inl, inr, ℕ, ◌+◌, ◌<◌, ◌≤◌, Bool, true, false, List, Option, Some, None, refl, sym, ◌∙◌, ap, arith, if◌then◌else◌, slice_index_or, is_some, cases_Bool, Device, Drive, Nv, Condition, Sound, Missing, LeftOut, View, IsOn, missing_drives, drive, nvram, BootRecord, set_count, BootSlot, Effective, IsRecordOf, names, of_members, Array, LogStands, Contents, ReadsAs, not_holding, members_view, one_left, Rises, geometry_of, has_failed, losing, Shelved, IsSame, Continues, Found, ComesOut, IsTakenOver, OnlyFailedAreSilent, read_now, HasTooFew, log_moves, named_sound, unfailed, risen, rose_before, Kept, Loaded, IsMember, LostWrites, slot_in, Register, OpenedLog, IsReplayedFrom, IsSeenIn, ShowsUnfailed, sound_since}
use Rattle.takeover.proofs.Enough.{log_below}
use Rattle.nvram_log.specs.Prelude.{shown_by, IsMember as IsLogMember}
use Rattle.takeover.proofs.NoFault.{few_lack}

-- a device that isn't named is no member
pub not_named : (slot : BootSlot) (boot : BootRecord) (view : View) (d : Device) → names boot d ≡ false → of_members slot boot view d ≡ None
not_named slot boot view (Drive d) none = rw none refl
not_named slot boot view (Nv n) none = rw none refl

-- a member is named
pub named_member : (slot : BootSlot) (boot : BootRecord) (view : View) (d : Device) (bytes : List ℕ) → of_members slot boot view d ≡ Some bytes → names boot d ≡ true
named_member slot boot view d bytes is = elim (cases_Bool (names boot d)) [ inl named ↦ named | inr none ↦ absurd (cc (is, not_named slot boot view d none)) ]

-- an NVRAM device that was named and not read is silent
pub kept : (named read : Bool) → Option (List ℕ) → Option (List ℕ)
kept true false o = None
kept true true o = o
kept false read o = o

kept_or_none : (named read : Bool) (o : Option (List ℕ)) (bytes : List ℕ) → o ≡ Some bytes → (kept named read o ≡ Some bytes) ⊎ (kept named read o ≡ None)
unfolding kept
kept_or_none named read o bytes h = grind (arith, nat_tests)

kept_silent : (named read : Bool) (o : Option (List ℕ)) → kept named read o ≡ None → (o ≡ None) ⊎ ((named ≡ true) × (read ≡ false))
unfolding kept
kept_silent named read o h = grind (arith, nat_tests)

silent_kept : (named read : Bool) (o : Option (List ℕ)) → o ≡ None → kept named read o ≡ None
unfolding kept
silent_kept named read o h = grind (arith, nat_tests)

-- of one that is named it shows what was read
same_shown : (named read : Bool) (o : Option (List ℕ)) (bytes : List ℕ) → (read ≡ true → named ≡ true) → o ≡ Some bytes → (if read then Some bytes else None) ≡ (if named then kept named read o else None)
unfolding kept
same_shown named read o bytes h k = grind (arith, nat_tests)

module _ (a b : Shelved) (x : Loaded) (on : Continues a b) (seen : IsSeenIn a b x) (lawful : IsRecordOf (geometry_of a) x.record) where
  abbrev pub slot : BootSlot
  slot = slot_in x.slot

  abbrev pub failed : Shelved → Device → Bool
  failed s = has_failed (read_now a) (read_now s)

  pub since : (s : Shelved) → Continues b s → (d : Device) → failed b d ≡ true → failed s d ≡ true
  since s after d up = rose_before (a.disk d).faults (b.disk d).faults (s.disk d).faults (after.faults d) up

  -- before the log was read
  abbrev pub effective : Effective (geometry_of a) seen.view
  effective = record { slot = slot; boot = x.record; lawful = lawful; effective = seen.effective }

  abbrev pub first_found : Found (geometry_of a) (read_now a).image
  first_found = record { view = seen.view; shown = seen.shown; effective = effective }

  -- each NVRAM device that was named failed
  pub both_failed : (n : Shelved) → Continues b n → ((k : ℕ) → k < 2 → IsLogMember x.record.members.nvrams k → Rises (b.disk (nvram k)).faults (n.disk (nvram k)).faults) → HasTooFew a n
  both_failed n after all = record {
    found = first_found;
    silent = λ d none. since n after d (seen.silent d none);
    unborne = λ bears. elim (one_left (at 0) (at 1) bears.nvrams) [
      | inl sound ↦ absurd (lost 0 (omega arith) sound)
      | inr sound ↦ absurd (lost 1 (omega arith) sound)
    ];
    unwritten = λ many. absurd (omega (arith, many, seen.enough));
  }
    where
      at : ℕ → Condition
      at k = losing (failed n) (not_holding slot x.record seen.view) (nvram k)

      held : (o : Option (List ℕ)) → (if is_some o then Sound else Missing) ≡ Sound → (bytes : List ℕ) × (o ≡ Some bytes)
      held (Some bytes) e = (bytes, refl)
      held None e = absurd (cc e)

      lost : (k : ℕ) → k < 2 → at k ≡ Sound → ⊥
      lost k lt sound = grind (arith, nat_tests, sound_since, named_member)

  -- the log was read
  module _ (same : (k : ℕ) → IsSame (a.disk (nvram k)) (b.disk (nvram k))) where
    module _ (n : Shelved) (first : Kept) (o : OpenedLog) (after : Continues b n) (replayed : IsReplayedFrom b n x.record.members.nvrams x.record.flushed first o) where
      abbrev pub is_read : ℕ → Bool
      is_read k = slice_index_or replayed.read k false

      abbrev pub is_named : ℕ → Bool
      is_named k = slice_index_or x.record.members.nvrams k false

      abbrev pub view : View
      view (Drive d) = seen.view (Drive d)
      view (Nv k) = kept (is_named k.0) (is_read k.0) (seen.view (Nv k))

      pub shown : (d : Device) → (view d ≡ Some (a.disk d).bytes) ⊎ (view d ≡ None)
      shown (Drive d) = seen.shown (Drive d)
      shown (Nv k) = kept_or_none (is_named k.0) (is_read k.0) (seen.view (Nv k)) (a.disk (Nv k)).bytes (seen.nvrams k.0)

      -- what is silent was silent, or failed in the reading of the log
      pub silent_then : (fails : Device → Bool) → OnlyFailedAreSilent fails seen.view → ((d : Device) → failed n d ≡ true → fails d ≡ true) → OnlyFailedAreSilent fails view
      silent_then fails silent later (Drive d) none = silent (Drive d) none
      silent_then fails silent later (Nv k) none = elim (kept_silent (is_named k.0) (is_read k.0) (seen.view (Nv k)) none) [
        | inl was ↦ silent (Nv k) was
        | inr both ↦ elim (replayed.unread k.0 (log_below (geometry_of a) x.record lawful k.0 both.0) both.0) [
          | inl is ↦ absurd (cc (is, both.1))
          | inr rises ↦ later (Nv k) (risen (a.disk (Nv k)).faults (b.disk (Nv k)).faults (n.disk (Nv k)).faults (n.disk (Nv k)).faults (on.faults (Nv k)) rises (omega arith))
        ]
      ]

      pub silent_before : (d : Device) → seen.view d ≡ None → view d ≡ None
      silent_before (Drive d) none = none
      silent_before (Nv k) none = silent_kept (is_named k.0) (is_read k.0) (seen.view (Nv k)) none

      abbrev pub gives : Effective (geometry_of a) view
      gives = record { slot = slot; boot = x.record; lawful = lawful; effective = record { decided = seen.effective.decided; highest = seen.effective.highest } }

      abbrev pub found : Found (geometry_of a) (read_now a).image
      found = record { view = view; shown = shown; effective = gives }

      abbrev pub members : View
      members = members_view view gives

      same_log : (k : ℕ) → shown_by b replayed.read (nvram k) ≡ members (nvram k)
      same_log k = same_shown (is_named k) (is_read k) (seen.view (nvram k)) (b.disk (nvram k)).bytes (replayed.named k) (seen.nvrams k ∙ ap (λ (l : List ℕ). Some l) (sym (same k).bytes))

      -- the log that was replayed is what they show
      pub log_stands : (contents : Contents) (base : Array) → ReadsAs contents first.memory base → LogStands members x.record.flushed base replayed.log
      log_stands contents base reads = log_moves (shown_by b replayed.read) members same_log x.record.flushed 0 base replayed.log (replayed.log_stands contents base reads)

      -- a member by the record found, on which no call failed, is left after the log was opened
      module _ (fails : Device → Bool) (later : (d : Device) → failed n d ≡ true → fails d ≡ true) where
        pub drive_left : (i : ℕ) → i < a.drives → members (drive i) ≢ None → fails (drive i) ≡ false → IsMember x.drives i
        drive_left i lt member fine = grind (arith, nat_tests, drive, since)

        pub nvram_left : (k : ℕ) → members (nvram k) ≢ None → fails (nvram k) ≡ false → IsLogMember o.log.members k
        nvram_left k member fine = elim (cases_Bool (is_named k)) [
          | inr none ↦ absurd (member (not_named slot x.record view (nvram k) none))
          | inl named ↦ elim (replayed.dropped k (log_below (geometry_of a) x.record lawful k named) named) [
            | inl is ↦ is
            | inr rises ↦ absurd (cc (fine, later (nvram k) (risen (a.disk (nvram k)).faults (b.disk (nvram k)).faults (n.disk (nvram k)).faults (n.disk (nvram k)).faults (on.faults (nvram k)) rises (omega arith))))
          ]
        ]

      -- after the store
      module _ (s : Shelved) (now : Register) (last : Continues n s)
          (left : (i : ℕ) → i < a.drives → IsMember x.drives i → IsMember now.drives i ⊎ LostWrites (n.disk (drive i)) (s.disk (drive i))) where
        pub later_on : (d : Device) → failed n d ≡ true → failed s d ≡ true
        later_on d up = rose_before (a.disk d).faults (n.disk d).faults (s.disk d).faults (last.faults d) up

        pub silent : OnlyFailedAreSilent (failed s) view
        silent = silent_then (failed s) (λ d none. later_on d (since n after d (seen.silent d none))) later_on

        pub drive_stays : (i : ℕ) → i < a.drives → members (drive i) ≢ None → failed s (drive i) ≡ false → IsMember now.drives i
        drive_stays i lt member fine = grind (arith, nat_tests, drive_left, later_on, risen, drive)

        fine_before : (d : Device) → failed s d ≡ false → failed b d ≡ false
        fine_before d fine = elim (cases_Bool (failed b d)) [ inr still ↦ still | inl up ↦ absurd (cc (fine, later_on d (since n after d up))) ]

        -- those of which no call failed show what they showed as members
        pub still_shown : ShowsUnfailed a b (of_members slot x.record seen.view) (unfailed (failed s) members)
        still_shown i = grind (arith, nat_tests, drive, fine_before)

        none_or : (o : Option (List ℕ)) → (o ≡ None) ⊎ (o ≢ None)
        none_or (Some bytes) = inr (λ e. cc e)
        none_or None = inl refl

        out : (d : Device) → names now.record d ≡ false → named_sound now.record d ≡ LeftOut
        out d none = ap (λ (b : Bool). if b then Sound else LeftOut) none

        not_sound : (d : Device) → names now.record d ≡ false → named_sound now.record d ≢ Sound
        not_sound d none e = cc (e, out d none)

        comes : (d : Device) → names now.record d ≡ false → (members d ≢ None → failed s d ≡ false → names now.record d ≡ true) → ComesOut found (failed s) (named_sound now.record) d
        comes d none stays = grind (arith, nat_tests, none_or, out, not_sound)

        pub taken_over : now.record.members.drives ≡ now.drives → now.record.members.nvrams ≡ o.log.members → IsTakenOver (geometry_of a) (read_now a).image found (failed s) (named_sound now.record)
        taken_over drives nvrams = record {
          silent = silent;
          each = λ d lt. elim (cases_Bool (names now.record d)) [
            | inl named ↦ inl (ap (λ (b : Bool). if b then Sound else LeftOut) named)
            | inr none ↦ comes d none (stays d lt)
          ];
        }
          where
            stays : (d : Device) → IsOn (geometry_of a) d → members d ≢ None → failed s d ≡ false → names now.record d ≡ true
            stays (Drive d) lt member fine = ap (λ (l : List Bool). slice_index_or l d.0 false) drives ∙ drive_stays d.0 lt member fine
            stays (Nv k) lt member fine = ap (λ (l : List Bool). slice_index_or l k.0 false) nvrams ∙ nvram_left (failed s) later_on k.0 member fine

        -- too few drives are left
        pub too_few : set_count now.drives + 2 < a.drives → HasTooFew a s
        too_few few = record {
          found = found;
          silent = silent;
          unborne = λ bears. absurd (omega (arith, few, few_lack a.drives (losing (failed s) (not_holding slot x.record view)) now.drives a.units bears sound_left));
          unwritten = λ many. let two : missing_drives (geometry_of a) (not_holding slot x.record view) ≤ 2 = seen.enough in absurd (omega (arith, many, two));
        }
          where
            held : (o : Option (List ℕ)) → (if is_some o then Sound else Missing) ≡ Sound → o ≢ None
            held (Some bytes) e none = cc none
            held None e none = cc e

            sound_left : (i : ℕ) → i < a.drives → losing (failed s) (not_holding slot x.record view) (drive i) ≡ Sound → IsMember now.drives i
            sound_left i lt sound = grind (arith, nat_tests, sound_since, drive_stays)
