-- The opening as a whole, from what each of its calls says.
use Rattle.takeover.proofs.Prelude.{nat_tests, ◌≡◌, ◌⊎◌, inl, inr, ℕ, ◌+◌, ◌-◌, ◌^◌, ◌<◌, ◌≤◌, Bool, true, List, [], Some, None, refl, sym, ◌∙◌, ap, subst, arith, Err, Command, after_all, Geometry, Conditions, IsBearable, View, drive, nvram, Device, AnyFact, BootRecord, NextNumbers, BootSlot, IsRecordOf, names, of_members, shown_by, spelling, LogStands, AreSound, MayBeGiven, PatchesStand, all_facts, Contents, FactsRead, ReadsAs, next_after_all, patches, geometry_of, has_failed, Shelved, Stop, Disk, MayStop, MayLeave, IsShelf, IsSame, Continues, IsCountedBy, LeavesOnly, WritesOnly, then_run, weaker, continues_trans, Enters, Found, OnlyFailedAreSilent, StandsStill, read_now, failed_by, failed_since, IsUnopenedBy, PatchIsShown, unfailed, AllZip, Kept, HasEnough, Loaded, IsLawfulLoad, IsMember, DroppedFailed, LostWrites, slot_in, StandsBut, OnMembers, Register, StoreFault, IsLaterRecord, IsRegisterOf, OnSlots, drives_of, next_slot, own_slot, AllShow, Content, GivesOldOrNext, MayStore, StandsBack, StandsInLog, StillGiven, in_cut, OpenFault, LogFault, OpenedLog, fault_of_log, fault_of_store, IsLogFault, IsLogOpen, AreClean, IsOpened, IsRecovered, IsShut, status_of, HasReplayed, IsReplayedFrom, AreTablesSeenBy, IsGivenFrom, IsSeenIn, ShowsUnfailed, HasTables, IsMemoryOf}
use Rattle.pur_base.specs.declared.reply.Status.TheVariants as status
use Rattle.pur_base.specs.Plain as plain
use Rattle.nvram_log.proofs.SettledEach.{both_leave}
use Rattle.register.specs.declared.next.StoreFault.TheVariants.{Spent, TooFew}
use Rattle.register.specs.Prelude.{IsFaultOf}
use Rattle.takeover.specs.declared.log.LogFault.TheVariants as log_fault
use Rattle.takeover.proofs.Causes.{cause}
use Rattle.takeover.proofs.Loading.{may_read}
use Rattle.takeover.proofs.ArrayOf.{array_with, facts_lawful, patches_are, tables_sound}
use Rattle.takeover.proofs.Chains.{one_read}
use Rattle.takeover.proofs.RecoveredLemmas.{content, in_log, left_or_lost, may_store}
use Rattle.takeover.proofs.Stops.{given_at, nothing_owed, unstored_by}
use Rattle.takeover.proofs.Storing.{stored_at}
use Rattle.takeover.proofs.Failing.{twice_since}
use Rattle.takeover.proofs.WhatFound as found_by
use Rattle.register.proofs.Again.{bearable_or}
use Rattle.register.proofs.Rounds.{same_shelf}

-- what is clean after both calls
pub clean_on : (a b n : Shelved) (missing : Conditions) → Continues a b → Continues b n → AreClean n (failed_since b n (failed_since a b missing)) → AreClean n (failed_since a n missing)
clean_on a b n missing on after clean d sound = clean d (ap (λ (c : Conditions). c d) (twice_since a b n missing on after) ∙ sound)

-- ---- it isn't opened, and nothing was stored

module _ (a s : Shelved) (is_a : IsShelf a) (h : a.honest) (e : OpenFault) (by : IsUnopenedBy (status_of e) a s)
    (each : (missing : Conditions) (arrays : List plain.Array) → Enters a missing arrays → LeavesOnly a s (StandsStill a None missing arrays))
    (clean : (missing : Conditions) (arrays : List plain.Array) → Enters a missing arrays → AreClean s (failed_since a s missing)) where
  pub shut : IsShut a s e
  shut = record {
    by = by;
    found = None;
    silent = tt;
    each = each;
    clean = λ missing arrays enters bears. clean missing arrays enters;
    cause = λ missing arrays enters bears. cause a s missing arrays enters is_a h bears (status_of e) by;
  }

-- no record was found
pub unfound : (a b : Shelved) (e : OpenFault) → AreTablesSeenBy a b (Err e) → IsUnopenedBy (status_of e) a b
unfound a b e h = grind (arith, nat_tests)

-- the record was found
module _ (a b : Shelved) (x : Loaded) (on : Continues a b) (seen : IsSeenIn a b x) (lawful_b : IsLawfulLoad (geometry_of b) x) (same : (k : ℕ) → IsSame (a.disk (nvram k)) (b.disk (nvram k)))
    (n : Shelved) (after : Continues b n) where
  pub lawful : IsRecordOf (geometry_of a) x.record
  lawful = subst (λ (g : Geometry). IsRecordOf g x.record) (sym (same_shelf on)) lawful_b.lawful

  -- and the log wasn't opened
  pub unread : (fault : LogFault) → IsLogFault fault b n x.record.members.nvrams → IsUnopenedBy (status_of (fault_of_log fault)) a n
  unread (log_fault.Memory m) is = tt
  unread log_fault.BothLost is = found_by.both_failed a b x on seen lawful n after is

  -- or it was, and a record was to be stored
  module _ (s : Shelved) (first : Kept) (o : OpenedLog) (was now : Register) (last : Continues n s) (is_a : IsShelf a) (is_b : IsShelf b) (is_n : IsShelf n) (h : a.honest)
      (replayed : IsReplayedFrom b n x.record.members.nvrams x.record.flushed first o) (is_of : IsRegisterOf (geometry_of n) was) (record_is : was.record ≡ x.record) (drives_are : was.drives ≡ x.drives)
      (dropped : DroppedFailed n s (drives_of was) (drives_of now)) (later : IsLaterRecord was.record now.record) (few : now.record.generation ≤ was.record.generation + 3)
      (shown : (i : ℕ) → IsMember x.drives i → shown_by (slot_in x.slot) (n.disk (drive i)).bytes ≡ Some (spelling x.record)) where
    abbrev pub found : Found (geometry_of a) (read_now a).image
    found = found_by.found a b x on seen lawful same n first o after replayed

    on_n : Continues a n
    on_n = continues_trans on after

    h_b : b.honest
    h_b = on.honest h

    h_n : n.honest
    h_n = on_n.honest h

    slots : was.record.slots ≡ a.drives
    slots = is_of.lawful.slots ∙ on_n.drives

    left : (i : ℕ) → i < a.drives → IsMember x.drives i → IsMember now.drives i ⊎ LostWrites (n.disk (drive i)) (s.disk (drive i))
    left i lt m = left_or_lost n s was now is_of.lawful.slots dropped i (omega (arith, lt, on_n.drives)) (subst (λ (l : List Bool). IsMember l i) (sym drives_are) m)

    -- each drive shows the record in its slot
    shown_own : slot_in x.slot ≡ own_slot x.record → AllShow n was
    shown_own its_slot i m = grind (arith, nat_tests, in_cut)

    pub enough_room : x.record.generation < 2 ^ 48 - 16 → now.record.generation < 2 ^ 48 - 8
    enough_room room = omega (arith, few, room, ap (λ (b : BootRecord). b.generation) record_is)

    slots_stay : now.record.slots ≡ was.record.slots
    slots_stay = ap (λ (b : BootRecord). b.slots) later.rest

    -- for arrays for which the devices stood
    module _ (missing : Conditions) (arrays : List plain.Array) (first_still : LeavesOnly a b (StandsStill a None missing arrays)) (given : LeavesOnly a b (IsGivenFrom a seen.view x missing))
        (ps : List (List AnyFact))
        (is_open : IsBearable (geometry_of a) (failed_since a n missing) → (base : plain.Array) × HasTables b x first ps base × IsLogOpen n x (failed_since a n missing) arrays ps base o)
        (counts : LeavesOnly b n (IsCountedBy b))
        (next : IsBearable (geometry_of a) (failed_since a b missing) → LeavesOnly b n (StandsStill b None (failed_since a b missing) arrays))
        (drives_stay : (i : ℕ) → n.disk (drive i) ≡ b.disk (drive i))
        (log_writes : WritesOnly (OnMembers x.record.members.nvrams) b n) (writes : WritesOnly (OnSlots (drives_of was)) n s)
        (stands : now.record.generation < 2 ^ 48 - 8 → (held : Content) → MayStore n was o.log.members (failed_since a n missing) held arrays
        → LeavesOnly n s (StandsBut n (drives_of was) (failed_since a n missing) (next_slot was.record) was.record arrays))
        (gives : now.record.generation < 2 ^ 48 - 8 → (held : Content) → MayStore n was o.log.members (failed_since a n missing) held arrays → LeavesOnly n s (GivesOldOrNext n was o.log.members (failed_since a n missing)))
        (back : now.record.generation < 2 ^ 48 - 8 → (held : Content) → StandsInLog n was o.log.members held → AllShow n was
        → LeavesOnly n s (λ stop. StillGiven n was o.log.members held stop ⊎ StandsBack n was o.log.members held stop)) where
      -- the record might be given as the store began, in the conditions of a stop in it
      given_begun : (stop : Stop) → IsCountedBy n stop → OnlyFailedAreSilent (has_failed (read_now a) stop) found.view → IsBearable (geometry_of a) (failed_by a stop missing) → slot_in x.slot ≡ own_slot x.record
          → (start : Stop) → MayStop n start → MayBeGiven (geometry_of a) start.image (failed_by a stop missing) (own_slot x.record) x.record
      given_begun stop counted silent bears its_slot start may =
          subst (λ (t : BootSlot). MayBeGiven (geometry_of a) start.image (failed_by a stop missing) t x.record) its_slot
          (given_at a b missing x on is_b h_b seen.view given n stop (record { faults = λ d. omega (arith, after.faults d, counted.faults d); write_faults = λ d. omega (arith, after.write_faults d, counted.write_faults d) }) start.image drives_leave
          (λ d none. silent d (found_by.silent_before a b x on seen lawful same n first o after replayed d none)) bears)
        where
          drives_leave : (i : ℕ) → MayLeave (b.disk (drive i)) (start.image (drive i))
          drives_leave i = subst (λ (k : Disk). MayLeave k (start.image (drive i))) (drives_stay i) (may.device (drive i))

      storing : (base : plain.Array) → IsLogOpen n x (failed_since a n missing) arrays ps base o → LeavesOnly n s (StandsStill a (Some found) missing arrays)
      storing base opened =
          let may = may_store n x (failed_since a n missing) arrays ps base o was opened is_of record_is drives_are (read_now n) (may_read n is_n h_n) in
          let logged = in_log n x (failed_since a n missing) arrays ps base o was opened is_of record_is drives_are in
          let room = enough_room opened.found.room in
          weaker (λ stop all. stored_at a n x missing arrays ps base o was on_n is_n h_n opened record_is drives_are may found refl
          (λ fails by_then. found_by.drive_left a b x on seen lawful same n first o after replayed fails by_then)
          (λ fails by_then. found_by.nvram_left a b x on seen lawful same n first o after replayed fails by_then)
          (λ stop counted silent bears. given_begun stop counted silent bears opened.found.in_its_slot.in_its_slot)
          stop all.0 all.1.0 all.1.1.0 all.1.1.1)
          (both_leave writes.any_moment (both_leave (stands room (content ps base opened.commands) may) (both_leave (gives room (content ps base opened.commands) may) (back room (content ps base opened.commands) logged (shown_own opened.found.in_its_slot.in_its_slot)))))

      pub each_moment : LeavesOnly a s (StandsStill a (Some found) missing arrays)
      each_moment = then_run on_n
          (unstored_by a b missing arrays on is_b h_b first_still n counts next x seen.view given found refl (found_by.silent_before a b x on seen lawful same n first o after replayed) x.record.members.nvrams log_writes)
          (elim (bearable_or (geometry_of a) (failed_since a n missing)) [
            | inl bears ↦ let there = is_open bears in storing there.0 there.2
            | inr many ↦ weaker (λ stop kept. nothing_owed a n missing on_n stop kept.counts many (Some found) arrays) writes.any_moment
          ])

    module _ (each : (missing : Conditions) (arrays : List plain.Array) → Enters a missing arrays → LeavesOnly a s (StandsStill a (Some found) missing arrays)) where
      -- it was stored
      module _ (memory : IsMemoryOf (geometry_of b) x.record first) (done : HasReplayed first o)
          (no_other : (members : View) → ((i : ℕ) → members (drive i) ≡ of_members (slot_in x.slot) x.record seen.view (drive i))
          → (there : List (List AnyFact)) → PatchesStand members x.record there → there ≡ patches first.memory.tables)
          (facts_shown : (members : View) → ShowsUnfailed a b (of_members (slot_in x.slot) x.record seen.view) members → AllZip (PatchIsShown members) x.record.patches (patches first.memory.tables)) where
        same_log : replayed.log ≡ done.log
        same_log = one_read o.log replayed.log done.log replayed.has done.has

        -- memory read as the array of its tables before the log was replayed
        read_first : (contents : Contents) (base : plain.Array) → FactsRead contents [] (all_facts (patches o.memory.memory.tables)) x.record.next.object base → ReadsAs contents first.memory base
        read_first contents base read =
            memory.reads contents base (subst (λ (p : List (List AnyFact)). FactsRead contents [] (all_facts p) x.record.next.object base) (patches_are (geometry_of b) x.record first o memory done) read)

        reads : (contents : Contents) (base : plain.Array) → FactsRead contents [] (all_facts (patches o.memory.memory.tables)) x.record.next.object base
            → LogStands (found_by.members a b x on seen lawful same n first o after replayed) x.record.flushed base done.log × ReadsAs contents o.memory.memory (after_all base done.log)
        reads contents base read =
            let here = read_first contents base read in (
              subst (λ (l : List Command). LogStands (found_by.members a b x on seen lawful same n first o after replayed) x.record.flushed base l) same_log
                  (found_by.log_stands a b x on seen lawful same n first o after replayed contents base here),
              (done.reads contents base here).1,
            )

        pub opened : (was.record.generation < now.record.generation) → (now.record.members.drives ≡ now.drives) × (now.record.members.nvrams ≡ o.log.members)
            → ((missing : Conditions) (arrays : List plain.Array) → Enters a missing arrays → IsBearable (geometry_of a) (failed_since a s missing)
            → IsRecovered a s found (array_with o now) done.log (failed_since a s missing) arrays)
            → ((d : Device) → names now.record d ≡ true → names x.record d ≡ true)
            → ((d : Device) → names now.record d ≡ true → (s.disk d).write_faults ≡ (a.disk d).write_faults) → HasEnough now
            → IsOpened a s (array_with o now)
        opened generation members recovered none_joins unlost enough = record {
          found = found;
          not_spent = lawful_b.room;
          no_other = λ there stand. no_other (found_by.members a b x on seen lawful same n first o after replayed) (λ i. refl) there stand ∙ sym (patches_are (geometry_of b) x.record first o memory done);
          shown = subst (λ (ps : List (List AnyFact)). AllZip (PatchIsShown (unfailed (has_failed (read_now a) (read_now s)) (found_by.members a b x on seen lawful same n first o after replayed))) x.record.patches ps)
              (sym (patches_are (geometry_of b) x.record first o memory done)) (facts_shown (unfailed (has_failed (read_now a) (read_now s)) (found_by.members a b x on seen lawful same n first o after replayed))
              (found_by.still_shown a b x on seen lawful same n first o after replayed s now last left));
          tables_sound = subst (λ (g : Geometry). AreSound g x.record (patches o.memory.memory.tables)) (sym (same_shelf on)) (tables_sound (geometry_of b) x.record first o memory done);
          lawful = facts_lawful (geometry_of b) x.record first o memory done;
          log = done.log;
          count = sym done.has.count;
          reads = reads;
          next = λ contents base read. done.next contents base (read_first contents base read) ∙ ap (λ (k : NextNumbers). next_after_all base k done.log) memory.next;
          background = refl;
          boot_is = subst (λ (r : BootRecord). now.record ≡ record r { generation = now.record.generation; members = now.record.members }) record_is later.rest;
          taken_over = found_by.taken_over a b x on seen lawful same n first o after replayed s now last left members.0 members.1;
          none_joins = none_joins;
          unlost = unlost;
          enough = enough;
          later = omega (arith, generation, ap (λ (b : BootRecord). b.generation) record_is);
          few = omega (arith, few, ap (λ (b : BootRecord). b.generation) record_is);
          each = each;
          recovered = recovered;
        }

      -- or too few drives were left
      pub unstored : (fault : StoreFault) → IsFaultOf now fault → IsShut a s (fault_of_store fault)
      unstored (TooFew drives) is =
          let by = found_by.too_few a b x on seen lawful same n first o after replayed s now last left (omega (arith, is.1, slots, slots_stay)) in
          record {
            by = by;
            found = Some found;
            silent = found_by.silent a b x on seen lawful same n first o after replayed s now last left;
            each = each;
            clean = λ missing arrays enters bears. absurd (cc (cause a s missing arrays enters is_a h bears status.Halted by));
            cause = λ missing arrays enters bears. cause a s missing arrays enters is_a h bears status.Halted by;
          }
      unstored Spent is = absurd (omega (arith, is.1, few, lawful_b.room, ap (λ (b : BootRecord). b.generation) record_is))
