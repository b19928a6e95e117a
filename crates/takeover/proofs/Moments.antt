-- The moments of an opening, one call after another, also where more fails in it than is borne.
use Rattle.takeover.proofs.Prelude.{nat_tests, ◌≡◌, ◌⊎◌, ℕ, ◌<◌, Bool, true, false, List, sym, ◌∙◌, ap, subst, arith, Result, slice_index_or, ◌+◌, ◌≤◌, ◌-◌, ◌^◌, length, if◌then◌else◌, Enters, Command, after_all, Geometry, Conditions, Sound, IsBearable, IsOn, drive, nvram, Device, Drive, Nv, AnyFact, BootRecord, names, sound_before, Contents, ReadsAs, facts, patches, geometry_of, Shelved, Disk, Continues, Found, failed_since, read_now, Array, LeftOut, IsWithin, set_count, BootSlot, Yields, body_in, generation_in, other_slot, spelling, Stands, within_twice, Stop, IsShelf, LeavesOnly, then_run, weaker, named_sound, Loaded, IsMember, DroppedFailed, LostWrites, slot_in, IsOlder, StandsAgain, IsFewer, IsSome, Register, IsRegisterOf, drives_of, IsLaterRecord, IsOpen, next_slot, own_slot, Content, IsFirm, MayStore, in_cut, cut_length, members_sound, Kept, SegmentsHold, IsReady, fewer_borne, StandsOnceBack, OpenedLog, LogFault, IsFoundOn, IsLogOpen, IsLogOpenBy, AreLeft, IsLogOpenOn, IsHeldBy, IsRecovered, HasTables, AreSoundLogs, EntersFirmly, IsFoundFirmly, OutlastsFailures, AreTablesFound, IsRecordFound, OpensLog, StandsWhileFinding, FoundArray}
use Rattle.pur_base.specs.Plain as plain
use Rattle.takeover.proofs.ArrayOf.{array_with}
use Rattle.takeover.proofs.Failing.{since_later, twice_since}
use Rattle.takeover.proofs.RecoveredLemmas.{content, left_or_lost, still_left, may_store}
use Rattle.register.proofs.Rounds.{same_shelf}
use Rattle.boot_region.proofs.Stored.{others_lost, others_not_sound, others_sound, others_within}
use Rattle.takeover.proofs.FirmlyFound.{others_borne}
use Rattle.takeover.proofs.Loading.{may_read}
use Rattle.takeover.proofs.LogOpened.{logs_borne, logs_left, logs_lost}

pub back_again : (a : Shelved) (missing : Conditions) (arrays : List Array) (stop : Stop) → StandsAgain a missing arrays stop → StandsOnceBack a missing arrays stop
back_again a missing arrays stop again = record { later = again.later; within = again.within; stands = again.stands }

-- at most three records are stored
pub room_left : (x was now : BootRecord) → was ≡ x → now.generation ≤ was.generation + 3 → x.generation < 2 ^ 48 - 16 → now.generation < 2 ^ 48 - 8
room_left x was now same few room = omega (arith, few, room, ap (λ (b : BootRecord). b.generation) same)

-- ---- the record was found

module _ (a b : Shelved) (missing : Conditions) (arrays : List Array) (x : Loaded) (on : Continues a b) (is_b : IsShelf b) (h_b : b.honest) (bears : IsBearable (geometry_of a) missing)
    (enough : b.drives ≤ set_count x.drives + 2) (firm : IsFoundFirmly b x missing arrays) where
  abbrev left : Conditions
  left = others_lost missing x.drives

  bears_left : IsBearable (geometry_of a) left
  bears_left = others_borne (geometry_of a) missing x.drives (omega (arith, enough, on.drives)) (λ i le m. absurd (omega (arith, le, firm.below i m, on.drives))) firm.sound bears

  found_left : IsFoundOn b x left arrays
  found_left = firm.found left (others_within missing x.drives) (subst (λ (g : Geometry). IsBearable g left) (same_shelf on) bears_left) (λ i sound. others_not_sound missing x.drives i sound)

  pub while_opening : (n : Shelved) → ((during : Conditions) → IsFoundOn b x during arrays → AreSoundLogs x.record during → LeavesOnly b n (StandsOnceBack b during arrays)) → LeavesOnly b n (StandsOnceBack a missing arrays)
  while_opening n opens = weaker (λ stop back. record {
    later = back.later;
    within = within_twice missing left back.later (others_within missing x.drives) back.within;
    stands = subst (λ (g : Geometry). Stands g stop.image back.later arrays) (sym (same_shelf on)) back.stands;
  }) (opens left found_left firm.logs)

  -- the log was opened, and the next record is stored
  module _ (n s : Shelved) (after : Continues b n) (is_n : IsShelf n) (h_n : n.honest) (same_drives : (i : ℕ) → n.disk (drive i) ≡ b.disk (drive i)) (o : OpenedLog) (was : Register)
      (opened : (during : Conditions) → IsFoundOn b x during arrays → (ps : List (List AnyFact)) × (base : Array) × IsLogOpenOn n x during arrays ps base o)
      (fewer : IsFewer x.record.members.nvrams o.log.members) (some : IsSome o.log.members) (is_of : IsRegisterOf (geometry_of n) was) (record_is : was.record ≡ x.record) (drives_are : was.drives ≡ x.drives)
      (stores : x.record.generation < 2 ^ 48 - 16 → (during : Conditions) (held : Content) → MayStore n was o.log.members during held arrays → IsFirm n was during → LeavesOnly n s (StandsAgain n during arrays)) where
    -- of NVRAM devices those are missing that aren't left
    abbrev last : Conditions
    last = logs_lost left o.log.members

    abbrev left_last : AreLeft x left o.log.members last
    left_last = logs_left x left o.log.members

    within_last : IsWithin missing last
    within_last = within_twice missing left last (others_within missing x.drives) left_last.within

    member : (i : ℕ) → IsMember (drives_of was) i → IsMember x.drives i
    member i m = subst (λ (l : List Bool). IsMember l i) drives_are (in_cut was.drives was.record.slots i m)

    bears_last : IsBearable (geometry_of n) last
    bears_last = subst (λ (g : Geometry). IsBearable g last) (same_shelf after) (logs_borne b x left arrays is_b h_b found_left firm.logs o.log.members fewer some)

    firm_last : slot_in x.slot ≡ own_slot x.record → IsFirm n was last
    firm_last its_slot = record {
      bearable = bears_last;
      sound = λ i m. others_sound missing x.drives i (member i m) (firm.sound i (member i m));
      older = λ i m sound.
          let there : IsOlder b (next_slot x.record) (spelling x.record) i = subst (λ (t : BootSlot). IsOlder b (other_slot t) (spelling x.record) i) its_slot (firm.older i (member i m)) in
          let here : IsOlder b (next_slot was.record) (spelling was.record) i = subst (λ (r : BootRecord). IsOlder b (next_slot r) (spelling r) i) (sym record_is) there in
          subst (λ (k : Disk). Yields (other_slot (next_slot was.record)) (generation_in (body_in (next_slot was.record) k.bytes)) (generation_in (spelling was.record))) (sym (same_drives i)) here;
    }

    stored : LeavesOnly n s (StandsAgain n last arrays)
    stored =
        let (ps, base, opens) = opened left found_left in
        let is : IsLogOpen n x last arrays ps base o = opens last left_last bears_last in
        stores is.found.room last (content ps base is.commands) (may_store n x last arrays ps base o was is is_of record_is drives_are (read_now n) (may_read n is_n h_n)) (firm_last is.found.in_its_slot.in_its_slot)

    pub while_storing : LeavesOnly n s (StandsOnceBack a missing arrays)
    while_storing = weaker (λ stop again. record {
      later = again.later;
      within = within_twice missing last again.later within_last again.within;
      stands = subst (λ (g : Geometry). Stands g stop.image again.later arrays) (sym (same_shelf on ∙ same_shelf after)) again.stands;
    }) stored

-- what finding the array and opening its log say
pub opening_outlasts : (a b n : Shelved) → Continues a b → IsShelf b → b.honest → a.honest → (f : FoundArray) → StandsWhileFinding a b → IsRecordFound a b f.loaded → AreTablesFound a b f
    → (result : Result OpenedLog LogFault)
    → ((missing : Conditions) (arrays : List Array) (ps : List (List AnyFact)) (base : Array) → IsFoundOn b f.loaded missing arrays → HasTables b f.loaded f.memory ps base → OpensLog b n f.loaded missing arrays ps base result)
    → OutlastsFailures a n
opening_outlasts a b n on is_b h_b h f stands found there result opens missing next boot arrays enters entry =
    then_run on (weaker (λ stop again. back_again a missing arrays stop again) (stands.again missing next boot arrays enters entry))
    (while_opening a b missing arrays f.loaded on is_b h_b enters.bearable found.enough (found.firmly h missing next boot arrays enters entry) n
    (λ during is logs. let has = there.tables during arrays is in (opens during arrays (patches f.memory.memory.tables) has.0 is has.1).once_back logs))

-- ---- afterwards

-- An array whose record was stored is as an opening asks for that is to outlast failures.
pub enters_firmly : (shelf : Shelved) (r : Register) (nvrams : List Bool) (held : Content) → IsOpen shelf r nvrams held → EntersFirmly shelf (named_sound r.record) (next_slot r.record) r.record
enters_firmly shelf r nvrams held o = record {
  members = drives_of r;
  firm = record {
    in_force = o.in_force;
    as_many = cut_length r (ap length (sym o.drives) ∙ o.logged.is_of.lawful.lawful.members.drive_flags) o.logged.is_of;
    sound = λ i m. members_sound r o.logged.is_of i m;
    older = o.older;
  };
  named = λ d is. ap (λ (b : Bool). if b then Sound else LeftOut) is;
}

-- ---- the moments of an opening

pub tables_found : (old mid : Shelved) (f : FoundArray) (missing : Conditions) (arrays : List plain.Array) → AreTablesFound old mid f → Enters old missing arrays → IsBearable (geometry_of old) (failed_since old mid missing)
    → IsFoundOn mid f.loaded (failed_since old mid missing) arrays × (base : plain.Array) × HasTables mid f.loaded f.memory (patches f.memory.memory.tables) base
tables_found old mid f missing arrays there enters bears =
    let is = there.found missing arrays enters bears in
    let has = there.tables (failed_since old mid missing) arrays is in
    (is, has.0, has.1)

-- the record is found with its tables, and then the log is opened
module _ (old mid new : Shelved) (missing : Conditions) (arrays : List plain.Array) (x : Loaded) (first : Kept) (ps : List (List AnyFact)) (on : Continues old mid) (after : Continues mid new)
    (found : IsBearable (geometry_of old) (failed_since old mid missing) → IsFoundOn mid x (failed_since old mid missing) arrays × (base : plain.Array) × HasTables mid x first ps base) where
  same_conditions : failed_since mid new (failed_since old mid missing) ≡ failed_since old new missing
  same_conditions = twice_since old mid new missing on after

  pub log_opened : (result : Result OpenedLog LogFault)
      → ((base : plain.Array) → IsFoundOn mid x (failed_since old mid missing) arrays → HasTables mid x first ps base → IsBearable (geometry_of mid) (failed_since mid new (failed_since old mid missing))
      → IsLogOpenBy new x (failed_since mid new (failed_since old mid missing)) arrays ps base result)
      → IsBearable (geometry_of old) (failed_since old new missing) → (base : plain.Array) × HasTables mid x first ps base × IsLogOpenBy new x (failed_since old new missing) arrays ps base result
  log_opened result opens bears =
      let bears_mid = fewer_borne (geometry_of old) (failed_since old mid missing) (failed_since old new missing) (since_later old mid new missing after) bears in
      let there = found bears_mid in (
        there.1,
        there.2,
        subst (λ (c : Conditions). IsLogOpenBy new x c arrays ps there.1 result) same_conditions
            (opens there.1 there.0 there.2 (subst (λ (g : Geometry). IsBearable g (failed_since mid new (failed_since old mid missing))) (same_shelf on)
            (subst (λ (c : Conditions). IsBearable (geometry_of old) c) (sym same_conditions) bears))),
      )

-- and the next record is stored
module _ (old mid new : Shelved) (missing : Conditions) (arrays : List plain.Array) (x : Loaded) (o : OpenedLog) (was : Register) (on : Continues old mid) (after : Continues mid new)
    (ps : List (List AnyFact)) (base : plain.Array) (is_open : IsLogOpen mid x (failed_since old mid missing) arrays ps base o)
    (is_of : IsRegisterOf (geometry_of mid) was) (record_is : was.record ≡ x.record) (drives_are : was.drives ≡ x.drives)
    (bears : IsBearable (geometry_of old) (failed_since old new missing)) (now : Register) (lost_or_left : DroppedFailed mid new (drives_of was) (drives_of now)) (later : IsLaterRecord was.record now.record) where
  dropped : (i : ℕ) → i < mid.drives → IsMember was.drives i → IsMember now.drives i ⊎ LostWrites (mid.disk (drive i)) (new.disk (drive i))
  dropped = left_or_lost mid new was now is_of.lawful.slots lost_or_left

  sound_mid : (i : ℕ) → i < mid.drives → failed_since old mid missing (drive i) ≡ Sound → IsMember was.drives i
  sound_mid i lt sound = subst (λ (l : List Bool). IsMember l i) (sym drives_are) (is_open.found.in_force.sound i lt sound)

  module _ (is_opened : IsOpen new now o.log.members (content ps base is_open.commands)) (stay : (n : ℕ) → new.disk (nvram n) ≡ mid.disk (nvram n)) where
    -- what memory reads as stands in the log, and in the segments on the drives that are left
    ready : (contents : Contents) → ps ≡ patches o.memory.memory.tables → ReadsAs contents o.memory.memory (after_all base is_open.commands) → SegmentsHold contents new now (facts o.memory.memory.tables)
        → IsReady new (array_with o now) (content ps base is_open.commands)
    ready contents patches_are reads hold = grind (arith, nat_tests)

    before : (d : Device) → failed_since old new missing d ≡ Sound → failed_since old mid missing d ≡ Sound
    before d is = sound_before (failed_since old mid missing d) (failed_since old new missing d) (since_later old mid new missing after d) is

    sound : (d : Device) → IsOn (geometry_of new) d → failed_since old new missing d ≡ Sound → names now.record d ≡ true
    sound (Drive d) lt is = ap (λ (l : List Bool). slice_index_or l d.0 false) is_opened.drives
        ∙ still_left old mid new missing was.drives now.drives on after sound_mid dropped d.0 (omega (arith, lt, after.drives)) is
    sound (Nv n) lt is = ap (λ (l : List Bool). slice_index_or l n.0 false) is_opened.nvrams_are ∙ is_open.sound n.0 lt (before (Nv n) is)

    pub recovered : (found : Found (geometry_of old) (read_now old).image) (log : List Command) → is_open.commands ≡ log → IsHeldBy old new found (array_with o now) base → ps ≡ patches o.memory.memory.tables
        → (contents : Contents) → ReadsAs contents o.memory.memory (after_all base is_open.commands) → SegmentsHold contents new now (facts o.memory.memory.tables)
        → IsRecovered old new found (array_with o now) log (failed_since old new missing) arrays
    recovered found log log_is base_held patches_are contents reads hold = record {
      held = content ps base is_open.commands;
      ready = ready contents patches_are reads hold;
      one_of = is_open.one_of;
      log_is = log_is;
      base_held = base_held;
      sound = sound;
      firm = enters_firmly new now o.log.members (content ps base is_open.commands) is_opened;
    }
