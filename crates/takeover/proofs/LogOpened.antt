-- The log is read, applied and settled: what a stop leaves at each moment, and what is known in the end.
use Rattle.takeover.proofs.Enough.{log_below}
use Rattle.takeover.proofs.Loading.{at_time, may_at_time, may_read}
use Rattle.takeover.proofs.Prelude.{nat_tests, ◌≡◌, ◌⊎◌, inl, inr, ℕ, zero, suc, ◌+◌, ◌<◌, ◌≤◌, cond, List, [], length, take, refl, sym, ◌∙◌, subst, arith, Bool, true, false, Ok, Err, Some, None, Contains, slice_get, slice_index_or, if◌then◌else◌, Command, after_all, Geometry, Image, Condition, Conditions, Sound, LeftOut, IsBearable, IsWithin, is_missing, drive, nvram, Array, AnyFact, Device, Drive, Nv, spelling, BootSlot, IsRecordOf, body_in, names, other_slot, shown_by, Shows, ShowsIn, IsInSlot, IsNamedByNone, Stands, MayBeGiven, twice_other, within_twice, one_left, sound_before, TablesHold, same_drives_hold, Rises, geometry_of, has_failed, has_risen, Shelved, Stop, Disk, IsShelf, Continues, MayStop, MayLeave, LeavesOnly, LeavesBut, WritesOnly, continues_trans, then_run, weaker, as_read, IsStanding, IsUnstored, StandsStill, failed_by, failed_since, read_now, risen_on_way, Kept, Loaded, slot_in, losing_within, NvLog, HasRead, HoldsOn, IsFewer, IsSome, OnMembers, IsReadFrom, OnNothing, DroppedCounted, AllFailed, SettleBy, AreAsSeen, Agree, LogFault, OpenedLog, AreCounted, IsFoundOn, AreLeft, IsLogOpen, IsLogOpenBy, IsLogFault, StandsOnceBack, bearable_or_not, fewer_borne, sound_since, unrisen, AreSoundLogs, IsReplayed, IsRun, log_fault_of, OpensLog, HasTables, HoldTables}
use Rattle.boot_region.proofs.Composing.{as_it_is}
use Rattle.boot_region.proofs.Stored.{lost, lost_within, never_sound}
use Rattle.nvram_log.specs.declared.read.ReadFault.{ReadFault}
use Rattle.nvram_log.specs.declared.read.ReadFault.TheVariants as read_fault
use Rattle.nvram_log.specs.Prelude.{shown_by as shown_of, IsMember}
use Rattle.takeover.proofs.Answered.{dropped_twice}
use Rattle.takeover.proofs.Failing.{by_stop, since_later}
use Rattle.takeover.proofs.LogSettling.{given_moves, answers, is_one, agree_here, standing_settling}
use Rattle.takeover.proofs.NothingStored.{given_over, standing_with_fewer}
use Rattle.array_core.proofs.Logged.{nothing_else}
use Rattle.nvram_log.proofs.SettledEach.{both_leave}
use Rattle.register.proofs.Rounds.{same_shelf as shelf_stays}

-- what is found to stand
found_standing : (old : Shelved) (x : Loaded) (missing : Conditions) (arrays : List Array) → IsFoundOn old x missing arrays → (start : Stop) → MayStop old start → IsStanding (geometry_of old) start.image missing arrays
found_standing old x missing arrays found start may = record { stands = found.stands start may; left_out = found.left_out start may }

-- while no drive is written, nothing is stored
unstored : (old : Shelved) (x : Loaded) (missing : Conditions) (arrays : List Array) → IsFoundOn old x missing arrays → (stop : Stop) → ((i : ℕ) → MayLeave (old.disk (drive i)) (stop.image (drive i))) → IsUnstored old missing stop
unstored old x missing arrays found stop leaves slot boot g =
    given_over (geometry_of old) stop.image (λ d. (old.disk d).bytes) missing (failed_by old stop missing) slot boot (losing_within (has_failed (read_now old) stop) missing)
    (λ i lt s. as_read (old.disk (drive i)) (stop.image (drive i)) (found.in_force.clean i (found.in_force.sound i lt s) s) (leaves i)) g

-- while nothing is written
pub while_read : (old mid : Shelved) (x : Loaded) (missing : Conditions) (arrays : List Array) → WritesOnly OnNothing old mid → IsFoundOn old x missing arrays → LeavesOnly old mid (StandsStill old None missing arrays)
while_read old mid x missing arrays wrote found = weaker (λ stop left.
    let each : (d : Device) → MayLeave (old.disk d) (stop.image d) = λ d. nothing_else (λ i w. w) (left.bytes d) in
    record {
      standing = λ bears. standing_with_fewer (geometry_of old) stop.image missing (failed_by old stop missing) arrays (losing_within (has_failed (read_now old) stop) missing) bears
          (found_standing old x missing arrays found (at_time old stop.image) (may_at_time old stop.image each));
      stored = unstored old x missing arrays found stop (λ i. each (drive i));
    }) wrote.any_moment

-- ---- conditions

-- of NVRAM devices those are missing on which a call failed; drives are as they were
abbrev logs_failed : Shelved → Shelved → Conditions → Conditions
logs_failed old mid missing (Drive d) = missing (Drive d)
logs_failed old mid missing (Nv n) = failed_since old mid missing (Nv n)

-- so those that are left are the sound ones, where each other one failed
tells_left : (old mid : Shelved) (x : Loaded) (missing : Conditions) (arrays : List Array) → IsFoundOn old x missing arrays → (members : List Bool) → DroppedCounted old mid x.record.members.nvrams members
    → AreLeft x missing members (logs_failed old mid missing)
tells_left old mid x missing arrays found members dropped = record {
  within = within;
  drives = λ i. refl;
  sound = λ n named sound. elim (dropped n (log_below (geometry_of old) x.record found.in_force.lawful n named) named) [
    | inl m ↦ m
    | inr rose ↦ absurd (risen_on_way (old.disk (nvram n)).faults (old.disk (nvram n)).faults (mid.disk (nvram n)).faults (mid.disk (nvram n)).faults (omega arith) rose (omega arith)
        (sound_since (has_risen (old.disk (nvram n)).faults (mid.disk (nvram n)).faults) (missing (nvram n)) sound).1)
  ];
}
  where
    within : IsWithin missing (logs_failed old mid missing)
    within (Drive d) = as_it_is missing (Drive d)
    within (Nv n) = losing_within (λ d. has_risen (old.disk d).faults (mid.disk d).faults) missing (Nv n)

-- where drives failed too no less is missing
fewer_failed : (old mid : Shelved) (missing : Conditions) → IsWithin (logs_failed old mid missing) (failed_since old mid missing)
fewer_failed old mid missing (Drive d) = losing_within (λ k. has_risen (old.disk k).faults (mid.disk k).faults) missing (Drive d)
fewer_failed old mid missing (Nv n) = as_it_is (failed_since old mid missing) (Nv n)

logs_bear : (old mid : Shelved) (missing : Conditions) → IsBearable (geometry_of old) (failed_since old mid missing) → IsBearable (geometry_of old) (logs_failed old mid missing)
logs_bear old mid missing bears = fewer_borne (geometry_of old) (logs_failed old mid missing) (failed_since old mid missing) (fewer_failed old mid missing) bears

-- of NVRAM devices those that aren't left are missing
abbrev pub logs_lost : Conditions → List Bool → Conditions
logs_lost missing members (Drive d) = missing (Drive d)
logs_lost missing members (Nv n) = if slice_index_or members n.0 false then missing (Nv n) else lost (missing (Nv n))

pub logs_sound : (missing : Conditions) (members : List Bool) (n : ℕ) → logs_lost missing members (nvram n) ≡ Sound → IsMember members n
logs_sound missing members n sound = grind (arith, nat_tests, slice_index_or, never_sound, nvram, cond, lost)

pub logs_left : (x : Loaded) (missing : Conditions) (members : List Bool) → AreLeft x missing members (logs_lost missing members)
logs_left x missing members = grind (arith, nat_tests, logs_sound, as_it_is, slice_index_or, lost_within)

-- where one of the two is sound that is borne
one_missing : (c d : Condition) → (c ≡ Sound) ⊎ (d ≡ Sound) → 0 + cond (is_missing c) 1 0 + cond (is_missing d) 1 0 ≤ 1
one_missing c d h = grind (arith, nat_tests)

-- where the NVRAM devices that the record names were sound, and one of them is left, that is borne
pub logs_borne : (old : Shelved) (x : Loaded) (missing : Conditions) (arrays : List Array) → IsShelf old → old.honest → IsFoundOn old x missing arrays → AreSoundLogs x.record missing → (members : List Bool)
    → IsFewer x.record.members.nvrams members → IsSome members → IsBearable (geometry_of old) (logs_lost missing members)
logs_borne old x missing arrays is h found sound members fewer some = record {
  drives = (found.stands (read_now old) (may_read old is h)).bearable.drives;
  nvrams = one_missing (logs_lost missing members (nvram 0)) (logs_lost missing members (nvram 1)) (elim some [ inl m ↦ inl (left 0 m) | inr m ↦ inr (left 1 m) ]);
}
  where
    left : (n : ℕ) → IsMember members n → logs_lost missing members (nvram n) ≡ Sound
    left n m = rw m (sound n (fewer n m))

-- while nothing is written
pub back_while_read : (old mid : Shelved) (x : Loaded) (missing : Conditions) (arrays : List Array) → WritesOnly OnNothing old mid → IsFoundOn old x missing arrays → LeavesOnly old mid (StandsOnceBack old missing arrays)
back_while_read old mid x missing arrays wrote found = weaker (λ stop left.
    let each : (d : Device) → MayLeave (old.disk d) (stop.image d) = λ d. nothing_else (λ i w. w) (left.bytes d) in
    record { later = missing; within = as_it_is missing; stands = found.stands (at_time old stop.image) (may_at_time old stop.image each) }) wrote.any_moment

-- one NVRAM device isn't missing
one_sound : (shelf : Geometry) (c : Conditions) → IsBearable shelf c → (n : ℕ) × (n < 2) × (c (nvram n) ≡ Sound)
one_sound shelf c bears = grind (arith, nat_tests, one_left, nvram)

-- why the log wasn't read
pub not_read : (old mid : Shelved) (x : Loaded) (missing : Conditions) (arrays : List Array) (ps : List (List AnyFact)) (base : Array) → IsShelf old → IsShelf mid → mid.honest → WritesOnly OnNothing old mid
    → ((i : ℕ) → mid.disk (drive i) ≡ old.disk (drive i)) → IsFoundOn old x missing arrays → HoldTables old x ps base → IsBearable (geometry_of old) (failed_since old mid missing)
    → (fault : ReadFault) → AllFailed fault old mid x.record.members.nvrams → IsLogOpenBy mid x (failed_since old mid missing) arrays ps base (Err (log_fault_of fault))
not_read old mid x missing arrays ps base is is_mid h wrote same found hold bears read_fault.NoMemory all = tt
not_read old mid x missing arrays ps base is is_mid h wrote same found hold bears read_fault.BothLost all =
    let one = one_sound (geometry_of old) (failed_since old mid missing) bears in
    let none : AreLeft x missing [] (logs_failed old mid missing) = tells_left old mid x missing arrays found [] (λ n lt m. inr (all n lt m)) in
    absurd (cc (answers old mid x missing arrays is wrote same found [] (λ n m. absurd (cc m)) (λ n lt m. absurd (cc m)) (logs_failed old mid missing) none (logs_bear old mid missing bears) ps base hold
    (λ d. (mid.disk d).bytes) (may_read mid is_mid h).device one.0 one.1 one.2))

-- what is known where it was only read
pub not_opened : (old mid : Shelved) (x : Loaded) (missing : Conditions) (arrays : List Array) (ps : List (List AnyFact)) (base : Array) (fault : LogFault) → WritesOnly OnNothing old mid → IsFoundOn old x missing arrays
    → (IsBearable (geometry_of old) (failed_since old mid missing) → IsLogOpenBy mid x (failed_since old mid missing) arrays ps base (Err fault)) → OpensLog old mid x missing arrays ps base (Err fault)
not_opened old mid x missing arrays ps base fault wrote found why = record {
  any_moment = while_read old mid x missing arrays wrote found;
  once_back = λ logs. back_while_read old mid x missing arrays wrote found;
  opened = λ counted borne. why borne;
  opened_on = tt;
}

-- the log was read from the devices, and its first commands were done in memory that reads as the base of the tables
pub record WasRead (old mid : Shelved) (x : Loaded) (missing : Conditions) (arrays : List Array) (ps : List (List AnyFact)) (base : Array) (log : NvLog) (count : ℕ) : Type 0 where
  pub is : IsShelf old
  pub is_mid : IsShelf mid
  pub honest : old.honest
  pub on : Continues old mid
  pub wrote : WritesOnly OnNothing old mid
  pub same_drives : (i : ℕ) → mid.disk (drive i) ≡ old.disk (drive i)
  pub found : IsFoundOn old x missing arrays
  pub hold : HoldTables old x ps base
  pub fewer : IsFewer x.record.members.nvrams log.members
  pub dropped : DroppedCounted old mid x.record.members.nvrams log.members
  pub clean : (n : ℕ) → n < 2 → IsMember log.members n → (mid.disk (nvram n)).dirty ≡ []
  pub flushed : log.flushed ≡ x.record.flushed
  pub read : IsReadFrom old.honest (shown_of mid log.members) log
  pub seen : AreAsSeen mid log
  pub within : count ≤ log.count
  pub run : (commands : List Command) → HasRead log commands → IsRun base commands count

module _ (old mid new : Shelved) (x : Loaded) (missing : Conditions) (arrays : List Array) (ps : List (List AnyFact)) (base : Array) (log : NvLog) (count : ℕ) (r : WasRead old mid x missing arrays ps base log count) where
  abbrev shelf : Geometry
  shelf = geometry_of old

  abbrev commands : List Command
  commands = r.read.commands

  abbrev front : List Command
  front = take count commands

  le : count ≤ length commands
  le = omega (arith, r.read.has.count, r.within)

  placed : (i : ℕ) (c : Command) → slice_get commands i ≡ Some c → IsInSlot (shown_of mid log.members) x.record.flushed i c
  placed i c at = subst (λ (f : ℕ). IsInSlot (shown_of mid log.members) f i c) r.flushed (r.read.shown r.honest i c at)

  ends : length commands < 64 → (n : ℕ) (c : Command) → n < 2 → ¬ (Shows (shown_of mid log.members) n x.record.flushed (length commands) c)
  ends few n c lt s = r.read.ends r.honest (omega (arith, few, r.read.has.count)) n c lt
      (subst (λ (k : ℕ). Shows (shown_of mid log.members) n log.flushed k c) r.read.has.count (subst (λ (f : ℕ). Shows (shown_of mid log.members) n f (length commands) c) (sym r.flushed) s))

  -- in conditions in which the devices that answered are left
  module _ (now : Conditions) (are_left : AreLeft x missing log.members now) (bears : IsBearable (geometry_of old) now) where
    answered : (n : ℕ) → n < 2 → now (nvram n) ≡ Sound → IsMember log.members n
    answered n lt s = answers old mid x missing arrays r.is r.wrote r.same_drives r.found log.members r.fewer r.clean now are_left bears ps base r.hold (λ d. (mid.disk d).bytes) (may_read mid r.is_mid (r.on.honest r.honest)).device n lt s

    one_of : Contains arrays (after_all base front)
    one_of = is_one old mid x missing arrays r.is r.wrote r.same_drives r.found log.members r.fewer r.clean now are_left bears ps base r.hold (λ d. (mid.disk d).bytes) (may_read mid r.is_mid (r.on.honest r.honest)).device
        commands count le (r.run commands r.read.has) placed ends

    pub agree_in : Agree mid log.members log.flushed front
    agree_in n i c lt m short t =
        agree_here old mid x missing arrays r.is r.wrote r.same_drives r.found log.members r.fewer r.clean now are_left bears ps base r.hold (λ d. (mid.disk d).bytes) (may_read mid r.is_mid (r.on.honest r.honest)).device
        commands count le (r.run commands r.read.has) placed ends n i c m short (subst (λ (f : ℕ). ShowsIn (mid.disk (nvram n)).bytes f i c) r.flushed t)

  -- so are those that tell on which NVRAM devices calls failed
  tells_mid : AreLeft x missing log.members (logs_failed old mid missing)
  tells_mid = tells_left old mid x missing arrays r.found log.members r.dropped

  pub agree : IsBearable (geometry_of old) (failed_since old mid missing) → Agree mid log.members log.flushed front
  agree bears = agree_in (logs_failed old mid missing) tells_mid (logs_bear old mid missing bears)

  -- ---- it is settled

  module _ (next : Continues mid new) (writes : WritesOnly (OnMembers log.members) mid new)
      (settling : (cs : List Command) → HasRead log cs → AreAsSeen mid log → Agree mid log.members log.flushed (take count cs) → LeavesOnly mid new (SettleBy mid log.members log.flushed (take count cs))) where
    drives_left : (stop : Stop) → LeavesBut (OnMembers log.members) mid stop → (i : ℕ) → MayLeave (old.disk (drive i)) (stop.image (drive i))
    drives_left stop left i = subst (λ (k : Disk). MayLeave k (stop.image (drive i))) (r.same_drives i) (nothing_else (λ n w. w) (left.bytes (drive i)))

    -- at a moment of it
    standing_then : (now : Conditions) → AreLeft x missing log.members now → IsBearable (geometry_of old) now → (stop : Stop) → LeavesBut (OnMembers log.members) mid stop → SettleBy mid log.members log.flushed front stop
        → (later : Conditions) → IsWithin now later → IsBearable (geometry_of old) later → IsStanding (geometry_of old) stop.image later arrays
    standing_then now are_left bears stop left by later within borne =
        standing_settling old mid x missing arrays r.is r.wrote r.same_drives r.found log.members r.fewer r.clean now are_left bears ps base r.hold
        commands count le (r.run commands r.read.has) placed ends r.is_mid (r.on.honest r.honest) stop left (subst (λ (f : ℕ). SettleBy mid log.members f front stop) r.flushed by) later within borne

    settle_moments : (now : Conditions) → AreLeft x missing log.members now → IsBearable (geometry_of old) now → LeavesOnly mid new (λ stop. SettleBy mid log.members log.flushed front stop × LeavesBut (OnMembers log.members) mid stop)
    settle_moments now are_left bears = both_leave (settling commands r.read.has r.seen (agree_in now are_left bears)) writes.any_moment

    while_settling : LeavesOnly mid new (StandsStill old None missing arrays)
    while_settling = elim (bearable_or_not (geometry_of old) (failed_since old mid missing)) [
      | inl bears ↦ weaker (λ stop both. record {
        standing = λ borne.
            standing_then (logs_failed old mid missing) tells_mid (logs_bear old mid missing bears) stop both.1 both.0 (failed_by old stop missing)
            (within_twice (logs_failed old mid missing) (failed_since old mid missing) (failed_by old stop missing) (fewer_failed old mid missing) (by_stop old mid stop missing both.1.counts)) borne;
        stored = unstored old x missing arrays r.found stop (drives_left stop both.1);
      })
          (settle_moments (logs_failed old mid missing) tells_mid (logs_bear old mid missing bears))
      | inr not ↦ weaker (λ stop left. record {
        standing = λ borne. absurd (not (fewer_borne (geometry_of old) (failed_since old mid missing) (failed_by old stop missing) (by_stop old mid stop missing left.counts) borne));
        stored = unstored old x missing arrays r.found stop (drives_left stop left);
      }) writes.any_moment
    ]

    pub while_opening : LeavesOnly old new (StandsStill old None missing arrays)
    while_opening = then_run r.on (while_read old mid x missing arrays r.wrote r.found) while_settling

    -- whatever has failed: those devices aren't missing that answered
    pub back_while_opening : AreSoundLogs x.record missing → IsSome log.members → LeavesOnly old new (StandsOnceBack old missing arrays)
    back_while_opening sound some =
        let now = logs_lost missing log.members in
        let left = logs_left x missing log.members in
        let bears = logs_borne old x missing arrays r.is r.honest r.found sound log.members r.fewer some in
        then_run r.on (back_while_read old mid x missing arrays r.wrote r.found)
        (weaker (λ stop both. record { later = now; within = left.within; stands = (standing_then now left bears stop both.1 both.0 now (as_it_is now) bears).stands }) (settle_moments now left bears))

    -- ---- afterwards

    module _ (is_new : IsShelf new) (drives : (i : ℕ) → new.disk (drive i) ≡ mid.disk (drive i)) (now_members : List Bool) (now_fewer : IsFewer log.members now_members)
        (later : Conditions) (are_left : AreLeft x missing now_members later) (borne : IsBearable (geometry_of old) later) where
      all_on : Continues old new
      all_on = continues_trans r.on next

      -- so they were before
      left_mid : AreLeft x missing log.members later
      left_mid = record { within = are_left.within; drives = are_left.drives; sound = λ n named s. now_fewer n (are_left.sound n named s) }

      pub agree_later : Agree mid log.members log.flushed front
      agree_later = agree_in later left_mid borne

      was_sound : (d : Device) → later d ≡ Sound → missing d ≡ Sound
      was_sound d e = sound_before (missing d) (later d) (are_left.within d) e

      pub still_sound : (n : ℕ) → n < 2 → later (nvram n) ≡ Sound → IsMember now_members n
      still_sound n lt s = are_left.sound n (r.fewer n (answered later left_mid borne n lt s)) s

      pub one_is_left : (IsSome now_members → ⊥) → ⊥
      one_is_left lost =
          let one = one_sound (geometry_of old) later borne in
          some_of one.0 one.1 (still_sound one.0 one.1 one.2)
        where
          some_of : (n : ℕ) → n < 2 → IsMember now_members n → ⊥
          some_of zero lt m = lost (inl m)
          some_of (suc zero) lt m = lost (inr m)
          some_of (suc (suc n)) lt m = absurd (omega (arith, lt))

      -- the drives are as they were
      same_all : (i : ℕ) → new.disk (drive i) ≡ old.disk (drive i)
      same_all i = drives i ∙ r.same_drives i

      same_shelf : geometry_of old ≡ geometry_of new
      same_shelf = shelf_stays all_on

      module _ (start : Stop) (may : MayStop new start) where
        -- what might have been left of the NVRAM devices before
        abbrev image_before : Image
        image_before (Drive d) = start.image (Drive d)
        image_before (Nv n) = (old.disk (Nv n)).bytes

        left_then : (d : Device) → MayLeave (old.disk d) (image_before d)
        left_then (Drive d) = subst (λ (k : Disk). MayLeave k (start.image (Drive d))) (same_all d.0) (may.device (Drive d))
        left_then (Nv n) = (may_read old r.is r.honest).device (Nv n)

        stop_before : MayStop old (at_time old image_before)
        stop_before = may_at_time old image_before left_then

        standing_here : IsStanding (geometry_of old) start.image later arrays
        standing_here =
            let there = ((settle_moments later left_mid borne).each (at_time new start.image) (is_new.counts_now mid.moment (at_time new start.image) next.later (may_at_time new start.image may.device))).1 in
            standing_then later left_mid borne (at_time new start.image) there.1 there.0 later (as_it_is later) borne

        given_here : MayBeGiven (geometry_of old) start.image later (slot_in x.slot) x.record
        given_here = grind (arith, nat_tests, given_moves, twice_other, stop_before)

      found_still : IsFoundOn new x later arrays
      found_still = record {
        in_force = record {
          lawful = subst (λ (g : Geometry). IsRecordOf g x.record) same_shelf r.found.in_force.lawful;
          sound = λ i lt s. r.found.in_force.sound i (omega (arith, lt, all_on.drives)) (was_sound (drive i) s);
          clean = λ i m s. subst (λ (d : Disk). d.dirty ≡ []) (sym (same_all i)) (r.found.in_force.clean i m (was_sound (drive i) s));
          shown = λ i m s. subst (λ (d : Disk). shown_by (other_slot (other_slot (slot_in x.slot))) d.bytes ≡ Some (spelling x.record)) (sym (same_all i)) (r.found.in_force.shown i m (was_sound (drive i) s));
          given = λ start may. subst (λ (g : Geometry). MayBeGiven g start.image later (other_slot (other_slot (slot_in x.slot))) x.record) same_shelf
              (subst (λ (t : BootSlot). MayBeGiven (geometry_of old) start.image later t x.record) (sym (twice_other (slot_in x.slot))) (given_here start may));
        };
        in_its_slot = r.found.in_its_slot;
        named = r.found.named;
        bodies = λ i m. subst (λ (d : Disk). body_in (slot_in x.slot) d.bytes ≡ spelling x.record) (sym (same_all i)) (r.found.bodies i m);
        room = r.found.room;
        stands = λ stop may. subst (λ (g : Geometry). Stands g stop.image later arrays) same_shelf (standing_here stop may).stands;
        left_out = λ start may d out. subst (λ (g : Geometry). IsNamedByNone g start.image later d) same_shelf ((standing_here start may).left_out d out);
      }

      -- the drives are as they were, and so the tables
      hold_still : HoldTables new x ps base
      hold_still start may = subst (λ (g : Geometry). TablesHold g start.image (slot_in x.slot) x.record ps base) same_shelf
          (same_drives_hold (geometry_of old) (image_before start may) start.image (slot_in x.slot) x.record ps base (λ i. refl) (r.hold (at_time old (image_before start may)) (stop_before start may)))

      pub opened_on : (o : OpenedLog) → o.log.members ≡ now_members → IsSome o.log.members → o.log.flushed ≡ log.flushed → HasRead o.log front
          → HoldsOn new o.log.members o.log.flushed front → IsLogOpen new x later arrays ps base o
      opened_on o same some flushed has holds = record {
        found = found_still;
        hold = hold_still;
        commands = front;
        has = has;
        flushed = flushed ∙ r.flushed;
        accepted = (r.run commands r.read.has).accepted;
        one_of = one_of later left_mid borne;
        holds = subst (λ (f : ℕ). HoldsOn new o.log.members f front) (flushed ∙ r.flushed) holds;
        some = some;
        fewer = λ n m. r.fewer n (now_fewer n (subst (λ (l : List Bool). IsMember l n) same m));
        sound = λ n lt s. subst (λ (l : List Bool). IsMember l n) (sym same) (still_sound n lt s);
        left_out = λ n out m. left_out_not n out (r.fewer n (now_fewer n (subst (λ (l : List Bool). IsMember l n) same m)));
      }
        where
          left_out_not : (n : ℕ) → later (nvram n) ≡ LeftOut → names x.record (nvram n) ≡ true → ⊥
          left_out_not n out named =
              let image : Image = λ d. (new.disk d).bytes in
              let may = may_at_time new image (may_read new is_new (all_on.honest r.honest)).device in
              absurd (cc (named, (standing_here (at_time new image) may).left_out (nvram n) out (slot_in x.slot) x.record (given_here (at_time new image) may)))

    -- where what failed is borne
    module _ (is_new : IsShelf new) (drives : (i : ℕ) → new.disk (drive i) ≡ mid.disk (drive i)) (now_members : List Bool) (now_fewer : IsFewer log.members now_members)
        (now_dropped : DroppedCounted mid new log.members now_members) (borne : IsBearable (geometry_of old) (failed_since old new missing)) where
      tells_new : AreLeft x missing now_members (logs_failed old new missing)
      tells_new = tells_left old new x missing arrays r.found now_members (dropped_twice old mid new x.record.members.nvrams log.members now_members r.on next r.dropped now_dropped)

      pub bears_mid : IsBearable (geometry_of old) (failed_since old mid missing)
      bears_mid = fewer_borne (geometry_of old) (failed_since old mid missing) (failed_since old new missing) (since_later old mid new missing next) borne

      pub not_lost : (IsSome now_members → ⊥) → ⊥
      not_lost = one_is_left is_new drives now_members now_fewer (logs_failed old new missing) tells_new (logs_bear old new missing borne)

      -- no drive was called, and of each that isn't missing the count goes on
      failed_new : AreCounted old missing → AreLeft x missing now_members (failed_since old new missing)
      failed_new counted = grind (arith, nat_tests, losing_within, unrisen, tells_new)

      pub opened : AreCounted old missing → (o : OpenedLog) → o.log.members ≡ now_members → IsSome o.log.members → o.log.flushed ≡ log.flushed → HasRead o.log front
          → HoldsOn new o.log.members o.log.flushed front → IsLogOpen new x (failed_since old new missing) arrays ps base o
      opened counted = opened_on is_new drives now_members now_fewer (failed_since old new missing) (failed_new counted) borne

    -- what is known once it was settled, or could not be
    module _ (some : IsSome log.members) (is_new : IsShelf new) (drives : (i : ℕ) → new.disk (drive i) ≡ mid.disk (drive i)) (now_members : List Bool) (now_fewer : IsFewer log.members now_members)
        (now_dropped : DroppedCounted mid new log.members now_members) where
      pub not_settled : (IsSome now_members → ⊥) → (fault : LogFault) → OpensLog old new x missing arrays ps base (Err fault)
      not_settled lost fault = grind (arith, nat_tests, while_opening, back_while_opening, opened, not_lost, opened_on)

      pub settled : (o : OpenedLog) → o.log.members ≡ now_members → IsSome o.log.members → o.log.flushed ≡ log.flushed → HasRead o.log front
          → (Agree mid log.members log.flushed front → HoldsOn new o.log.members o.log.flushed front) → OpensLog old new x missing arrays ps base (Ok o)
      settled o same some_left flushed has holds = record {
        any_moment = while_opening;
        once_back = λ logs. back_while_opening logs some;
        opened = λ counted borne.
            opened is_new drives now_members now_fewer now_dropped borne counted o same some_left flushed has (holds (agree (bears_mid is_new drives now_members now_fewer now_dropped borne)));
        opened_on = λ later left borne.
            let are_left = subst (λ (l : List Bool). AreLeft x missing l later) same left in
            let borne_old = subst (λ (g : Geometry). IsBearable g later) (sym (shelf_stays (continues_trans r.on next))) borne in
            opened_on is_new drives now_members now_fewer later are_left borne_old o same some_left flushed has (holds (agree_later is_new drives now_members now_fewer later are_left borne_old));
      }

-- what the calls say of a log that was read
pub was_read : (old mid : Shelved) (x : Loaded) (missing : Conditions) (arrays : List Array) (ps : List (List AnyFact)) (base : Array) (nvrams : List Bool) (flushed : ℕ) (log : NvLog) (count : ℕ) (was now : Kept)
    → IsShelf old → IsShelf mid → old.honest → Continues old mid → WritesOnly OnNothing old mid → ((i : ℕ) → mid.disk (drive i) ≡ old.disk (drive i))
    → x.record.members.nvrams ≡ nvrams → x.record.flushed ≡ flushed → IsFoundOn old x missing arrays → HasTables old x was ps base → IsFewer nvrams log.members → DroppedCounted old mid nvrams log.members
    → ((n : ℕ) → n < 2 → IsMember log.members n → (mid.disk (nvram n)).dirty ≡ []) → log.flushed ≡ flushed → IsReadFrom old.honest (shown_of mid log.members) log → AreAsSeen mid log
    → count ≤ log.count → ((commands : List Command) → HasRead log commands → IsReplayed was commands count now) → WasRead old mid x missing arrays ps base log count
was_read old mid x missing arrays ps base nvrams flushed log count was now is is_mid h on wrote same same_nvrams same_flushed found has fewer dropped clean flushed_is read seen within replayed = grind (arith, nat_tests)

-- ---- faults

pub nothing_on : (named : List Bool) (d : Device) (i : ℕ) → OnNothing d i → OnMembers named d i
nothing_on named d i w = absurd w

pub fewer_on : (named members : List Bool) → IsFewer named members → (d : Device) (i : ℕ) → OnMembers members d i → OnMembers named d i
fewer_on named members fewer (Drive d) i w = w
fewer_on named members fewer (Nv n) i w = fewer n.0 w

pub read_fault_is : (old mid : Shelved) (named : List Bool) (fault : ReadFault) → AllFailed fault old mid named → IsLogFault (log_fault_of fault) old mid named
read_fault_is old mid named read_fault.NoMemory all = tt
read_fault_is old mid named read_fault.BothLost all = all

pub both_lost : (old mid new : Shelved) (named members now_members : List Bool) → Continues old mid → Continues mid new → DroppedCounted old mid named members → DroppedCounted mid new members now_members
    → (IsSome now_members → ⊥) → (n : ℕ) → n < 2 → IsMember named n → Rises (old.disk (nvram n)).faults (new.disk (nvram n)).faults
both_lost old mid new named members now_members on next first then_dropped lost n lt m = grind (arith, nat_tests, dropped_twice)
