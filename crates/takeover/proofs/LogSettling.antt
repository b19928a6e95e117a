-- The log that was read from devices that stand for arrays: it leads to one of them, and settling it changes nothing that they stand for.
use Rattle.takeover.proofs.Prelude.{nat_tests, ◌≡◌, inl, inr, ℕ, ◌<◌, ◌≤◌, ◌||◌, List, [], length, take, refl, sym, ◌∙◌, ap, subst, arith, Bool, true, false, Option, Some, None, Contains, if◌then◌else◌, slice_get, slice_index, slice_index_or, length-take, cases_Bool, slice_get_cases, Command, after_all, Geometry, Image, View, Condition, Conditions, Sound, LeftOut, MayShow, MayShowAs, IsBearable, IsWithin, MayBecome, is_sound, drive, nvram, Array, AnyFact, Device, Drive, Nv, BootRecord, spelling, BootSlot, shown_by, names, of_members, Shows, ShowsIn, IsInSlot, LogStands, answering, SettlesLog, MaySettle, Stands, IsViewOf, MayBeGiven, IsReadBy, shower, one_log, twice_other, more_may_go_missing, within_twice, kept_some, was_left_out, sound_before, read_holds, one_base, geometry_of, missing_if, Shelved, Stop, Disk, IsShelf, MayStop, MayLeave, LeavesBut, WritesOnly, as_read, IsStanding, shows_move, log_moves, Loaded, slot_in, IsFewer, OnMembers, OnNothing, SettlesBy, SettleBy, IsFoundOn, AreLeft, IsRun, HoldTables}
use Rattle.takeover.proofs.Enough.{log_below}
use Rattle.takeover.proofs.Loading.{is_named, shows_now}
use Rattle.std.proofs.Math.Seq.{take-length}
use Rattle.array_spec.proofs.LogSettled.{settling_keeps}
use Rattle.boot_region.proofs.Composing.{as_it_is, is_sound_is}
use Rattle.nvram_log.specs.Prelude.{shown_by as shown_of, IsMember}
use Rattle.takeover.proofs.Chains.{replayed_stands, of_front, agrees}
use Rattle.takeover.proofs.Generations.{this_or_later}
use Rattle.takeover.proofs.NothingStored.{left_out_settled}
use Rattle.array_core.proofs.Logged.{nothing_else}

-- ---- conditions

pub stays : (c : Condition) (b : Bool) → (c ≡ Sound → b ≡ false) → missing_if b c ≡ c
stays c b h = grind (arith, nat_tests)

-- ---- what devices show

shows_too : (c : Condition) (b : Bool) (bytes : List ℕ) → (c ≡ LeftOut → b ≡ false) → MayShowAs c bytes (if is_sound c || b then Some bytes else None)
shows_too c b bytes h = grind (arith, nat_tests)

shows_alike : (named sound member : Bool) (o : Option (List ℕ)) → (member ≡ true → named ≡ true) → (named ≡ true → sound ≡ true → member ≡ true)
    → (if member then o else None) ≡ (if named then (if sound || member then o else None) else None)
shows_alike named sound member o h k = grind (arith, nat_tests)

same_if : (b : Bool) (p q : List ℕ) → (b ≡ true → p ≡ q) → (if b then Some p else None) ≡ (if b then Some q else None)
same_if true p q h = ap (λ (l : List ℕ). Some l) (h refl)
same_if false p q h = refl

one_leaves : (b : Bool) (disk : Disk) (bytes : List ℕ) → ((i : ℕ) → slice_index disk.bytes i < 256) → (b ≡ false → MayLeave disk bytes) → MayLeave disk (if b then disk.bytes else bytes)
one_leaves true disk bytes are h = record { size = refl; is_byte = are; clean = λ i out. refl }
one_leaves false disk bytes are h = h refl

-- ---- what may be given

-- where the drives and what is known of them are the same, so is what may be given
module _ (shelf : Geometry) (old new : Image) (missing later : Conditions) (slot : BootSlot) (boot : BootRecord) (same : (i : ℕ) → new (drive i) ≡ old (drive i))
    (alike : (i : ℕ) → later (drive i) ≡ missing (drive i)) (bears : IsBearable shelf later) (g : MayBeGiven shelf old missing slot boot) where
  abbrev more_missing : Conditions
  more_missing (Drive d) = g.more (Drive d)
  more_missing (Nv n) = later (Nv n)

  abbrev view_then : View
  view_then (Drive d) = g.view (Drive d)
  view_then (Nv n) = Some (new (Nv n))

  all_within : IsWithin later more_missing
  all_within (Drive d) = subst (λ (c : Condition). MayBecome c (g.more (Drive d))) (sym (alike d.0)) (g.appears.within (Drive d))
  all_within (Nv n) = as_it_is later (Nv n)

  all_shown : (d : Device) → more_missing d ≡ Sound → view_then d ≡ Some (new d)
  all_shown (Drive d) s = g.appears.shown (Drive d) s ∙ ap (λ (l : List ℕ). Some l) (sym (same d.0))
  all_shown (Nv n) s = refl

  pub given_moves : MayBeGiven shelf new later slot boot
  given_moves = record {
    more = more_missing;
    view = view_then;
    appears = record { within = all_within; bearable = record { drives = g.appears.bearable.drives; nvrams = bears.nvrams }; shown = all_shown };
    lawful = g.lawful;
    effective = record { decided = g.effective.decided; highest = g.effective.highest };
  }

-- ---- the log was read, and nothing written

module _ (old mid : Shelved) (x : Loaded) (missing : Conditions) (arrays : List Array) (is : IsShelf old) (wrote : WritesOnly OnNothing old mid)
    (same_drives : (i : ℕ) → mid.disk (drive i) ≡ old.disk (drive i)) (found : IsFoundOn old x missing arrays)
    (members : List Bool) (fewer : IsFewer x.record.members.nvrams members) (clean : (n : ℕ) → n < 2 → IsMember members n → (mid.disk (nvram n)).dirty ≡ [])
    (now : Conditions) (are_left : AreLeft x missing members now) (bears : IsBearable (geometry_of old) now) (ps : List (List AnyFact)) (base : Array) (hold : HoldTables old x ps base) where
  abbrev shelf : Geometry
  shelf = geometry_of old

  abbrev slot : BootSlot
  slot = slot_in x.slot

  abbrev boot : BootRecord
  boot = x.record

  was_sound : (d : Device) → now d ≡ Sound → missing d ≡ Sound
  was_sound d e = sound_before (missing d) (now d) (are_left.within d) e

  left_out_before : (d : Device) → now d ≡ LeftOut → missing d ≡ LeftOut
  left_out_before d e = was_left_out (missing d) (now d) (are_left.within d) e

  module _ (image : Image) (leaves : (d : Device) → MayLeave (mid.disk d) (image d)) where
    pub left_before : (d : Device) → MayLeave (old.disk d) (image d)
    left_before d = grind (arith, nat_tests)

    abbrev start : Stop
    start = record { image = image; faults = λ d. (old.disk d).faults; write_faults = λ d. (old.disk d).write_faults; output = old.output; taken = old.taken }

    may : MayStop old start
    may = record { device = left_before; counts = record { faults = λ d. omega arith; write_faults = λ d. omega arith }; output = refl; taken = refl }

    pub stands : Stands shelf image now arrays
    stands = more_may_go_missing shelf image missing now arrays are_left.within bears (found.stands start may)

    given_then : MayBeGiven shelf image missing slot boot
    given_then = subst (λ (t : BootSlot). MayBeGiven shelf image missing t boot) (twice_other slot) (found.in_force.given start may)

    pub given : MayBeGiven shelf image now slot boot
    given = given_moves shelf image image missing now slot boot (λ i. refl) are_left.drives bears given_then

    shows : (i : ℕ) → i < old.drives → now (drive i) ≡ Sound → shown_by slot (image (drive i)) ≡ Some (spelling boot)
    shows i lt sound = grind (arith, nat_tests, was_sound, as_read, left_before, twice_other)

    -- what the devices show alone
    abbrev view : View
    view (Drive d) = if is_sound (now (Drive d)) then Some (image (Drive d)) else None
    view (Nv n) = if is_sound (now (Nv n)) || slice_index_or members n.0 false then Some (image (Nv n)) else None

    not_member : (n : ℕ) → now (nvram n) ≡ LeftOut → slice_index_or members n false ≡ false
    not_member n out = elim (cases_Bool (slice_index_or members n false)) [
      | inl m ↦ absurd (cc (fewer n m, found.left_out start may (nvram n) (left_out_before (nvram n) out) slot boot given_then))
      | inr isn't ↦ isn't
    ]

    shown_now : MayShow image now view
    shown_now (Drive d) = shows_now (now (Drive d)) (image (Drive d))
    shown_now (Nv n) = shows_too (now (Nv n)) (slice_index_or members n.0 false) (image (Nv n)) (not_member n.0)

    is_view : IsViewOf shelf image now now view
    is_view = record { within = as_it_is now; bearable = bears; shown = shown_now }

    abbrev its_base : Array
    its_base = (stands.reads slot boot given).base

    reading : IsReadBy shelf now (of_members slot boot view) slot boot its_base arrays
    reading = (stands.reads slot boot given).each now view is_view

    -- that of the tables
    pub base_is : its_base ≡ base
    base_is = one_base shelf (of_members slot boot view) boot its_base base reading.holds
        (read_holds shelf image missing now slot boot ps base (λ i out. found.left_out start may (drive i) out slot boot given_then) (hold start may) view (wider is_view) reading.all_hold)
      where
        wider : IsViewOf shelf image now now view → IsViewOf shelf image missing now view
        wider v = record { within = are_left.within; bearable = v.bearable; shown = v.shown }

    -- each device that isn't missing is a member
    pub answers : (n : ℕ) → n < 2 → now (nvram n) ≡ Sound → IsMember members n
    answers n lt sound = are_left.sound n (is_named (names boot (nvram n)) (view (nvram n)) (reading.all_hold (nvram n) lt sound)) sound

    fewer_missing : (slot2 : BootSlot) (boot2 : BootRecord) → MayBeGiven shelf image now slot2 boot2 → MayBeGiven shelf image missing slot2 boot2
    fewer_missing slot2 boot2 g = grind (arith, nat_tests, within_twice)

    pub may_settle : MaySettle shelf image now members slot boot
    may_settle = record {
      given = given;
      no_earlier = λ slot2 boot2 g2. this_or_later shelf image now arrays slot boot is.drives.0 found.in_force.lawful found.in_its_slot shows stands view is_view slot2 boot2 g2;
      sound = answers;
      named = λ n m. fewer n m;
      left_out = λ n out slot2 boot2 g2. found.left_out start may (nvram n) (left_out_before (nvram n) out) slot2 boot2 (fewer_missing slot2 boot2 g2);
    }

    alike : (j : ℕ) → answering members image (nvram j) ≡ of_members slot boot view (nvram j)
    alike j = grind (arith, nat_tests, shows_alike, is_sound_is)

    as_shown : (j : ℕ) → shown_of mid members (nvram j) ≡ answering members image (nvram j)
    as_shown j = same_if (slice_index_or members j false) (mid.disk (nvram j)).bytes (image (nvram j))
        (λ m. sym (as_read (mid.disk (nvram j)) (image (nvram j)) (clean j (log_below shelf boot found.in_force.lawful j (fewer j m)) m) (leaves (nvram j))))

    -- the commands were read and applied
    module _ (commands : List Command) (count : ℕ) (le : count ≤ length commands) (run : IsRun base commands count)
        (placed : (i : ℕ) (c : Command) → slice_get commands i ≡ Some c → IsInSlot (shown_of mid members) x.record.flushed i c)
        (ends : length commands < 64 → (n : ℕ) (c : Command) → n < 2 → ¬ (Shows (shown_of mid members) n x.record.flushed (length commands) c)) where
      abbrev log : List Command
      log = take count commands

      size : length log ≡ count
      size = omega (arith, length-take count commands, le)

      pub log_stands : LogStands (answering members image) boot.flushed its_base log
      log_stands = subst (λ (a : Array). LogStands (answering members image) boot.flushed a log) (sym base_is)
          (log_moves (shown_of mid members) (answering members image) as_shown boot.flushed 0 base log (replayed_stands (shown_of mid members) boot.flushed base commands count run size placed ends le))

      pub is_one : Contains arrays (after_all base log)
      is_one =
          let mine : LogStands (of_members slot boot view) boot.flushed its_base log = log_moves (answering members image) (of_members slot boot view) alike boot.flushed 0 its_base log log_stands in
          let same : reading.leads.log ≡ log = one_log (of_members slot boot view) boot.flushed 0 its_base reading.leads.log log reading.leads.log_stands mine in
          let whole : take (length reading.leads.log) reading.leads.log ≡ log = take-length reading.leads.log ∙ same in
          subst (λ (a : Array). Contains arrays (after_all a log)) base_is
          (subst (λ (l : List Command). Contains arrays (after_all its_base l)) whole (reading.leads.fronts (length reading.leads.log) reading.leads.enough (omega arith)))

      pub agree_here : (n i : ℕ) (c : Command) → IsMember members n → i < length log → ShowsIn (image (nvram n)) boot.flushed i c → slice_get log i ≡ Some c
      agree_here n i c m short t = elim (slice_get_cases log i).1 [
        | inl some ↦
            let it = shower (shown_of mid members) boot.flushed i some.0 (placed i some.0 (of_front count commands i some.0 some.2 size)) in
            let there : Shows (of_members slot boot view) it.0 boot.flushed i some.0 =
            shows_move (answering members image) (of_members slot boot view) alike it.0 boot.flushed i some.0 (shows_move (shown_of mid members) (answering members image) as_shown it.0 boot.flushed i some.0 it.2) in
            let own : answering members image (nvram n) ≡ Some (image (nvram n)) = kept_some (slice_index_or members n false) (Some (image (nvram n))) (image (nvram n)) m refl in
            let here : Shows (of_members slot boot view) n boot.flushed i c = record { slot = t.slot; bytes = image (nvram n); shown = sym (alike n) ∙ own; gate = t.gate; spelled = t.spelled } in
            let same : some.0 ≡ c = agrees (of_members slot boot view) boot.flushed reading.leads.devices_agree it.0 n i some.0 c it.1 (log_below shelf boot found.in_force.lawful n (fewer n m)) there here in
            some.2 ∙ ap (λ (d : Command). Some d) same
        | inr past ↦ absurd (omega (arith, past.0, short))
      ]

  -- ---- while it is settled

  module _ (commands : List Command) (count : ℕ) (le : count ≤ length commands) (run : IsRun base commands count)
      (placed : (i : ℕ) (c : Command) → slice_get commands i ≡ Some c → IsInSlot (shown_of mid members) x.record.flushed i c)
      (ends : length commands < 64 → (n : ℕ) (c : Command) → n < 2 → ¬ (Shows (shown_of mid members) n x.record.flushed (length commands) c))
      (is_mid : IsShelf mid) (honest : mid.honest) (stop : Stop) (left : LeavesBut (OnMembers members) mid stop) (by : SettleBy mid members x.record.flushed (take count commands) stop)
      (later : Conditions) (within : IsWithin now later) (bears_later : IsBearable (geometry_of old) later) where
    abbrev settled : List Command
    settled = take count commands

    -- what was there before
    abbrev was_there : Image
    was_there (Drive d) = stop.image (Drive d)
    was_there (Nv n) = if slice_index_or members n.0 false then (mid.disk (Nv n)).bytes else stop.image (Nv n)

    were_left : (d : Device) → MayLeave (mid.disk d) (was_there d)
    were_left (Drive d) = nothing_else (λ i w. w) (left.bytes (Drive d))
    were_left (Nv n) = one_leaves (slice_index_or members n.0 false) (mid.disk (Nv n)) (stop.image (Nv n)) (is_mid.bytes honest (Nv n)) (λ isn't. nothing_else (λ i w. absurd (cc (w, isn't))) (left.bytes (Nv n)))

    member_is : (n : ℕ) → IsMember members n → was_there (nvram n) ≡ (mid.disk (nvram n)).bytes
    member_is n m = ap (λ (b : Bool). if b then (mid.disk (nvram n)).bytes else stop.image (nvram n)) m

    other_is : (n : ℕ) → slice_index_or members n false ≡ false → was_there (nvram n) ≡ stop.image (nvram n)
    other_is n m = ap (λ (b : Bool). if b then (mid.disk (nvram n)).bytes else stop.image (nvram n)) m

    cleaned : (n : ℕ) → IsMember members n → (mid.disk (nvram n)).dirty ≡ []
    cleaned n m = clean n (log_below shelf boot found.in_force.lawful n (fewer n m)) m

    settling_of : (n : ℕ) → IsMember members n → SettlesBy (mid.disk (nvram n)) boot.flushed settled (stop.image (nvram n))
    settling_of n m = by n (log_below shelf boot found.in_force.lawful n (fewer n m)) m

    -- what a member might have left is what was there
    same_was : (n : ℕ) (m : IsMember members n) → (settling_of n m).was ≡ was_there (nvram n)
    same_was n m = as_read (mid.disk (nvram n)) (settling_of n m).was (cleaned n m) (settling_of n m).may ∙ sym (member_is n m)

    settles_log : SettlesLog members boot.flushed settled was_there stop.image
    settles_log = record {
      only_nvram = record { drive = λ i. refl; size = λ i. (left.bytes (nvram i)).size ∙ sym (were_left (nvram i)).size };
      others = λ n isn't. sym (other_is n isn't);
      no_other = λ n i c m t. elim ((settling_of n m).no_other i c t) [
        | inl e ↦ inl e
        | inr u ↦ inr (subst (λ (l : List ℕ). ShowsIn l boot.flushed i c) (same_was n m) u)
      ];
      still = λ n i c m short t. (settling_of n m).still (cleaned n m) i c short (subst (λ (l : List ℕ). ShowsIn l boot.flushed i c) (member_is n m) t);
      none_elsewhere = λ n i other c m ne t. subst (λ (l : List ℕ). ShowsIn l other i c) (same_was n m) ((settling_of n m).none_elsewhere other i c ne t);
    }

    pub stands_settling : Stands shelf stop.image later arrays
    unfolding may_settle given
    stands_settling =
        settling_keeps shelf was_there stop.image now later members slot boot settled arrays within bears_later (stands was_there were_left) (may_settle was_there were_left)
        (log_stands was_there were_left commands count le run placed ends) settles_log

    within_all : IsWithin missing later
    within_all = within_twice missing now later are_left.within within

    pub standing_settling : IsStanding shelf stop.image later arrays
    standing_settling = record {
      stands = stands_settling;
      left_out = left_out_settled shelf was_there stop.image missing later members boot.flushed settled within_all settles_log (found.left_out (start was_there were_left) (may was_there were_left));
    }
