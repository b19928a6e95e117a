-- The log of an open array is cleared, whose commands are in its tables: what a stop leaves at each moment, and what the devices hold then.
use Rattle.array_core.proofs.Prelude.{nat_tests, ◌≡◌, inl, inr, ℕ, ◌+◌, ◌<◌, List, [], ◌∷◌, length, refl, sym, ap, subst, arith, Bool, true, Some, Contains, take_all, Command, after_all, Device, Geometry, Conditions, Sound, LeftOut, IsBearable, IsWithin, drive, nvram, Array, BootRecord, spelling, BootSlot, body_in, generation_in, names, other_slot, shown_by, Yields, Stands, MayBeGiven, twice_other, sound_before, geometry_of, has_risen, Shelved, Stop, Disk, IsShelf, Continues, MayStop, MayLeave, LeavesOnly, LeavesBut, WritesOnly, then_run, weaker, as_read, left_out_once, named_sound, risen_on_way, IsMember, IsInForceOn, IsOlder, StandsBut, losing_within, NvLog, HoldsOn, Keeps, LeavesBetween, Register, OnSlots, drives_of, own_slot, next_slot, Content, GivesOldOrNext, StandsInLog, MayStore, IsOpen, array_of, holds_shows, LeadTo, StandsWhateverFails, WritesLog, lost_since, lost_by, IsKeptAt, sound_since}
use Rattle.nvram_log.specs.Members as nv
use Rattle.array_core.proofs.Between as between
use Rattle.array_core.proofs.Logged.{log_writes_stand, log_writes_keep, log_writes_leave}
use Rattle.array_core.proofs.Standing.{member_clean, member_sound}
use Rattle.array_core.proofs.Logged.{nothing_else}
use Rattle.array_core.proofs.Keeping.{KeptNamed, NamesFewer, both_not, goes_on, kept}
use Rattle.array_core.proofs.Storing as storing
use Rattle.nvram_log.proofs.SettledEach.{both_leave}
use Rattle.register.proofs.Opened.{is_left, is_named}
use Rattle.register.proofs.Rounds.{same_shelf}

-- the devices, as the log of an open array is cleared
pub record IsClearing (a m : Shelved) (r : Register) (members now : List Bool) (held : Content) : Type 0 where
  pub is : IsShelf a
  pub is_mid : IsShelf m
  pub honest : a.honest
  pub on : Continues a m
  pub was_open : IsOpen a r members held
  pub empty : held.log ≡ []
  pub same : (i : ℕ) → m.disk (drive i) ≡ a.disk (drive i)
  pub fewer : nv.IsFewer members now
  pub dropped : nv.DroppedFailed a m members now
  pub left : LeavesOnly a m (LeavesBetween members r.record.flushed [] [])
  pub writes : WritesOnly (nv.OnMembers members) a m

module _ (a m : Shelved) (r : Register) (members now : List Bool) (held : Content) (p : IsClearing a m r members now held) where
  abbrev arrays : List Array
  arrays = array_of held ∷ []

  emptied : record held { log = [] } ≡ held
  emptied = ap (λ (l : List Command). record held { log = l }) (sym p.empty)

  one_of : Contains (array_of held ∷ []) held.base
  one_of = (0, omega arith, ap (λ (l : List Command). after_all held.base l) p.empty)

  to : LeadTo r held.base [] [] arrays
  to = grind (arith, nat_tests, array_of, after_all, take_all, one_of)

  log_written : WritesLog r members [] [] a m
  log_written = record { continues = p.on; writes = p.writes; drives = p.same; between = p.left }

  stand : LeavesOnly a m (StandsWhateverFails a r arrays)
  stand = log_writes_stand a m p.is p.honest r members held [] [] arrays p.was_open to log_written

  -- ---- meanwhile

  drive_left : (i : ℕ) → IsMember (drives_of r) i → (bytes : List ℕ) → MayLeave (a.disk (drive i)) bytes → bytes ≡ (a.disk (drive i)).bytes
  drive_left i mem bytes may = as_read (a.disk (drive i)) bytes (member_clean a p.is p.honest r members held p.was_open i mem) may

  while_clearing : (stop : Stop) → StandsWhateverFails a r arrays stop → LeavesBut (nv.OnMembers members) a stop → KeptNamed a r.record arrays stop
  while_clearing stop stands left borne =
      let failed : Device → Bool = λ d. has_risen (a.disk d).write_faults (stop.write_faults d) in
      let later = lost_by a stop (named_sound r.record) in
      let within = losing_within failed (named_sound r.record) in
      let drive_is : (i : ℕ) → IsMember (drives_of r) i → stop.image (drive i) ≡ (a.disk (drive i)).bytes = λ i mem. drive_left i mem (stop.image (drive i)) (nothing_else (λ k w. w) (left.bytes (drive i))) in
      goes_on (geometry_of a) r.record stop.image failed arrays
      (λ slot boot g. subst (λ (b : BootRecord). NamesFewer r.record b) (sym (between.alone a p.is p.honest r members held p.was_open stop.image later within borne drive_is slot boot g).1) (λ d e. e))
      (stands later within borne)

  pub clear_moments : LeavesOnly a m (IsKeptAt a r.record (array_of held ∷ []))
  clear_moments = weaker (λ stop x. kept a r.record arrays stop (λ d. (x.1.bytes d).is_byte) (while_clearing stop x.0 x.1)) (both_leave stand p.writes.any_moment)

  -- ---- afterwards

  module _ (holds : HoldsOn m now r.record.flushed []) where
    logged_then : StandsInLog m r now held
    logged_then = subst (λ (c : Content). StandsInLog m r now c) emptied (log_writes_leave a m p.is p.honest r members now held [] [] [] p.was_open log_written (holds_shows holds) tt)

    -- no device of it failed
    pub still_open : now ≡ members → IsOpen m r now held
    still_open same = subst (λ (l : List Bool). IsOpen m r l held) (sym same)
        (subst (λ (c : Content). IsOpen m r members c) emptied
        (log_writes_keep a m p.is p.is_mid p.honest r members held [] [] [] p.was_open log_written (holds_shows (subst (λ (l : List Bool). HoldsOn m l r.record.flushed []) same holds)) tt))

    pub logged_left : StandsInLog m r now held
    logged_left = logged_then

    older : (i : ℕ) → IsMember (drives_of r) i → IsOlder m (next_slot r.record) (spelling r.record) i
    older i mem =
        let was : IsOlder a (next_slot r.record) (spelling r.record) i = p.was_open.older i mem (member_sound a p.is p.honest r members held p.was_open i mem) in
        subst (λ (d : Disk). Yields (other_slot (next_slot r.record)) (generation_in (body_in (next_slot r.record) d.bytes)) (generation_in (spelling r.record))) (sym (p.same i)) was

    -- ---- a device failed: a record without it may be stored

    lost_within : IsWithin (named_sound r.record) (lost_since a m (named_sound r.record))
    lost_within = losing_within (λ d. has_risen (a.disk d).write_faults (m.disk d).write_faults) (named_sound r.record)

    module _ (bears : IsBearable (geometry_of a) (lost_since a m (named_sound r.record))) where
      module _ (stop : Stop) (may : MayStop m stop) where
        drive_is : (i : ℕ) → IsMember (drives_of r) i → stop.image (drive i) ≡ (a.disk (drive i)).bytes
        drive_is i mem = drive_left i mem (stop.image (drive i)) (subst (λ (d : Disk). MayLeave d (stop.image (drive i))) (p.same i) (may.device (drive i)))

        given_then : MayBeGiven (geometry_of m) stop.image (lost_since a m (named_sound r.record)) (own_slot r.record) r.record
        given_then = subst (λ (g : Geometry). MayBeGiven g stop.image (lost_since a m (named_sound r.record)) (own_slot r.record) r.record) (same_shelf p.on)
            (between.given a p.is p.honest r members held p.was_open stop.image (lost_since a m (named_sound r.record)) lost_within bears drive_is)

        alone_then : (slot2 : BootSlot) (boot2 : BootRecord) → MayBeGiven (geometry_of m) stop.image (lost_since a m (named_sound r.record)) slot2 boot2 → boot2 ≡ r.record
        alone_then slot2 boot2 g =
            (between.alone a p.is p.honest r members held p.was_open stop.image (lost_since a m (named_sound r.record)) lost_within bears drive_is slot2 boot2
            (subst (λ (k : Geometry). MayBeGiven k stop.image (lost_since a m (named_sound r.record)) slot2 boot2) (sym (same_shelf p.on)) g)).1

        stands_then : Stands (geometry_of m) stop.image (lost_since a m (named_sound r.record)) arrays
        stands_then = subst (λ (g : Geometry). Stands g stop.image (lost_since a m (named_sound r.record)) arrays) (same_shelf p.on)
            ((stand.each stop (p.is_mid.counts_now a.moment stop p.on.later may)).1 (lost_since a m (named_sound r.record)) lost_within bears)

      in_force : IsInForceOn m (drives_of r) (lost_since a m (named_sound r.record)) (next_slot r.record) r.record
      in_force =
          let f = p.was_open.in_force in
          record {
            lawful = logged_then.is_of.lawful;
            sound = λ i lt s. f.sound i (omega (arith, lt, p.on.drives)) (sound_before (named_sound r.record (drive i)) (lost_since a m (named_sound r.record) (drive i)) (lost_within (drive i)) s);
            clean = λ i mem s. subst (λ (d : Disk). d.dirty ≡ []) (sym (p.same i)) (member_clean a p.is p.honest r members held p.was_open i mem);
            shown = λ i mem s. subst (λ (d : Disk). shown_by (other_slot (next_slot r.record)) d.bytes ≡ Some (spelling r.record)) (sym (p.same i))
                (f.shown i mem (member_sound a p.is p.honest r members held p.was_open i mem));
            given = λ start may. subst (λ (t : BootSlot). MayBeGiven (geometry_of m) start.image (lost_since a m (named_sound r.record)) t r.record) (sym (twice_other (own_slot r.record))) (given_then start may);
          }

      still_member : (n : ℕ) → n < 2 → lost_since a m (named_sound r.record) (nvram n) ≡ Sound → nv.IsMember now n
      still_member n lt s =
          let was = sound_since (has_risen (a.disk (nvram n)).write_faults (m.disk (nvram n)).write_faults) (named_sound r.record (nvram n)) s in
          let mem : nv.IsMember members n = subst (λ (l : List Bool). nv.IsMember l n) p.was_open.nvrams_are (is_named (names r.record (nvram n)) was.0) in
          elim (p.dropped n lt mem) [
            | inl is ↦ is
            | inr rose ↦ absurd (risen_on_way (a.disk (nvram n)).write_faults (a.disk (nvram n)).write_faults (m.disk (nvram n)).write_faults (m.disk (nvram n)).write_faults (omega arith) rose (omega arith) was.1)
          ]

      left_out_not : (n : ℕ) → lost_since a m (named_sound r.record) (nvram n) ≡ LeftOut → ¬ (nv.IsMember now n)
      left_out_not n out mem =
          let named : names r.record (nvram n) ≡ true = subst (λ (l : List Bool). nv.IsMember l n) (sym p.was_open.nvrams_are) (p.fewer n mem) in
          both_not (names r.record (nvram n)) named (is_left (names r.record (nvram n)) (left_out_once (has_risen (a.disk (nvram n)).write_faults (m.disk (nvram n)).write_faults) (named_sound r.record (nvram n)) out))

      may_store : MayStore m r now (lost_since a m (named_sound r.record)) held arrays
      may_store = record {
        logged = logged_then;
        in_force = in_force;
        stands = λ stop may. stands_then stop may;
        one_of = (0, omega arith, refl);
        sound = still_member;
        left_out = left_out_not;
        unnamed = λ i out. is_left (names r.record (drive i)) (left_out_once (has_risen (a.disk (drive i)).write_faults (m.disk (drive i)).write_faults) (named_sound r.record (drive i)) out);
      }

    -- while the record is stored
    pub may_leave : storing.MayLeave a m r r members now held held arrays
    may_leave = record {
      on = p.on;
      was_open = p.was_open;
      same = refl;
      fewer = λ i x. x;
      fewer_logs = p.fewer;
      older = older;
      may = may_store;
      alone = λ bears stop slot boot may g. alone_then bears stop may slot boot g;
    }

-- what the call says of a log that is cleared
pub clearing : (a m : Shelved) (r : Register) (log : NvLog) (now : List Bool) (commands : List Command) (held : Content) → IsShelf a → IsShelf m → a.honest → Continues a m → IsOpen a r log.members held → held.log ≡ []
    → ((i : ℕ) → m.disk (drive i) ≡ a.disk (drive i)) → nv.IsFewer log.members now → nv.DroppedFailed a m log.members now → LeavesOnly a m (LeavesBetween log.members (log.flushed + length commands) [] [])
    → WritesOnly (nv.OnMembers log.members) a m → r.record.flushed ≡ log.flushed + log.count → Keeps log commands → IsClearing a m r log.members now held
clearing a m r log now commands held is is_mid h on o empty same fewer dropped left writes flushed keeps = grind (arith, nat_tests)

-- a record is stored without the devices that failed
pub all_moments : (a m n : Shelved) (r : Register) (members now nvrams : List Bool) (held : Content) (p : IsClearing a m r members now held) → HoldsOn m now r.record.flushed [] → nvrams ≡ now → WritesOnly (OnSlots (drives_of r)) m n
    → ((missing : Conditions) (content : Content) (others : List Array) → MayStore m r nvrams missing content others → LeavesOnly m n (StandsBut m (drives_of r) missing (next_slot r.record) r.record others))
    → ((missing : Conditions) (content : Content) (others : List Array) → MayStore m r nvrams missing content others → LeavesOnly m n (GivesOldOrNext m r nvrams missing))
    → LeavesOnly a n (IsKeptAt a r.record (array_of held ∷ []))
all_moments a m n r members now nvrams held p holds same writes stands gives =
    then_run p.on (clear_moments a m r members now held p)
    (storing.store_moments a m r r members now held held (array_of held ∷ []) (may_leave a m r members now held p holds) n writes
    (subst (λ (l : List Bool). (missing : Conditions) (content : Content) (others : List Array) → MayStore m r l missing content others → LeavesOnly m n (StandsBut m (drives_of r) missing (next_slot r.record) r.record others)) same stands)
    (subst (λ (l : List Bool). (missing : Conditions) (content : Content) (others : List Array) → MayStore m r l missing content others → LeavesOnly m n (GivesOldOrNext m r l missing)) same gives))
