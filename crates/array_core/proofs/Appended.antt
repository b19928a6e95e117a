-- A command was appended: what a stop leaves at each moment, and what the devices hold then.
use Rattle.array_core.proofs.Prelude.{nat_tests, ◌≡◌, inl, inr, ℕ, zero, suc, ◌+◌, ◌-◌, ◌≤◌, ◌<◌, List, [], ◌∷◌, ◌++◌, length, take, refl, sym, subst, arith, Bool, true, false, length-append, Some, Contains, slice_get, take_all, take_at, cases_lt, Device, Drive, Nv, Geometry, Conditions, Sound, LeftOut, IsBearable, IsWithin, drive, nvram, Array, Command, AllAccepted, after_all, BootRecord, spelling, BootSlot, body_in, generation_in, names, other_slot, shown_by, Yields, HasSpelling, Stands, MayBeGiven, twice_other, one_left, sound_before, geometry_of, has_risen, Shelved, Stop, Disk, IsShelf, Continues, MayStop, MayLeave, LeavesOnly, LeavesBut, WritesOnly, then_run, weaker, as_read, left_out_once, named_sound, risen_on_way, IsMember, IsInForceOn, IsOlder, StandsBut, AccountsFor, losing_within, NvLog, HoldsOn, Keeps, LeavesBetween, Register, drives_of, own_slot, next_slot, Content, StandsInLog, MayStore, IsOpen, IsNextOf, GivesOldOrNext, holds_shows, LeadTo, StandsWhateverFails, WritesLog, logged, lost_since, lost_by, IsKeptAt, without_or_with, sound_since, by_stop, fewer_borne, bearable_or_not}
use Rattle.nvram_log.specs.Members as nv
use Rattle.nvram_log.proofs.Lists.{get_either}
use Rattle.array_core.proofs.Between as between
use Rattle.array_core.proofs.Logged.{log_writes_stand, log_writes_keep, log_writes_leave}
use Rattle.array_core.proofs.Standing.{member_clean, member_sound}
use Rattle.array_core.proofs.Agreeing.{named_bears}
use Rattle.array_core.proofs.Logged.{nothing_else}
use Rattle.array_core.proofs.Keeping.{KeptNamed, NamesFewer, goes_on, kept}
use Rattle.nvram_log.proofs.SettledEach.{both_leave}
use Rattle.register.proofs.Opened.{is_left, is_named}
use Rattle.register.proofs.Rounds.{same_shelf}

-- an NVRAM device holds the log
pub some_member : {a : Shelved} (r : Register) (members : List Bool) {held : Content} → IsOpen a r members held → nv.IsSome members
some_member r members o = grind (arith, nat_tests, one_left, named_sound, nvram, is_named, names)

-- the last of a list that has one more
last_is : (i : ℕ) (c d : Command) → slice_get (c ∷ []) i ≡ Some d → (i ≡ 0) × (c ≡ d)
last_is zero c d at = (refl, cc at)
last_is (suc i) c d at = absurd (cc at)

-- the devices, as a command is appended
pub record IsAppending (a m : Shelved) (r : Register) (members now : List Bool) (held : Content) (c : Command) : Type 0 where
  pub is : IsShelf a
  pub is_mid : IsShelf m
  pub honest : a.honest
  pub on : Continues a m
  pub was_open : IsOpen a r members held
  pub same : (i : ℕ) → m.disk (drive i) ≡ a.disk (drive i)
  pub fewer : nv.IsFewer members now
  pub dropped : nv.DroppedFailed a m members now
  pub left : LeavesOnly a m (LeavesBetween members r.record.flushed held.log (held.log ++ c ∷ []))
  pub writes : WritesOnly (nv.OnMembers members) a m
  pub accepted : AllAccepted held.base (held.log ++ c ∷ [])
  pub room : length (held.log ++ c ∷ []) ≤ 64
  pub spelled : HasSpelling (r.record.flushed + 1 + length held.log) c

module _ (a m : Shelved) (r : Register) (members now : List Bool) (held : Content) (c : Command) (p : IsAppending a m r members now held c) where
  abbrev most : List Command
  most = held.log ++ c ∷ []

  abbrev arrays : List Array
  arrays = without_or_with held c

  one : (n : ℕ) × (n < 2) × nv.IsMember members n
  one = elim (some_member r members p.was_open) [ inl x ↦ (0, omega arith, x) | inr x ↦ (1, omega arith, x) ]

  spelled_all : (i : ℕ) (d : Command) → slice_get most i ≡ Some d → HasSpelling (r.record.flushed + 1 + i) d
  spelled_all i d at = elim (get_either held.log (c ∷ []) i d at) [
    | inl old ↦ ((p.was_open.logged.holds.log one.0 one.1 one.2).between.all i d old).spelled.lawful
    | inr (past, last) ↦
        let is = last_is (i - length held.log) c d last in
        let e : length held.log ≡ i = omega (arith, is.0, past) in
        subst (λ (k : ℕ). HasSpelling (r.record.flushed + 1 + k) d) e (subst (λ (x : Command). HasSpelling (r.record.flushed + 1 + length held.log) x) is.1 p.spelled)
  ]

  long : length most ≡ length held.log + 1
  long = omega (arith, length-append held.log (c ∷ []))

  pub second : Contains arrays (after_all held.base most)
  second = (1, omega arith, refl)

  fronts : (n : ℕ) → length held.log ≤ n → n ≤ length most → Contains arrays (after_all held.base (take n most))
  fronts n low high = elim (cases_lt (length held.log) n) [
    | inl more ↦
        let e : length most ≤ n = omega (arith, more, long) in
        subst (λ (l : List Command). Contains arrays (after_all held.base l)) (sym (take_all n most e)) second
    | inr le ↦
        let e : length held.log ≡ n = omega (arith, low, le) in
        subst (λ (l : List Command). Contains arrays (after_all held.base l)) (sym (take_at held.log (c ∷ []) n e)) (0, omega arith, refl)
  ]

  to : LeadTo r held.base held.log most arrays
  to = record { front = (c ∷ [], refl); room = p.room; accepted = p.accepted; spelled = spelled_all; some = λ e. cc e; fronts = fronts }

  log_written : WritesLog r members held.log most a m
  log_written = record { continues = p.on; writes = p.writes; drives = p.same; between = p.left }

  pub stand : LeavesOnly a m (StandsWhateverFails a r arrays)
  stand = log_writes_stand a m p.is p.honest r members held held.log most arrays p.was_open to log_written

  -- ---- meanwhile

  drive_left : (i : ℕ) → IsMember (drives_of r) i → (bytes : List ℕ) → MayLeave (a.disk (drive i)) bytes → bytes ≡ (a.disk (drive i)).bytes
  drive_left i mem bytes may = as_read (a.disk (drive i)) bytes (member_clean a p.is p.honest r members held p.was_open i mem) may

  while_appending : (stop : Stop) → StandsWhateverFails a r arrays stop × LeavesBut (nv.OnMembers members) a stop → KeptNamed a r.record arrays stop
  while_appending stop (stands, left) bears =
      let failed : Device → Bool = λ d. has_risen (a.disk d).write_faults (stop.write_faults d) in
      let later = lost_by a stop (named_sound r.record) in
      let within = losing_within failed (named_sound r.record) in
      let drive_is : (i : ℕ) → IsMember (drives_of r) i → stop.image (drive i) ≡ (a.disk (drive i)).bytes = λ i mem. drive_left i mem (stop.image (drive i)) (nothing_else (λ k w. w) (left.bytes (drive i))) in
      goes_on (geometry_of a) r.record stop.image failed arrays
      (λ slot boot g. subst (λ (b : BootRecord). NamesFewer r.record b) (sym (between.alone a p.is p.honest r members held p.was_open stop.image later within bears drive_is slot boot g).1) (λ d e. e))
      (stands later within bears)

  pub append_moments : LeavesOnly a m (IsKeptAt a r.record arrays)
  append_moments = weaker (λ stop both. kept a r.record arrays stop (λ d. (both.1.bytes d).is_byte) (while_appending stop both)) (both_leave stand p.writes.any_moment)

  -- ---- afterwards

  module _ (holds : HoldsOn m now r.record.flushed most) where
    pub logged_then : StandsInLog m r now (logged held c)
    logged_then = log_writes_leave a m p.is p.honest r members now held held.log most most p.was_open log_written (holds_shows holds) p.accepted

    pub older : (i : ℕ) → IsMember (drives_of r) i → IsOlder m (next_slot r.record) (spelling r.record) i
    older i mem =
        let was : IsOlder a (next_slot r.record) (spelling r.record) i = p.was_open.older i mem (member_sound a p.is p.honest r members held p.was_open i mem) in
        subst (λ (d : Disk). Yields (other_slot (next_slot r.record)) (generation_in (body_in (next_slot r.record) d.bytes)) (generation_in (spelling r.record))) (sym (p.same i)) was

    -- in conditions in which more is missing
    module _ (later : Conditions) (within : IsWithin (named_sound r.record) later) (bears : IsBearable (geometry_of a) later) where
      module _ (stop : Stop) (may : MayStop m stop) where
        drive_is : (i : ℕ) → IsMember (drives_of r) i → stop.image (drive i) ≡ (a.disk (drive i)).bytes
        drive_is i mem = drive_left i mem (stop.image (drive i)) (subst (λ (d : Disk). MayLeave d (stop.image (drive i))) (p.same i) (may.device (drive i)))

        given_then : MayBeGiven (geometry_of m) stop.image later (own_slot r.record) r.record
        given_then = subst (λ (g : Geometry). MayBeGiven g stop.image later (own_slot r.record) r.record) (same_shelf p.on)
            (between.given a p.is p.honest r members held p.was_open stop.image later within bears drive_is)

        alone_then : (slot2 : BootSlot) (boot2 : BootRecord) → MayBeGiven (geometry_of m) stop.image later slot2 boot2 → (slot2 ≡ own_slot r.record) × (boot2 ≡ r.record)
        alone_then slot2 boot2 g =
            between.alone a p.is p.honest r members held p.was_open stop.image later within bears drive_is slot2 boot2
            (subst (λ (k : Geometry). MayBeGiven k stop.image later slot2 boot2) (sym (same_shelf p.on)) g)

        pub stands_then : Stands (geometry_of m) stop.image later arrays
        stands_then = subst (λ (g : Geometry). Stands g stop.image later arrays) (same_shelf p.on)
            ((stand.each stop (p.is_mid.counts_now a.moment stop p.on.later may)).1 later within bears)

      pub in_force : IsInForceOn m (drives_of r) later (next_slot r.record) r.record
      in_force =
          let f = p.was_open.in_force in
          record {
            lawful = logged_then.is_of.lawful;
            sound = λ i lt s. f.sound i (omega (arith, lt, p.on.drives)) (sound_before (named_sound r.record (drive i)) (later (drive i)) (within (drive i)) s);
            clean = λ i mem s. subst (λ (d : Disk). d.dirty ≡ []) (sym (p.same i)) (member_clean a p.is p.honest r members held p.was_open i mem);
            shown = λ i mem s. subst (λ (d : Disk). shown_by (other_slot (next_slot r.record)) d.bytes ≡ Some (spelling r.record)) (sym (p.same i))
                (f.shown i mem (member_sound a p.is p.honest r members held p.was_open i mem));
            given = λ start may. subst (λ (t : BootSlot). MayBeGiven (geometry_of m) start.image later t r.record) (sym (twice_other (own_slot r.record))) (given_then start may);
          }

    -- no member failed
    pub still_open : members ≡ now → IsOpen m r now (logged held c)
    still_open same =
        subst (λ (l : List Bool). IsOpen m r l (logged held c)) same
        (log_writes_keep a m p.is p.is_mid p.honest r members held held.log most most p.was_open log_written
        (holds_shows (subst (λ (l : List Bool). HoldsOn m l r.record.flushed most) (sym same) holds)) p.accepted)

    -- ---- a member failed: a record without it may be stored
    abbrev lost : Conditions
    lost = lost_since a m (named_sound r.record)

    lost_within : IsWithin (named_sound r.record) (lost_since a m (named_sound r.record))
    lost_within = losing_within (λ d. has_risen (a.disk d).write_faults (m.disk d).write_faults) (named_sound r.record)

    module _ (bears : IsBearable (geometry_of a) (lost_since a m (named_sound r.record))) where
      still_member : (n : ℕ) → n < 2 → lost_since a m (named_sound r.record) (nvram n) ≡ Sound → nv.IsMember now n
      still_member n lt s =
          let was = sound_since (has_risen (a.disk (nvram n)).write_faults (m.disk (nvram n)).write_faults) (named_sound r.record (nvram n)) s in
          let mem : nv.IsMember members n = subst (λ (l : List Bool). nv.IsMember l n) p.was_open.nvrams_are (is_named (names r.record (nvram n)) was.0) in
          elim (p.dropped n lt mem) [
            | inl is ↦ is
            | inr rose ↦ absurd (risen_on_way (a.disk (nvram n)).write_faults (a.disk (nvram n)).write_faults (m.disk (nvram n)).write_faults (m.disk (nvram n)).write_faults (omega arith) rose (omega arith) was.1)
          ]

      left_out_not : (n : ℕ) → lost_since a m (named_sound r.record) (nvram n) ≡ LeftOut → ¬ (nv.IsMember now n)
      left_out_not n out mem =
          let was = left_out_once (has_risen (a.disk (nvram n)).write_faults (m.disk (nvram n)).write_faults) (named_sound r.record (nvram n)) out in
          let named : names r.record (nvram n) ≡ true = subst (λ (l : List Bool). nv.IsMember l n) (sym p.was_open.nvrams_are) (p.fewer n mem) in
          absurd (cc (named, is_left (names r.record (nvram n)) was))

      may_store : MayStore m r now (lost_since a m (named_sound r.record)) (logged held c) arrays
      may_store = record {
        logged = logged_then;
        in_force = in_force lost lost_within bears;
        stands = λ stop may. stands_then lost lost_within bears stop may;
        one_of = second;
        sound = still_member;
        left_out = left_out_not;
        unnamed = λ i out. is_left (names r.record (drive i)) (left_out_once (has_risen (a.disk (drive i)).write_faults (m.disk (drive i)).write_faults) (named_sound r.record (drive i)) out);
      }

      next_names : (boot : BootRecord) → IsNextOf r now boot → NamesFewer r.record boot
      next_names boot next (Drive d) e = p.was_open.logged.is_of.named d.0 (next.drives d.0 e)
      next_names boot next (Nv n) e = subst (λ (l : List Bool). nv.IsMember l n.0) (sym p.was_open.nvrams_are) (p.fewer n.0 (subst (λ (l : List Bool). nv.IsMember l n.0) next.nvrams_are e))

      -- a stop while the record is stored
      module _ {W : Device → ℕ → Type 0} where
        while_storing : (stop : Stop) → (StandsBut m (drives_of r) (lost_since a m (named_sound r.record)) (next_slot r.record) r.record arrays stop × GivesOldOrNext m r now (lost_since a m (named_sound r.record)) stop) × LeavesBut W m stop → KeptNamed a r.record arrays stop
        while_storing stop both borne =
            let failed : Device → Bool = λ d. has_risen (a.disk d).write_faults (stop.write_faults d) in
            let later = lost_by a stop (named_sound r.record) in
            let account : AccountsFor m (drives_of r) lost (next_slot r.record) (spelling r.record) stop.faults stop.write_faults later = record {
              within = by_stop a m stop (named_sound r.record) both.1.counts;
              bearable = subst (λ (g : Geometry). IsBearable g later) (same_shelf p.on) borne;
              writes = λ i mem s.
                  let none = (sound_since (has_risen (a.disk (drive i)).write_faults (stop.write_faults (drive i))) (named_sound r.record (drive i)) s).1 in
                  inr (subst (λ (d : Disk). has_risen d.write_faults (stop.write_faults (drive i)) ≡ false) (sym (p.same i)) none);
              reads = λ i mem s. inl (older i mem);
            } in
            goes_on (geometry_of a) r.record stop.image failed arrays
            (λ slot boot g. elim (both.0.1 later account slot boot (subst (λ (k : Geometry). MayBeGiven k stop.image later slot boot) (same_shelf p.on) g)) [
              | inl was ↦ subst (λ (b : BootRecord). NamesFewer r.record b) (sym (alone_then lost lost_within bears was.start was.may slot boot was.given).1) (λ d e. e)
              | inr next ↦ next_names boot next
            ])
            (subst (λ (g : Geometry). Stands g stop.image later arrays) (sym (same_shelf p.on)) (both.0.0 later account))

    module _ (n : Shelved) {W : Device → ℕ → Type 0} (writes : WritesOnly W m n)
        (storing : (missing : Conditions) (held : Content) (others : List Array) → MayStore m r now missing held others → LeavesOnly m n (StandsBut m (drives_of r) missing (next_slot r.record) r.record others))
        (giving : (missing : Conditions) (held : Content) (others : List Array) → MayStore m r now missing held others → LeavesOnly m n (GivesOldOrNext m r now missing)) where
      store_moments : LeavesOnly m n (IsKeptAt a r.record arrays)
      store_moments = elim (bearable_or_not (geometry_of a) (lost_since a m (named_sound r.record))) [
        | inl bears ↦ weaker (λ stop both. kept a r.record arrays stop (λ d. (both.1.bytes d).is_byte) (while_storing bears stop both)) (both_leave (both_leave (storing lost (logged held c) arrays (may_store bears)) (giving lost (logged held c) arrays (may_store bears))) writes.any_moment)
        | inr not ↦ weaker (λ stop left now agrees borne.
            let named = named_bears r.record now agrees (λ d. has_risen (a.disk d).write_faults (stop.write_faults d)) (geometry_of a) borne in
            absurd (not (fewer_borne (geometry_of a) lost (lost_by a stop (named_sound r.record)) (by_stop a m stop (named_sound r.record) left.counts) named))) writes.any_moment
      ]

      pub all_moments : LeavesOnly a n (IsKeptAt a r.record arrays)
      all_moments = then_run p.on append_moments store_moments

-- what the calls say of a command that is appended
pub appending : (a m : Shelved) (r : Register) (log : NvLog) (now : List Bool) (held : Content) (c : Command) → IsShelf a → IsShelf m → a.honest → Continues a m → IsOpen a r log.members held → Keeps log held.log
    → log.count < 64 → log.flushed ≡ r.record.flushed → AllAccepted held.base (held.log ++ c ∷ []) → ((i : ℕ) → m.disk (drive i) ≡ a.disk (drive i)) → nv.IsFewer log.members now → nv.DroppedFailed a m log.members now
    → LeavesOnly a m (LeavesBetween log.members log.flushed held.log (held.log ++ c ∷ [])) → WritesOnly (nv.OnMembers log.members) a m → HasSpelling (log.flushed + 1 + log.count) c → IsAppending a m r log.members now held c
appending a m r log now held c is is_mid h on o keeps free flushed accepted same fewer dropped left writes spelled = grind (arith, nat_tests, length-append)
