-- An array that was open is open again, with this content, once its record is shown on its drives.
use Rattle.array_core.proofs.Prelude.{nat_tests, ◌≡◌, ℕ, ◌-◌, ◌^◌, ◌≤◌, ◌<◌, List, [], ◌∷◌, refl, sym, subst, arith, Bool, true, false, Some, Contains, count_by, cond, range_with_len, Geometry, Sound, LeftOut, IsBearable, is_missing, drive, nvram, Device, Array, BootRecord, spelling, names, other_slot, counted, Shelved, Stop, MayStop, IsShelf, Continues, geometry_of, named_sound, IsMember, Shows, IsOlder, Register, drives_of, next_slot, own_slot, Content, IsOpen, StandsInLog, array_of}
use Rattle.boot_region.proofs.Composing.{as_it_is}
use Rattle.nvram_log.specs.Members as nv
use Rattle.register.proofs.Follows.{shows_itself}
use Rattle.register.proofs.Resting.{in_force, stands, alone}
use Rattle.register.proofs.Opened.{is_left, is_named}
use Rattle.register.proofs.Rounds.{same_shelf}

-- ---- the NVRAM devices that are named

abbrev one_if : Bool → ℕ
one_if x = cond x 1 0

two_missing : (p : ℕ → Bool) → p 0 ≡ true → p 1 ≡ true → count_by p (range_with_len 0 2) ≤ 1 → ⊥
two_missing p first second few = grind (arith, nat_tests, count_by, cond, counted)

is_missed : (boot : BootRecord) (d : Device) → names boot d ≡ false → is_missing (named_sound boot d) ≡ true
is_missed boot d e = rw e refl

-- ---- what an open array tells

module _ (old : Shelved) (is : IsShelf old) (h : old.honest) (r : Register) (nvrams : List Bool) (held : Content) (o : IsOpen old r nvrams held) where
  -- what a stop leaves that loses nothing
  now_stop : Stop
  now_stop = record { image = λ d. (old.disk d).bytes; faults = λ d. (old.disk d).faults; write_faults = λ d. (old.disk d).write_faults; output = old.output; taken = old.taken }

  now_stops : MayStop old now_stop
  unfolding now_stop
  now_stops = record {
    device = λ d. record { size = refl; is_byte = is.bytes h d; clean = λ i not. refl };
    counts = record { faults = λ d. omega arith; write_faults = λ d. omega arith };
    output = refl;
    taken = refl;
  }

  pub not_spent : r.record.generation < 2 ^ 48 - 8
  unfolding now_stop
  not_spent =
      let reads = (o.stands now_stop now_stops).reads (other_slot (next_slot r.record)) r.record (o.in_force.given now_stop now_stops) in
      (reads.each (named_sound r.record) (λ d. Some (old.disk d).bytes) (record {
        within = as_it_is (named_sound r.record);
        bearable = o.bearable;
        shown = λ d. shows_itself (named_sound r.record d) (old.disk d).bytes (is.bytes h d);
      })).in_force.not_spent

  pub nvram_named : (n : ℕ) → names r.record (nvram n) ≡ true → nv.IsMember nvrams n
  nvram_named n e = subst (λ (l : List Bool). nv.IsMember l n) o.nvrams_are e

  named_nvram : (n : ℕ) → nv.IsMember nvrams n → names r.record (nvram n) ≡ true
  named_nvram n m = subst (λ (l : List Bool). nv.IsMember l n) (sym o.nvrams_are) m

  pub some : nv.IsSome nvrams
  some = grind (arith, nat_tests, names, nvram, nvram_named, two_missing, is_missing, named_sound, is_missed)

  in_only : (a : Array) → Contains (a ∷ []) a
  in_only a = (0, omega arith, refl)

  module _ (new : Shelved) (is_new : IsShelf new) (on : Continues old new) (kept : Content) (logged_now : StandsInLog new r nvrams kept)
      (shown_now : (i : ℕ) → IsMember (drives_of r) i → Shows new (own_slot r.record) (spelling r.record) i)
      (older_now : (i : ℕ) → IsMember (drives_of r) i → IsOlder new (next_slot r.record) (spelling r.record) i) where
    bearable_now : IsBearable (geometry_of new) (named_sound r.record)
    bearable_now = subst (λ (g : Geometry). IsBearable g (named_sound r.record)) (same_shelf on) o.bearable

    sound_now : (i : ℕ) → i < new.drives → named_sound r.record (drive i) ≡ Sound → IsMember (drives_of r) i
    sound_now i lt s = o.in_force.sound i (subst (λ (n : ℕ). i < n) on.drives lt) s

    nv_sound : (n : ℕ) → n < 2 → named_sound r.record (nvram n) ≡ Sound → nv.IsMember nvrams n
    nv_sound n lt e = nvram_named n (is_named (names r.record (nvram n)) e)

    left : (n : ℕ) → named_sound r.record (nvram n) ≡ LeftOut → nv.IsMember nvrams n → ⊥
    left n out m = absurd (cc (is_left (names r.record (nvram n)) out, named_nvram n m))

    no_drive : (i : ℕ) → named_sound r.record (drive i) ≡ LeftOut → names r.record (drive i) ≡ false
    no_drive i out = is_left (names r.record (drive i)) out

    pub still_open : IsOpen new r nvrams kept
    still_open = record {
      logged = logged_now;
      drives = o.drives;
      nvrams_are = o.nvrams_are;
      bearable = bearable_now;
      in_force = in_force new is_new r nvrams kept (array_of kept ∷ []) (in_only (array_of kept)) logged_now o.nvrams_are not_spent some shown_now older_now (named_sound r.record) bearable_now sound_now nv_sound left no_drive;
      older = λ i m s. older_now i m;
      stands = stands new is_new r nvrams kept (array_of kept ∷ []) (in_only (array_of kept)) logged_now o.nvrams_are not_spent some shown_now older_now (named_sound r.record) bearable_now sound_now nv_sound left no_drive;
      alone = λ stop slot2 boot2 may g. alone new is_new r nvrams kept (array_of kept ∷ []) (in_only (array_of kept)) logged_now o.nvrams_are not_spent some shown_now older_now (named_sound r.record) bearable_now sound_now nv_sound left no_drive stop may slot2 boot2 g;
    }
