-- A store that goes on: a moment of a later round is one of the whole.
use Rattle.register.proofs.Prelude.{nat_tests, ◌≡◌, ◌⊎◌, inl, inr, ℕ, ◌-◌, ◌^◌, ◌<◌, List, refl, sym, subst, arith, Bool, false, Conditions, Sound, LeftOut, IsBearable, drive, nvram, Array, BootRecord, spelling, BootSlot, names, Stands, MayBeGiven, Shelved, Stop, MayStop, IsShelf, IsCountedBy, Continues, LeavesOnly, geometry_of, not_risen_since, risen_on_way, IsMember, DroppedFailed, Shows, WasGiven, StandsBut, AccountsFor, IsOlder, Register, drives_of, next_slot, own_slot, Content, StandsInLog, MayStore, MayStoreAgain, IsNextOf, GivesOldOrNext, AreOfMembers, IsInStoreOf, not_below}
use Rattle.boot_region.proofs.Composing.{as_it_is}
use Rattle.nvram_log.specs.Members as nv
use Rattle.register.proofs.Again.{meanwhile, accounts, bearable_then, accounts_since, next_after}
use Rattle.register.proofs.Resting.{may_store, alone}

module _ (old mid : Shelved) (is_mid : IsShelf mid) (on : Continues old mid) (was now : Register) (nvrams : List Bool) (some : nv.IsSome nvrams)
    (is_next : IsNextOf was nvrams now.record) (fewer : (i : ℕ) → IsMember now.drives i → IsMember was.drives i)
    (fewer_cut : (i : ℕ) → IsMember (drives_of now) i → IsMember (drives_of was) i) (dropped : DroppedFailed old mid (drives_of was) (drives_of now)) (low : now.record.generation < 2 ^ 48 - 8)
    (first : LeavesOnly old mid (IsInStoreOf old was nvrams))
    (logged_then : (held : Content) → StandsInLog old was nvrams held → StandsInLog mid now nvrams held) (shown : (i : ℕ) → IsMember (drives_of now) i → Shows mid (own_slot now.record) (spelling now.record) i)
    (older : (held : Content) → StandsInLog old was nvrams held → (i : ℕ) → IsMember (drives_of now) i → IsOlder mid (next_slot now.record) (spelling now.record) i)
    (again : (missing : Conditions) (held : Content) (arrays : List Array) → MayStore old was nvrams missing held arrays → MayStoreAgain old mid was now nvrams missing held arrays)
    (stop : Stop) (counts : IsCountedBy mid stop)
    (at_stands : (missing : Conditions) (held : Content) (arrays : List Array) → MayStore mid now nvrams missing held arrays → StandsBut mid (drives_of now) missing (next_slot now.record) now.record arrays stop)
    (at_gives : (missing : Conditions) (held : Content) (arrays : List Array) → MayStore mid now nvrams missing held arrays → GivesOldOrNext mid now nvrams missing stop) where
  same_shelf : geometry_of mid ≡ geometry_of old
  same_shelf = grind (arith, nat_tests)

  -- in conditions that tell what has failed
  module _ (missing : Conditions) (held : Content) (arrays : List Array) (may : MayStore old was nvrams missing held arrays)
      (later : Conditions) (account : AccountsFor old (drives_of was) missing (next_slot was.record) (spelling was.record) stop.faults stop.write_faults later) where
    -- those of the moment between
    between : Conditions
    between = meanwhile old mid (drives_of was) missing (next_slot was.record) was.record

    told : AccountsFor old (drives_of was) missing (next_slot was.record) (spelling was.record) (λ d. (mid.disk d).faults) (λ d. (mid.disk d).write_faults) between
    unfolding between
    told = accounts old mid (drives_of was) missing (next_slot was.record) was.record (bearable_then old mid (drives_of was) missing (next_slot was.record) was.record stop counts later account)

    may_again : MayStore mid now nvrams between held arrays
    may_again = again missing held arrays may between told

    since : AccountsFor mid (drives_of now) between (next_slot now.record) (spelling now.record) stop.faults stop.write_faults later
    unfolding between
    since = accounts_since old mid (drives_of was) missing (next_slot was.record) was.record stop counts later account (drives_of now) (next_slot now.record) now.record on fewer_cut (older held may.logged) same_shelf

    stands_later : Stands (geometry_of old) stop.image later arrays
    stands_later = subst (λ x. Stands x stop.image later arrays) same_shelf (at_stands between held arrays may_again later since)

    -- what may be given at the end of the first store
    at_end : (start : Stop) → MayStop mid start → (t : BootSlot) (b : BootRecord) → MayBeGiven (geometry_of mid) start.image between t b → WasGiven old missing t b ⊎ IsNextOf was nvrams b
    at_end start here t b g =
        let exact : Stop = record { image = start.image; faults = λ k. (mid.disk k).faults; write_faults = λ k. (mid.disk k).write_faults; output = mid.output; taken = mid.taken } in
        let here2 : MayStop mid exact = record { counts = record { faults = λ k. omega arith; write_faults = λ k. omega arith }; output = refl; taken = refl; device = here.device } in
        let left = is_mid.counts_now old.moment exact on.later here2 in
        (first.each exact left).1.gives missing held arrays may between told t b (subst (λ x. MayBeGiven x start.image between t b) same_shelf g)

    gives_later : (t : BootSlot) (b : BootRecord) → MayBeGiven (geometry_of old) stop.image later t b → WasGiven old missing t b ⊎ IsNextOf was nvrams b
    gives_later t b g = elim (at_gives between held arrays may_again later since t b (subst (λ x. MayBeGiven x stop.image later t b) (sym same_shelf) g)) [
      | inl given ↦ at_end given.start given.may t b given.given
      | inr next ↦ inr (next_after was now nvrams is_next fewer b next)
    ]

  -- in conditions in which members are back
  module _ (held : Content) (missing : Conditions) (arrays : List Array) (may : MayStore old was nvrams missing held arrays) (back : Conditions) (m : AreOfMembers old was nvrams missing stop back) where
    sound_now : (i : ℕ) → i < mid.drives → back (drive i) ≡ Sound → IsMember (drives_of now) i
    sound_now i lt s = grind (arith, nat_tests, risen_on_way)

    bears : IsBearable (geometry_of mid) back
    bears = subst (λ x. IsBearable x back) (sym same_shelf) m.bearable

    logged : StandsInLog mid now nvrams held
    logged = logged_then held may.logged

    nv_sound : (n : ℕ) → n < 2 → back (nvram n) ≡ Sound → nv.IsMember nvrams n
    nv_sound n lt s = (m.on_nvram n lt s).0

    left : (n : ℕ) → back (nvram n) ≡ LeftOut → nv.IsMember nvrams n → ⊥
    left n out = (m.left_out n out).0

    no_drive : (i : ℕ) → back (drive i) ≡ LeftOut → names now.record (drive i) ≡ false
    no_drive i out = grind (arith, nat_tests, names, logged)

    may_now : MayStore mid now nvrams back held arrays
    may_now = may_store mid is_mid now nvrams held arrays may.one_of logged is_next.nvrams_are low some shown (older held may.logged) back bears sound_now nv_sound left no_drive

    below : (i : ℕ) → IsMember (drives_of now) i → i < old.drives
    below i member = grind (arith, nat_tests, logged, not_below)

    none_since : AccountsFor mid (drives_of now) back (next_slot now.record) (spelling now.record) stop.faults stop.write_faults back
    none_since = grind (arith, nat_tests, as_it_is, bears, not_risen_since, below, logged)

    stands_then : Stands (geometry_of old) stop.image back arrays
    stands_then = subst (λ x. Stands x stop.image back arrays) same_shelf (at_stands back held arrays may_now back none_since)

    given_then : (t : BootSlot) (b : BootRecord) → MayBeGiven (geometry_of old) stop.image back t b → (b ≡ was.record) ⊎ IsNextOf was nvrams b
    given_then t b g = elim (at_gives back held arrays may_now back none_since t b (subst (λ x. MayBeGiven x stop.image back t b) (sym same_shelf) g)) [
      | inl given ↦
          let e = alone mid is_mid now nvrams held arrays may.one_of logged is_next.nvrams_are low some shown (older held may.logged) back bears sound_now nv_sound left no_drive given.start given.may t b given.given in
          inr (subst (λ (x : BootRecord). IsNextOf was nvrams x) (sym e.1) is_next)
      | inr next ↦ inr (next_after was now nvrams is_next fewer b next)
    ]

  pub in_store_later : IsInStoreOf old was nvrams stop
  in_store_later = record {
    stands = λ missing held arrays may later account. stands_later missing held arrays may later account;
    gives = λ missing held arrays may later account. gives_later missing held arrays may later account;
    back = λ held logged shows. inr (record {
      each = λ missing arrays may back m. (stands_then held missing arrays may back m, given_then held missing arrays may back m);
    });
  }
