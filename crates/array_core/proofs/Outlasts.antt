-- A command is appended, and a record without a device stored, whatever fails.
use Rattle.array_core.proofs.Prelude.{nat_tests, ◌≡◌, ◌⊎◌, inl, inr, ℕ, ◌≤◌, List, ◌∷◌, [], ◌++◌, refl, sym, subst, arith, Bool, true, false, cond, count_by, slice_index_or, if◌then◌else◌, cases_Bool, Drive, Nv, Conditions, Sound, LeftOut, IsBearable, IsWithin, is_missing, missing_nvrams, drive, nvram, Command, Array, names, Stands, within_twice, counted, geometry_of, Shelved, LeavesOnly, then_run, weaker, named_sound, StandsAgain, HoldsOn, Register, Content, IsFirm, MayStore, members_sound, logged, StandsOnceBack, without_or_with}
use Rattle.boot_region.proofs.Composing.{as_it_is}
use Rattle.boot_region.proofs.Stored.{lost, lost_within, never_sound}
use Rattle.nvram_log.specs.Members as nv
use Rattle.array_core.proofs.Appended as appended
use Rattle.array_core.proofs.Appended.{IsAppending}
use Rattle.register.proofs.Opened.{is_left}
use Rattle.register.proofs.Rounds.{same_shelf}

-- of NVRAM devices the others than these are missing
abbrev logs_lost : Conditions → List Bool → Conditions
logs_lost missing members (Drive d) = missing (Drive d)
logs_lost missing members (Nv n) = if slice_index_or members n.0 false then missing (Nv n) else lost (missing (Nv n))

logs_within : (missing : Conditions) (members : List Bool) → IsWithin missing (logs_lost missing members)
logs_within missing members (Drive d) = as_it_is missing (Drive d)
logs_within missing members (Nv n) = elim (cases_Bool (slice_index_or members n.0 false)) [
  | inl is ↦ rw is (as_it_is missing (Nv n))
  | inr not ↦ rw not (lost_within (missing (Nv n)))
]

-- one of the two is sound
one_is_left : (missing : Conditions) → ((missing (nvram 0) ≡ Sound) ⊎ (missing (nvram 1) ≡ Sound)) → missing_nvrams missing ≤ 1
one_is_left missing some = grind (arith, nat_tests, counted, is_missing, nvram, missing_nvrams, cond, count_by)

module _ (a m : Shelved) (r : Register) (members now : List Bool) (held : Content) (c : Command) (p : IsAppending a m r members now held c) where
  abbrev arrays : List Array
  arrays = without_or_with held c

  -- while the command is appended
  pub append_again : LeavesOnly a m (StandsOnceBack a (named_sound r.record) arrays)
  append_again = weaker (λ stop stands. record {
    later = named_sound r.record;
    within = as_it_is (named_sound r.record);
    stands = stands (named_sound r.record) (as_it_is (named_sound r.record)) p.was_open.bearable;
  }) (appended.stand a m r members now held c p)

  -- and while the record is stored that names the devices that are left
  module _ (holds : HoldsOn m now r.record.flushed (held.log ++ c ∷ [])) (some : nv.IsSome now) where
    abbrev left : Conditions
    left = logs_lost (named_sound r.record) now

    named : (n : ℕ) → nv.IsMember now n → names r.record (nvram n) ≡ true
    named n mem = subst (λ (l : List Bool). nv.IsMember l n) (sym p.was_open.nvrams_are) (p.fewer n mem)

    sound_of : (n : ℕ) → nv.IsMember now n → left (nvram n) ≡ Sound
    sound_of n mem = rw mem (rw (named n mem) refl)

    bears : IsBearable (geometry_of a) left
    bears = record {
      drives = p.was_open.bearable.drives;
      nvrams = one_is_left left (elim some [ inl x ↦ inl (sound_of 0 x) | inr x ↦ inr (sound_of 1 x) ]);
    }

    member_of : (n : ℕ) → left (nvram n) ≡ Sound → nv.IsMember now n
    member_of n s = elim (cases_Bool (slice_index_or now n false)) [
      | inl is ↦ is
      | inr not ↦ absurd (never_sound (named_sound r.record (nvram n)) (subst (λ (t : Bool). cond t (named_sound r.record (nvram n)) (lost (named_sound r.record (nvram n))) ≡ Sound) not s))
    ]

    no_member : (n : ℕ) → left (nvram n) ≡ LeftOut → nv.IsMember now n → ⊥
    no_member n out mem = cc (sound_of n mem, out)

    may_store : MayStore m r now left (logged held c) arrays
    may_store = record {
      logged = appended.logged_then a m r members now held c p holds;
      in_force = appended.in_force a m r members now held c p holds left (logs_within (named_sound r.record) now) bears;
      stands = λ stop may. appended.stands_then a m r members now held c p holds left (logs_within (named_sound r.record) now) bears stop may;
      one_of = appended.second a m r members now held c p;
      sound = λ n lt s. member_of n s;
      left_out = no_member;
      unnamed = λ i out. is_left (names r.record (drive i)) out;
    }

    firm : IsFirm m r left
    firm = record {
      bearable = subst (λ g. IsBearable g left) (same_shelf p.on) bears;
      sound = λ i mem. members_sound r p.was_open.logged.is_of i mem;
      older = λ i mem s. appended.older a m r members now held c p holds i mem;
    }

    pub store_again : (n : Shelved) → ((missing : Conditions) (k : Content) (others : List Array) → MayStore m r now missing k others → IsFirm m r missing → LeavesOnly m n (StandsAgain m missing others))
        → LeavesOnly a n (StandsOnceBack a (named_sound r.record) arrays)
    store_again n storing = then_run p.on append_again (weaker (λ stop x. record {
      later = x.later;
      within = within_twice (named_sound r.record) left x.later (logs_within (named_sound r.record) now) x.within;
      stands = subst (λ g. Stands g stop.image x.later arrays) (sym (same_shelf p.on)) x.stands;
    }) (storing left (logged held c) arrays may_store firm))
