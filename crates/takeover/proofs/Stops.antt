-- What a stop in the opening leaves, by the record that was found.
use Rattle.takeover.proofs.Prelude.{nat_tests, ◌≡◌, inl, inr, ℕ, Bool, List, Option, Some, None, refl, sym, subst, arith, Device, Drive, Nv, Geometry, Image, Conditions, IsBearable, View, drive, Array, BootRecord, BootSlot, MayBeGiven, geometry_of, has_failed, Shelved, Stop, IsShelf, MayStop, MayLeave, Continues, IsCountedBy, LeavesOnly, LeavesBut, WritesOnly, then_run, weaker, Found, IsStanding, StandsStill, OnlyFailedAreSilent, read_now, failed_by, failed_since, Loaded, slot_in, OnMembers, IsGivenFrom, fewer_borne}
use Rattle.boot_region.proofs.Composing.{as_it_is}
use Rattle.nvram_log.proofs.SettledEach.{both_leave}
use Rattle.takeover.proofs.Failing.{by_stop, twice_by}
use Rattle.takeover.proofs.Loading.{may_read}
use Rattle.takeover.proofs.NothingStored.{given_over}
use Rattle.register.proofs.Again.{bearable_or}
use Rattle.register.proofs.Rounds.{same_shelf}

-- records are of drives: what NVRAM devices show is nothing to them
given_on_drives : (shelf : Geometry) (from to : Image) (missing : Conditions) (slot : BootSlot) (boot : BootRecord) → ((i : ℕ) → from (drive i) ≡ to (drive i)) → MayBeGiven shelf from missing slot boot → MayBeGiven shelf to missing slot boot
given_on_drives shelf from to missing slot boot same g = given_over shelf from to missing missing slot boot (as_it_is missing) (λ i lt sound. same i) g

-- conditions that tell of a second moment, told of the first
module _ (a b : Shelved) (missing : Conditions) (on : Continues a b) (stop : Stop) (counted : IsCountedBy b stop) where
  abbrev pub from_b : Conditions
  from_b = failed_by b stop (failed_since a b missing)

  abbrev pub from_a : Conditions
  from_a = failed_by a stop missing

  same : from_b ≡ from_a
  same = twice_by a b stop missing on counted

  pub bears_from_b : IsBearable (geometry_of a) from_a → IsBearable (geometry_of b) from_b
  bears_from_b bears = subst (λ (g : Geometry). IsBearable g from_b) (same_shelf on) (subst (λ (c : Conditions). IsBearable (geometry_of a) c) (sym same) bears)

  pub standing_from_a : (arrays : List Array) → IsStanding (geometry_of b) stop.image from_b arrays → IsStanding (geometry_of a) stop.image from_a arrays
  standing_from_a arrays s = subst (λ (c : Conditions). IsStanding (geometry_of a) stop.image c arrays) same (subst (λ (g : Geometry). IsStanding g stop.image from_b arrays) (sym (same_shelf on)) s)

  pub given_from_b : (slot : BootSlot) (boot : BootRecord) → MayBeGiven (geometry_of a) stop.image from_a slot boot → MayBeGiven (geometry_of b) stop.image from_b slot boot
  given_from_b slot boot g = subst (λ (s : Geometry). MayBeGiven s stop.image from_b slot boot) (same_shelf on) (subst (λ (c : Conditions). MayBeGiven (geometry_of a) stop.image c slot boot) (sym same) g)

  pub given_from_a : (slot : BootSlot) (boot : BootRecord) → MayBeGiven (geometry_of b) stop.image from_b slot boot → MayBeGiven (geometry_of a) stop.image from_a slot boot
  given_from_a slot boot g = subst (λ (c : Conditions). MayBeGiven (geometry_of a) stop.image c slot boot) same (subst (λ (s : Geometry). MayBeGiven s stop.image from_b slot boot) (sym (same_shelf on)) g)

  -- nothing is owed once more is missing than is borne
  module _ (many : IsBearable (geometry_of a) (failed_since a b missing) → ⊥) where
    pub owes_nothing : {X : Type 0} → IsBearable (geometry_of a) from_a → X
    owes_nothing bears = absurd (many (fewer_borne (geometry_of a) (failed_since a b missing) from_a (by_stop a b stop missing counted) bears))

    gives_nothing : {X : Type 0} (slot : BootSlot) (boot : BootRecord) → MayBeGiven (geometry_of a) stop.image from_a slot boot → X
    gives_nothing slot boot g = owes_nothing (fewer_borne (geometry_of a) from_a g.more g.appears.within g.appears.bearable)

    pub nothing_owed : (found : Option (Found (geometry_of a) (read_now a).image)) (arrays : List Array) → StandsStill a found missing arrays stop
    nothing_owed None arrays = record { standing = λ bears. owes_nothing bears; stored = λ slot boot g. gives_nothing slot boot g }
    nothing_owed (Some f) arrays = record { standing = λ bears. owes_nothing bears; stored = λ bears silent since. owes_nothing bears }

-- what the drives showed gives the record, in the conditions of a later stop, as long as the drives are as they were when the record was found
pub given_at : (a b : Shelved) (missing : Conditions) (x : Loaded) → Continues a b → IsShelf b → b.honest → (shown : View) → LeavesOnly a b (IsGivenFrom a shown x missing)
    → (n : Shelved) (stop : Stop) → IsCountedBy b stop → (image : Image) → ((i : ℕ) → MayLeave (b.disk (drive i)) (image (drive i)))
    → OnlyFailedAreSilent (has_failed (read_now a) stop) shown → IsBearable (geometry_of a) (failed_by a stop missing) → MayBeGiven (geometry_of a) image (failed_by a stop missing) (slot_in x.slot) x.record
given_at a b missing x on is_b h_b shown given n stop counted image leaves fails bears =
    given_on_drives (geometry_of a) begun image (failed_by a stop missing) (slot_in x.slot) x.record (λ i. refl) (there fails bears)
  where
    begun : Image
    begun (Drive d) = image (Drive d)
    begun (Nv k) = (b.disk (Nv k)).bytes

    start : Stop
    start = record { image = begun; faults = stop.faults; write_faults = stop.write_faults; output = b.output; taken = b.taken }

    each : (d : Device) → MayLeave (b.disk d) (begun d)
    each (Drive d) = leaves d.0
    each (Nv k) = record { size = refl; is_byte = λ i. is_b.bytes h_b (Nv k) i; clean = λ i clean. refl }

    may : MayStop b start
    may = record { device = each; counts = record { faults = counted.faults; write_faults = counted.write_faults }; output = refl; taken = refl }

    there : IsGivenFrom a shown x missing start
    there = (given.each start (is_b.counts_now a.moment start on.later may)).1

-- the record is found, and then the log is opened
module _ (a b : Shelved) (missing : Conditions) (arrays : List Array) (on : Continues a b) (is_b : IsShelf b) (h_b : b.honest)
    (first : LeavesOnly a b (StandsStill a None missing arrays)) where
  now : Conditions
  now = failed_since a b missing

  -- as the opening of the log begins
  at_b : StandsStill a None missing arrays (read_now b)
  at_b = (first.each (read_now b) (is_b.counts_now a.moment (read_now b) on.later (may_read b is_b h_b))).1

  still_unstored : (stop : Stop) → IsCountedBy b stop → StandsStill b None (failed_since a b missing) arrays stop → StandsStill a None missing arrays stop
  still_unstored stop counted s = record {
    standing = λ bears. standing_from_a a b missing on stop counted arrays (s.standing (bears_from_b a b missing on stop counted bears));
    stored = λ slot boot g. at_b.stored slot boot (subst (λ (k : Geometry). MayBeGiven k (read_now b).image (failed_since a b missing) slot boot) (sym (same_shelf on)) (s.stored slot boot (given_from_b a b missing on stop counted slot boot g)));
  }

  module _ (n : Shelved) (counts : LeavesOnly b n (IsCountedBy b))
      (next : IsBearable (geometry_of a) (failed_since a b missing) → LeavesOnly b n (StandsStill b None (failed_since a b missing) arrays)) where
    -- since the record was found
    unstored_since : LeavesOnly b n (StandsStill a None missing arrays)
    unstored_since = elim (bearable_or (geometry_of a) (failed_since a b missing)) [
      | inl bears ↦ weaker (λ stop both. still_unstored stop both.0 both.1) (both_leave counts (next bears))
      | inr many ↦ weaker (λ stop counted. nothing_owed a b missing on stop counted many None arrays) counts
    ]

    pub unstored : LeavesOnly a n (StandsStill a None missing arrays)
    unstored = then_run on first unstored_since

    -- and what the drives showed gives the record still
    module _ (x : Loaded) (shown : View) (given : LeavesOnly a b (IsGivenFrom a shown x missing)) (found_then : Found (geometry_of a) (read_now a).image)
        (generation : found_then.effective.boot.generation ≡ x.record.generation) (silent : (d : Device) → shown d ≡ None → found_then.view d ≡ None) where
      still_given : (stop : Stop) → StandsStill a None missing arrays stop → IsGivenFrom a shown x missing stop → StandsStill a (Some found_then) missing arrays stop
      still_given stop stands gives = grind (arith, nat_tests)

      given_then : (nvrams : List Bool) (stop : Stop) → LeavesBut (OnMembers nvrams) b stop → IsGivenFrom a shown x missing stop
      given_then nvrams stop left fails bears = given_at a b missing x on is_b h_b shown given n stop left.counts stop.image leaves fails bears
        where
          leaves : (i : ℕ) → MayLeave (b.disk (drive i)) (stop.image (drive i))
          leaves i = record { size = (left.bytes (drive i)).size; is_byte = (left.bytes (drive i)).is_byte; clean = λ k clean. (left.bytes (drive i)).same k clean (λ w. w) }

      pub unstored_by : (nvrams : List Bool) → WritesOnly (OnMembers nvrams) b n → LeavesOnly a n (StandsStill a (Some found_then) missing arrays)
      unstored_by nvrams writes = then_run on
          (weaker (λ stop both. still_given stop both.0 both.1) (both_leave first given))
          (weaker (λ stop both. still_given stop both.0 (given_then nvrams stop both.1)) (both_leave unstored_since writes.any_moment))
