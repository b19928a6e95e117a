-- No fault of a loading comes where the devices stand for arrays and no more is missing than is borne.
use Rattle.takeover.proofs.Prelude.{nat_tests, ◌≡◌, ◌⊎◌, ℕ, ◌+◌, ◌<◌, ◌≤◌, Bool, true, List, length, refl, sym, subst, arith, Result, Ok, Err, cases_Bool, Array, Conditions, Sound, is_missing, IsBearable, drive, Device, BadRecord, BootRecord, read_record, set_count, spelling, MayBeGiven, given_with_fewer, one_is_effective, not_missing, geometry_of, has_risen, Shelved, Stop, IsSame, Continues, MayStop, Enters, failed_since, IsShelf, read_now, LoadFault, IsMember, IsRead, IsFaultOf, IsBadBody, IsSpent, TooFewHold, losing_within, IsLoadOf, fault_of, IsFoundBy}
use Rattle.boot_codec.proofs.RecordLemmas.{record_again}
use Rattle.boot_region.specs.declared.loading.LoadFault.TheVariants as faults
use Rattle.takeover.proofs.Loading.{at_time, may_at_time, same_leaves, view_appears, given_here, here_decided, seen_effective, view, member_here, may_read}
use Rattle.array_core.proofs.Lost.{enough}

-- at most two drives don't have such a flag
pub few_lack : (slots : ℕ) (missing : Conditions) (flags : List Bool) (shelf_units : ℕ) → IsBearable (record { slots = slots; units = shelf_units }) missing
    → ((i : ℕ) → i < slots → missing (drive i) ≡ Sound → IsMember flags i) → slots ≤ set_count flags + 2
few_lack slots missing flags units bears sound =
    omega (arith, bears.drives, enough (λ i. is_missing (missing (drive i))) flags 0 slots (λ i lt. subst (λ (k : ℕ). (is_missing (missing (drive k)) ≡ true) ⊎ IsMember flags i) (from_zero i) (each i lt)))
  where
    from_zero : (i : ℕ) → i ≡ 0 + i
    from_zero i = omega arith

    each : (i : ℕ) → i < slots → (is_missing (missing (drive i)) ≡ true) ⊎ IsMember flags i
    each i lt = grind (arith, nat_tests, cases_Bool, not_missing)

module _ (old new : Shelved) (missing : Conditions) (arrays : List Array) (enters : Enters old missing arrays) (on : Continues old new)
    (same : (d : Device) → IsSame (old.disk d) (new.disk d)) (bears : IsBearable (geometry_of old) (failed_since old new missing))
    (bytes : List ℕ) (answered : List Bool) (all : length answered ≡ old.drives) (read : (i : ℕ) → i < old.drives → IsRead old new bytes answered i) (start : Stop) (may : MayStop new start) where
  bad_body : (fault : BadRecord) → IsBadBody (geometry_of old) bytes answered fault → ⊥
  bad_body fault bad =
      let here = given_here old new missing arrays enters on same bears bytes answered all read start may in
      let e = one_is_effective (geometry_of old) (view old new missing arrays enters on same bears bytes answered all read start may) here.slot bad.slot _ bad.body here.effective
      (seen_effective old new missing arrays enters on same bears bytes answered all read start may bad.slot bad.body bad.effective) in
      let again : ◌≡◌ {A = Result BootRecord BadRecord} (read_record old.drives old.units bad.body) (Ok here.boot) = record_again old.drives old.units here.boot bad.body here.lawful.lawful here.lawful.slots here.lawful.units (sym e.1) in
      absurd (cc (again, bad.exact))

  too_few : (drives : List Bool) → TooFewHold (geometry_of old) bytes answered drives → ⊥
  too_few drives few =
      absurd (omega (
        arith,
        few.too_few,
        few_lack old.drives (failed_since old new missing) drives old.units bears
            (λ i lt sound. member_here old new missing arrays enters on same bears bytes answered all read start may few.slot few.boot drives few.held i lt sound),
      ))

  -- a record that may be given leaves room
  spent : IsSpent (geometry_of old) bytes answered → ⊥
  spent is =
      let g : MayBeGiven (geometry_of old) start.image (failed_since old new missing) is.slot is.boot = record {
        more = failed_since old new missing;
        view = view old new missing arrays enters on same bears bytes answered all read start may;
        appears = view_appears old new missing arrays enters on same bears bytes answered all read start may;
        lawful = is.lawful;
        effective = seen_effective old new missing arrays enters on same bears bytes answered all read start may is.slot (spelling is.boot) is.effective;
      } in
      let before = given_with_fewer {shelf = geometry_of old} {image = start.image} {missing = missing} {more = failed_since old new missing} {slot = is.slot} {boot = is.boot}
      (losing_within (λ d. has_risen (old.disk d).faults (new.disk d).faults) missing) g in
      let room = enters.room (at_time old start.image) (may_at_time old start.image (λ d. same_leaves (old.disk d) (new.disk d) (start.image d) (same d) (may.device d))) is.slot is.boot before in
      absurd (omega (arith, room, is.spent))

  pub no_fault : (fault : LoadFault) → IsFaultOf (geometry_of old) bytes answered fault → (fault' : Type 0) → ((m : _) → fault ≡ faults.Memory m → fault') → fault'
  no_fault (faults.Memory m) is P memory = memory m refl
  no_fault faults.NoArray is P memory =
      let here = given_here old new missing arrays enters on same bears bytes answered all read start may in
      absurd (is here.slot _ (here_decided old new missing arrays enters on same bears bytes answered all read start may))
  no_fault faults.Spent is P memory = absurd (spent is)
  no_fault (faults.BadRecord e) is P memory = absurd (bad_body e is)
  no_fault (faults.TooFew drives) is P memory = absurd (too_few drives is)

pub not_loaded : (old mid : Shelved) (missing : Conditions) (arrays : List Array) → IsShelf mid → old.honest → Enters old missing arrays → Continues old mid → ((d : Device) → IsSame (old.disk d) (mid.disk d))
    → IsBearable (geometry_of old) (failed_since old mid missing) → (later : Conditions) (e : LoadFault) → IsLoadOf old mid (Err e) → IsFoundBy mid later arrays (Err (fault_of e))
not_loaded old mid missing arrays is_mid h enters on same bears later (faults.Memory m) by = tt
not_loaded old mid missing arrays is_mid h enters on same bears later e by =
    no_fault old mid missing arrays enters on same bears by.bytes by.answered by.all by.read (read_now mid) (may_read mid is_mid (on.honest h)) e by.answer ⊥ (λ m is. cc)
