-- Where no more failed than is borne, an array that isn't opened is so for want of memory alone.
use Rattle.takeover.proofs.Prelude.{nat_tests, ◌≡◌, ◌⊎◌, inl, inr, ℕ, Bool, true, false, List, Option, Some, None, refl, arith, if◌then◌else◌, is_some, slice_index, ◌<◌, Device, Status, Geometry, Condition, Conditions, Sound, Missing, LeftOut, View, IsBearable, is_missing, Array, Effective, not_holding, members_view, MayAppear, MayBeGiven, geometry_of, has_failed, missing_if, losing, Shelved, IsShelf, MayStop, Enters, Found, ComesOut, IsTakenOver, OnlyFailedAreSilent, read_now, failed_since, HasNoArray, HasTooFew, IsUnopenedBy, loses, borne_on, Image, MayShowAs, IsViewOf, sound_since}
use Rattle.pur_base.specs.declared.reply.Status.TheVariants as status
use Rattle.session_spec.proofs.Taken.{takeover_bears}
use Rattle.takeover.proofs.Loading.{may_read}
use Rattle.register.proofs.Follows.{shows_itself}

may_show : (c : Condition) (bytes : List ℕ) (o : Option (List ℕ)) → ((i : ℕ) → slice_index bytes i < 256) → (o ≡ Some bytes) ⊎ (o ≡ None) → (c ≡ Sound → o ≡ Some bytes) → MayShowAs c bytes o
may_show c bytes o h k l = grind (arith, nat_tests, shows_itself)

-- where each device showed its bytes or nothing
pub is_view : (shelf : Geometry) (image : Image) (missing more : Conditions) (view : View) → ((d : Device) (i : ℕ) → slice_index (image d) i < 256)
    → ((d : Device) → (view d ≡ Some (image d)) ⊎ (view d ≡ None)) → MayAppear shelf image missing more view → IsViewOf shelf image missing more view
is_view shelf image missing more view are shown seen = grind (arith, nat_tests, may_show)

-- what becomes of a device: it is sound, or left out, or a call on it failed
pub outcome : Bool → Option (List ℕ) → Condition
outcome true o = Missing
outcome false (Some bytes) = Sound
outcome false None = LeftOut

comes_out : {shelf : Geometry} {image : _} (found : Found shelf image) (failed : Device → Bool) (after : Conditions) (d : Device) (b : Bool) (o : Option (List ℕ))
    → after d ≡ outcome b o → failed d ≡ b → members_view found.view found.effective d ≡ o → ComesOut found failed after d
unfolding outcome
comes_out found failed after d b o h k l = grind (arith, nat_tests)

missing_too : (b : Bool) (o : Option (List ℕ)) → is_missing (missing_if b (if is_some o then Sound else Missing)) ≡ true → is_missing (outcome b o) ≡ true
unfolding outcome
missing_too b o h = grind (arith, nat_tests)

module _ (old new : Shelved) (missing : Conditions) (arrays : List Array) (enters : Enters old missing arrays) (is : IsShelf old) (h : old.honest)
    (bears : IsBearable (geometry_of old) (failed_since old new missing)) where
  may : MayStop old (read_now old)
  may = may_read old is h

  -- what the devices showed is a view of them
  appears : (view : View) → ((d : Device) → (view d ≡ Some (old.disk d).bytes) ⊎ (view d ≡ None)) → OnlyFailedAreSilent (has_failed (read_now old) (read_now new)) view
      → MayAppear (geometry_of old) (read_now old).image missing (failed_since old new missing) view
  appears view shown silent = grind (arith, nat_tests, loses, has_failed, read_now, sound_since)

  given : (view : View) → MayAppear (geometry_of old) (read_now old).image missing (failed_since old new missing) view → (e : Effective (geometry_of old) view)
      → MayBeGiven (geometry_of old) (read_now old).image missing e.slot e.boot
  given view seen e = record { more = failed_since old new missing; view = view; appears = seen; lawful = e.lawful; effective = e.effective }

  no_array : HasNoArray old new → ⊥
  no_array none =
      let seen = appears none.view none.shown none.silent in
      let e = (enters.stands (read_now old) may).gives (failed_since old new missing) none.view seen in
      let g = given none.view seen e in
      elim (none.unread e) [
        | inl spent ↦ absurd (spent (let below = enters.room (read_now old) may e.slot e.boot g in omega (arith, below)))
        | inr no_tables ↦
            let v = is_view (geometry_of old) (read_now old).image missing (failed_since old new missing) none.view (λ d. is.bytes h d) none.shown seen in
            let held = (((enters.stands (read_now old) may).reads e.slot e.boot g).each (failed_since old new missing) none.view v).holds in
            absurd (no_tables held.patches held.tables.patches_stand held.tables.sound)
      ]

  too_few : HasTooFew old new → ⊥
  unfolding outcome
  too_few few = few.unborne (borne_on (geometry_of old) (losing failed (not_holding few.found.effective.slot few.found.effective.boot few.found.view)) after
      (λ d on gone. missing_too (failed d) (members_view few.found.view few.found.effective d) gone)
      (takeover_bears (geometry_of old) (read_now old).image missing after failed few.found arrays (λ d. is.bytes h d) (enters.stands (read_now old) may) bears taken))
    where
      failed : Device → Bool
      failed = has_failed (read_now old) (read_now new)

      after : Conditions
      after d = outcome (failed d) (members_view few.found.view few.found.effective d)

      taken : IsTakenOver (geometry_of old) (read_now old).image few.found failed after
      taken = record { silent = few.silent; each = λ d on. comes_out few.found failed after d (failed d) (members_view few.found.view few.found.effective d) refl refl refl }

  pub cause : (ended : Status) → IsUnopenedBy ended old new → ended ≡ status.Memory
  cause status.NoArray none = absurd (no_array none)
  cause status.Halted few = absurd (too_few few)
  cause status.Memory by = refl
  cause _ by = absurd by
