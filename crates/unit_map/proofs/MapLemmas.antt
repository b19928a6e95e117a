-- What a map says once units are made free or used: for callers too.
use Rattle.unit_map.proofs.Prelude.{nat_tests, ℕ, zero, suc, Bool, false, ◌≡◌, ◌≢◌, ◌<◌, ◌⊎◌, List, [], ◌∷◌, length, get_or, All, AllPairs, refl, ap, ◌∙◌, arith, get_or-set_same, get_or-set_other, length-set, set_past, Place, Drive, no_drive, drive_at, is_free, with_unit, with_unit_of, with_units, IsPlace, IsHeld}

-- ---- one unit

pub length-with_unit : (free : Bool) (drives : List Drive) (place : Place) → length (with_unit free drives place) ≡ length drives
length-with_unit free drives place = length-set drives place.slot (with_unit_of free place.unit (drive_at drives place.slot))

drive-there : (free : Bool) (drives : List Drive) (place : Place) → place.slot < length drives → drive_at (with_unit free drives place) place.slot ≡ with_unit_of free place.unit (drive_at drives place.slot)
drive-there free drives place within = get_or-set_same drives place.slot (with_unit_of free place.unit (drive_at drives place.slot)) no_drive within

pub drive-elsewhere : (free : Bool) (drives : List Drive) (place : Place) (slot : ℕ) → slot ≢ place.slot → drive_at (with_unit free drives place) slot ≡ drive_at drives slot
drive-elsewhere free drives place slot apart = get_or-set_other drives place.slot slot (with_unit_of free place.unit (drive_at drives place.slot)) no_drive apart

size-with_unit : (free : Bool) (drives : List Drive) (place : Place) (slot : ℕ) → length (drive_at (with_unit free drives place) slot).free ≡ length (drive_at drives slot).free
size-with_unit free drives place slot = grind (arith, nat_tests, drive-there, length-set, set_past, drive-elsewhere)

pub IsPlace-with_unit : (free : Bool) (drives : List Drive) (at place : Place) → IsPlace drives place → IsPlace (with_unit free drives at) place
IsPlace-with_unit free drives at place h = grind (arith, nat_tests, length-with_unit, size-with_unit)

pub is_free-with_unit_same : (free : Bool) (drives : List Drive) (place : Place) → IsPlace drives place → is_free (with_unit free drives place) place ≡ free
is_free-with_unit_same free drives place h = grind (arith, nat_tests, drive-there, get_or-set_same)

abbrev place_of : ℕ → ℕ → Place
place_of slot unit = record { slot = slot; unit = unit }

same-place : (a b : Place) → a.slot ≡ b.slot → a.unit ≡ b.unit → a ≡ b
same-place a b slot unit = ap (λ (s : ℕ). place_of s a.unit) slot ∙ ap (λ (u : ℕ). place_of b.slot u) unit

pub is_free-with_unit_other : (free : Bool) (drives : List Drive) (at place : Place) → place ≢ at → is_free (with_unit free drives at) place ≡ is_free drives place
is_free-with_unit_other free drives at place apart = grind (arith, nat_tests, same-place, drive-there, get_or-set_other, set_past, drive-elsewhere)

cases_place : (a b : Place) → (a ≡ b) ⊎ (a ≢ b)
cases_place a b = grind (arith, nat_tests, same-place)

-- a unit that is already so stays so
pub is_free-with_unit_stays : (free : Bool) (drives : List Drive) (at place : Place) → IsPlace drives place → is_free drives place ≡ free → is_free (with_unit free drives at) place ≡ free
is_free-with_unit_stays free drives at place h is = grind (arith, nat_tests, is_free-with_unit_same, is_free-with_unit_other, cases_place)

-- ---- many units

pub IsPlace-with_units : (free : Bool) (drives : List Drive) (places : List Place) (place : Place) → IsPlace drives place → IsPlace (with_units free drives places) place
IsPlace-with_units free drives [] place h = h
IsPlace-with_units free drives (at ∷ places) place h = IsPlace-with_units free (with_unit free drives at) places place (IsPlace-with_unit free drives at place h)

pub is_free-with_units_stays : (free : Bool) (drives : List Drive) (places : List Place) (place : Place) → IsPlace drives place → is_free drives place ≡ free → is_free (with_units free drives places) place ≡ free
is_free-with_units_stays free drives [] place h is = is
is_free-with_units_stays free drives (at ∷ places) place h is =
    is_free-with_units_stays free (with_unit free drives at) places place (IsPlace-with_unit free drives at place h) (is_free-with_unit_stays free drives at place h is)

pub is_free-with_units_there : (free : Bool) (drives : List Drive) (places : List Place) (d : Place) (shard : ℕ) → shard < length places → IsPlace drives (get_or places shard d) → is_free (with_units free drives places) (get_or places shard d) ≡ free
is_free-with_units_there free drives [] d shard lt h = absurd (omega arith)
is_free-with_units_there free drives (at ∷ places) d zero lt h =
    is_free-with_units_stays free (with_unit free drives at) places at (IsPlace-with_unit free drives at at h) (is_free-with_unit_same free drives at h)
is_free-with_units_there free drives (at ∷ places) d (suc shard) lt h =
    is_free-with_units_there free (with_unit free drives at) places d shard (omega arith) (IsPlace-with_unit free drives at (get_or places shard d) h)

-- ---- a segment's units

-- units that were made used are held
pub IsHeld-used : (drives : List Drive) (places : List Place) → AllPairs (λ a b. a.slot < b.slot) places → All (IsPlace drives) places → IsHeld (with_units false drives places) places
IsHeld-used drives places ascending within = record {
  ascending = ascending;
  within = λ k d lt. IsPlace-with_units false drives places (get_or places k d) (within k d lt);
  used = λ k d lt. is_free-with_units_there false drives places d k lt (within k d lt);
}

-- ---- a drive made a member or not

-- ---- what is given back

member-with_unit : (free : Bool) (drives : List Drive) (at : Place) (slot : ℕ) → (drive_at (with_unit free drives at) slot).member ≡ (drive_at drives slot).member
member-with_unit free drives at slot = grind (arith, nat_tests, drive-there, set_past, drive-elsewhere)

pub member-with_units : (free : Bool) (drives : List Drive) (places : List Place) (slot : ℕ) → (drive_at (with_units free drives places) slot).member ≡ (drive_at drives slot).member
member-with_units free drives [] slot = refl
member-with_units free drives (at ∷ places) slot = member-with_units free (with_unit free drives at) places slot ∙ member-with_unit free drives at slot

pub size-with_units : (free : Bool) (drives : List Drive) (places : List Place) (slot : ℕ) → length (drive_at (with_units free drives places) slot).free ≡ length (drive_at drives slot).free
size-with_units free drives [] slot = refl
size-with_units free drives (at ∷ places) slot = size-with_units free (with_unit free drives at) places slot ∙ size-with_unit free drives at slot

abbrev drive_of : Bool → List Bool → Drive
drive_of member free = record { member = member; free = free }
