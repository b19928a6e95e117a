-- How the nine members with the most free units are found, and their units taken.
use Rattle.std.specs.Prelude.{ℕ, Bool, true, false, ◌≡◌, ◌<◌, ◌≤◌, ◌+◌, List, length, count_by, slice_index_or, if◌then◌else◌}
use Rattle.pur_base.specs.declared.place.Place.{Place}
use Rattle.unit_map.specs.declared.drive.Drive.{Drive}
use Rattle.unit_map.specs.Map.{drive_at, free_count, offer, with_units, IsHeld, IsTaken, ComesFirst}

-- whether a slot is chosen
abbrev pub is_chosen : List Bool → ℕ → Bool
is_chosen chosen slot = slice_index_or chosen slot false

-- what the drive of a slot offers
abbrev pub offer_at : List Drive → List Bool → ℕ → ℕ
offer_at drives chosen slot = offer (is_chosen chosen slot) (drive_at drives slot)

-- the first slot with the greatest offer
pub record IsBestOffer (drives : List Drive) (chosen : List Bool) (slot : ℕ) : Type 0 where
  pub within : slot < length drives
  pub some : 0 < offer_at drives chosen slot
  pub greatest : (k : ℕ) → k < length drives → offer_at drives chosen k ≤ offer_at drives chosen slot
  pub lowest : (k : ℕ) → k < slot → offer_at drives chosen k < offer_at drives chosen slot

-- no slot offers a unit
abbrev pub IsNoOffer : List Drive → List Bool → Type 0
IsNoOffer drives chosen = (k : ℕ) → k < length drives → offer_at drives chosen k ≡ 0

-- so many slots are chosen: members with a free unit, and the first of the members
pub record IsChoice (drives : List Drive) (chosen : List Bool) (slots : ℕ) : Type 0 where
  pub count : count_by (λ is_chosen. is_chosen) chosen ≡ slots
  pub within : (slot : ℕ) → is_chosen chosen slot ≡ true → slot < length drives
  pub members : (slot : ℕ) → is_chosen chosen slot ≡ true → (drive_at drives slot).member ≡ true
  pub some : (slot : ℕ) → is_chosen chosen slot ≡ true → 0 < free_count (drive_at drives slot)
  pub first : (a b : ℕ) → is_chosen chosen a ≡ true → is_chosen chosen b ≡ false → (drive_at drives b).member ≡ true → ComesFirst drives a b

-- each drive that is chosen has one free unit less, and the others are as they were
pub record LosesOne (old new : List Drive) (chosen : List Bool) : Type 0 where
  pub size : length new ≡ length old
  pub members : (slot : ℕ) → (drive_at new slot).member ≡ (drive_at old slot).member
  pub counts : (slot : ℕ) → free_count (drive_at new slot) + (if is_chosen chosen slot then 1 else 0) ≡ free_count (drive_at old slot)

-- the units of the drives that are chosen are taken
pub record TakesChosen (old new : List Drive) (chosen : List Bool) (places : List Place) : Type 0 where
  pub taken : IsTaken old places
  pub used : new ≡ with_units false old places
  pub held : IsHeld new places
  pub loses : LosesOne old new chosen
