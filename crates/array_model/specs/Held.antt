-- Places in a plain array.
use Rattle.std.specs.Prelude.{◌≡◌, ℕ, zero, suc, ◌+◌, ◌<◌, ◌≤◌, Bool, true, false, List, [], ◌∷◌, length}
use Rattle.pur_base.specs.Prelude.{Entry, Array, is_named}
use Rattle.array_model.specs.declared.plain.Held.{Held}
use Rattle.array_model.specs.declared.plain.ObjectEntry.{ObjectEntry}

-- the first entry of that name stands at i
abbrev pub IsPlace : List ℕ → Array → ℕ → Type 0
IsPlace name [] i = ⊥
IsPlace name (e ∷ a) zero = is_named name e ≡ true
IsPlace name (e ∷ a) (suc i) = (is_named name e ≡ false) × IsPlace name a i

-- the sectors of the entry at i
abbrev pub sectors_at : Array → ℕ → List (List ℕ)
sectors_at [] i = []
sectors_at (e ∷ a) zero = e.sectors
sectors_at (e ∷ a) (suc i) = sectors_at a i

-- whether the entry at i is a snapshot
abbrev pub snapshot_at : Array → ℕ → Bool
snapshot_at [] i = false
snapshot_at (e ∷ a) zero = e.snapshot
snapshot_at (e ∷ a) (suc i) = snapshot_at a i

-- the array with these sectors for the entry at i
abbrev pub with_sectors_at : Array → ℕ → List (List ℕ) → Array
with_sectors_at [] i sectors = []
with_sectors_at (e ∷ a) zero sectors = record e { sectors = sectors } ∷ a
with_sectors_at (e ∷ a) (suc i) sectors = e ∷ with_sectors_at a i sectors

-- the line of the list of names
abbrev pub line_of : Entry → ObjectEntry
line_of e = record { name = e.name; snapshot = e.snapshot; sectors = length e.sectors }

-- the array has an object there, with that many sectors
pub record IsHeld (a : Array) (place : Held) : Type 0 where
  pub object : place.object < length a
  pub sectors : place.lba + place.count ≤ length (sectors_at a place.object)

-- the place of so many sectors from lba on, of the first entry of that name
pub record IsOf (a : Array) (name : List ℕ) (from many : ℕ) (place : Held) : Type 0 where
  pub named : IsPlace name a place.object
  pub lba : place.lba ≡ from
  pub count : place.count ≡ many
  pub held : IsHeld a place
