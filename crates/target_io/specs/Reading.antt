-- What reading does to a shelf, and what it finds there.
use Rattle.std.specs.Prelude.{◌≡◌, ◌⊎◌, ℕ, ◌<◌, ◌≤◌, true, false, Bool, List, Some, Contains}
use Rattle.memory_spec.specs.Prelude.{SegmentFact, SEGMENT_SECTORS, Place, View, drive, nvram, Facts, segment}
use Rattle.world.specs.Prelude.{Rises, Shelved, Continues, WritesOnly}
use Rattle.segment_io.specs.Prelude.{is_in, NoByte, ArePlaces, OnlyLooks, bytes_of}

-- each visible data segment has lawful places of this shelf, and no more sectors than a segment has
abbrev pub AreReadable : Shelved → Facts → Type 0
AreReadable shelf facts = (id : ℕ) (d : SegmentFact) → segment facts id ≡ Some d → ArePlaces shelf d.places × (d.placed ≤ SEGMENT_SECTORS)

-- each drive that isn't missing is shown as it stands
abbrev pub ShowsDrives : Shelved → List Bool → View → Type 0
ShowsDrives shelf missing view = (slot : ℕ) → slot < shelf.drives → is_in missing slot ≡ false → view (drive slot) ≡ Some (bytes_of shelf (drive slot))

-- nothing but reads of drives
pub record ReadsOnly (old new : Shelved) : Type 0 where
  pub continues : Continues old new
  pub nvrams : (n : ℕ) → new.disk (nvram n) ≡ old.disk (nvram n)
  pub looks : OnlyLooks old new
  pub writes : old.honest → WritesOnly NoByte old new

-- the drive of a slot is missing, or a call on it failed
abbrev pub IsLost : Shelved → Shelved → List Bool → ℕ → Type 0
IsLost old new missing slot = (is_in missing slot ≡ true) ⊎ Rises (old.disk (drive slot)).faults (new.disk (drive slot)).faults

-- three drives that hold units of one visible segment are each missing or failed: too little is left of its stripes
pub record LosesThree (old new : Shelved) (facts : Facts) (missing : List Bool) : Type 0 where
  pub id : ℕ
  pub which : SegmentFact
  pub there : segment facts id ≡ Some which
  pub first : Place
  pub second : Place
  pub third : Place
  pub hold : Contains which.places first × Contains which.places second × Contains which.places third
  pub in_order : (first.slot < second.slot) × (second.slot < third.slot) × (third.slot < old.drives)
  pub are : IsLost old new missing first.slot × IsLost old new missing second.slot × IsLost old new missing third.slot

-- these drives are lost, three of a segment's or more
pub record AreDrivesLost (old new : Shelved) (facts : Facts) (missing drives : List Bool) : Type 0 where
  pub three : LosesThree old new facts missing
  pub named : (is_in drives three.first.slot ≡ true) × (is_in drives three.second.slot ≡ true) × (is_in drives three.third.slot ≡ true)
  pub each : (slot : ℕ) → is_in drives slot ≡ true → IsLost old new missing slot
