-- The facts that a boot record's patches hold.
use Rattle.std.specs.Prelude.{◌≡◌, ℕ, ◌-◌, ◌*◌, ◌/◌, ◌%◌, ◌<◌, min, List, [], length, map, Some, slice_get, slice_index_or, AllPairs}
use Rattle.std.specs.List.{AllByRecursion, AllZip, flat_map}
use Rattle.std.specs.Int.{div_ceil}
use Rattle.boot_codec.specs.Prelude.{bytes_at, View, Facts, by_table, table_tag, any_key, SEGMENT_SECTORS, Place, AnyFact}
use Rattle.boot_codec.specs.declared.patch.Patch.{Patch}
use Rattle.boot_codec.specs.declared.record.BootRecord.{BootRecord}
use Rattle.fact_codec.specs.declared.limits.TheConstants.{FACT_BYTES, PAGE_FACTS}
use Rattle.fact_codec.specs.Fact.{Decodes}
use Rattle.segment_codec.specs.Prelude.{SectorStands, StripesStand, IsShownAt}

-- a page is a sector of eight facts, and a segment has 840
abbrev pub pages : ℕ → ℕ
pages facts = div_ceil facts PAGE_FACTS

-- how many pages of so many facts stand in a segment of the patch
abbrev pub pages_in_part : ℕ → ℕ → ℕ
pages_in_part facts part = min SEGMENT_SECTORS (pages facts - SEGMENT_SECTORS * part)

-- the units of a segment of the patch
abbrev pub places_of_part : Patch → ℕ → List Place
places_of_part p part = slice_index_or (map (λ s. s.places) p.segments) part []

-- the sector that stands at a page of the patch
abbrev pub PageStands : View → Patch → ℕ → List ℕ → Type 0
PageStands view p page sector = SectorStands view (places_of_part p (page / SEGMENT_SECTORS)) (page % SEGMENT_SECTORS) sector

-- the fact that stands at an index of the patch
abbrev pub FactStands : View → Patch → ℕ → AnyFact → Type 0
FactStands view p k f = (sector : List ℕ) × PageStands view p (k / PAGE_FACTS) sector × Decodes (bytes_at (FACT_BYTES * (k % PAGE_FACTS)) FACT_BYTES sector) f

-- the facts of the patch: of its table, in the order of their keys
pub record PatchStands (view : View) (p : Patch) (facts : List AnyFact) : Type 0 where
  pub count : length facts ≡ p.facts
  pub each : (k : ℕ) (f : AnyFact) → slice_get facts k ≡ Some f → FactStands view p k f
  pub table : AllByRecursion (λ f. table_tag f ≡ p.tag) facts
  pub ascending : AllPairs (λ f g. any_key f < any_key g) facts
  pub stripes : (part : ℕ) → part < length p.segments → StripesStand view (places_of_part p part) (pages_in_part p.facts part)

-- the facts of each patch that the record names
abbrev pub PatchesStand : View → BootRecord → List (List AnyFact) → Type 0
PatchesStand view boot patches = AllZip (PatchStands view) boot.patches patches

-- ---- whether stripes stand or not

-- the fact at an index of the patch is what the drive of its sector shows, where that is shown
abbrev pub FactIsShown : View → Patch → ℕ → AnyFact → Type 0
FactIsShown view p k f = (sector : List ℕ) × IsShownAt view (places_of_part p (k / PAGE_FACTS / SEGMENT_SECTORS)) (k / PAGE_FACTS % SEGMENT_SECTORS) sector
    × Decodes (bytes_at (FACT_BYTES * (k % PAGE_FACTS)) FACT_BYTES sector) f

-- so is each fact of a patch
abbrev pub PatchIsShown : View → Patch → List AnyFact → Type 0
PatchIsShown view p facts = (k : ℕ) (f : AnyFact) → slice_get facts k ≡ Some f → FactIsShown view p k f

-- ---- all patches

-- the facts of all patches, one behind another
abbrev pub in_patches : List (List AnyFact) → List AnyFact
in_patches patches = flat_map (λ facts. facts) patches

-- the facts of all patches, each in its table
abbrev pub all_facts : List (List AnyFact) → Facts
all_facts patches = by_table (in_patches patches)
