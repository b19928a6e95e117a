-- When the tables of a boot record are sound.
use Rattle.std.specs.Prelude.{◌≡◌, ◌≢◌, ◌⊎◌, ℕ, ◌+◌, ◌<◌, ◌≤◌, false, List, [], ◌∷◌, ◌++◌, length, map, Some, IsSome, AllPairs}
use Rattle.std.specs.List.{AllByRecursion, flat_map}
use Rattle.boot_codec.specs.Prelude.{Geometry, Facts, any_number, tag_of, object, range, address, segment, objects, segments, is_elided, IsOver, OBJECTS, OBJECT_SECTORS, SEGMENT_SHARDS, Place, Location, Table, Volume, Stored, ObjectFact, MediumFact, SegmentFact, ElisionFact, AnyFact, AscendFrom}
use Rattle.pur_base.specs.declared.request.Table.TheVariants as table
use Rattle.boot_codec.specs.declared.patch.PatchSegment.{PatchSegment}
use Rattle.boot_codec.specs.declared.patch.Patch.{Patch}
use Rattle.boot_codec.specs.declared.record.NextNumbers.{NextNumbers}
use Rattle.boot_codec.specs.declared.record.BootRecord.{BootRecord}
use Rattle.array_spec.specs.Stored.{in_patches, all_facts}

-- ---- ids

-- the next id of a table: the ids of addresses are mediums
abbrev pub next_id : NextNumbers → Table → ℕ
next_id next table.Object = next.object
next_id next table.Medium = next.medium
next_id next table.Address = next.medium
next_id next table.Segment = next.segment
next_id next table.Elision = 0

-- the ids of each fact are below the next ones, also of facts that aren't visible
pub record AreIdsBelow (next : NextNumbers) (facts : Facts) : Type 0 where
  pub objects : AllByRecursion (λ f. (f.object.0 < next.object) × (f.medium.0 < next.medium)) facts.objects
  pub mediums : AllByRecursion (λ f. f.medium.0 < next.medium) facts.mediums
  pub addresses : AllByRecursion (λ f. f.medium.0 < next.medium) facts.addresses
  pub segments : AllByRecursion (λ f. f.segment.0 < next.segment) facts.segments
  pub elisions : AllByRecursion (λ f. f.last < next_id next f.table) facts.elisions

-- ---- objects and mediums

-- no other visible object has the medium of a volume
abbrev pub OwnsMedium : ObjectFact → ObjectFact → Type 0
OwnsMedium x y = x.kind ≡ Volume → x.medium.0 ≢ y.medium.0

-- the visible objects have names of their own, and mediums that are there
pub record AreObjectsSound (facts : Facts) (next : ℕ) : Type 0 where
  pub names : AllPairs (λ x y. x.name ≢ y.name) (objects facts next)
  pub mediums : AllPairs (λ x y. OwnsMedium x y × OwnsMedium y x) (objects facts next)
  pub range_kept : AllByRecursion (λ x. is_elided facts.elisions table.Medium x.medium.0 ≡ false) (objects facts next)
  pub address_kept : AllByRecursion (λ x. is_elided facts.elisions table.Address x.medium.0 ≡ false) (objects facts next)
  pub most : length (objects facts next) ≤ OBJECTS

-- The visible ranges of a medium are disjoint, end within its object, and lead to no volume's medium.
-- Starts and sectors are bounded: past 2^64 the key of a medium is one of the next medium.
pub record AreMediumsSound (facts : Facts) : Type 0 where
  pub disjoint : (medium sector : ℕ) (r s : MediumFact) → IsOver facts medium sector r → IsOver facts medium sector s → r ≡ s
  pub within : (id start : ℕ) (x : ObjectFact) (r : MediumFact) → object facts id ≡ Some x → start < OBJECT_SECTORS → range facts x.medium.0 start ≡ Some r → r.end ≤ x.sectors
  pub frozen : (id medium start : ℕ) (x : ObjectFact) (r : MediumFact) → object facts id ≡ Some x → x.kind ≡ Volume → range facts medium start ≡ Some r → r.target.0 ≢ x.medium.0

-- ---- addresses and segments

-- a stored sector was placed in a visible segment, and a sector that has an address is one of its object's
pub record AreAddressesSound (facts : Facts) : Type 0 where
  pub there : (medium sector : ℕ) (at : Location) → address facts medium sector ≡ Some (Stored at) → (d : SegmentFact) × (segment facts at.segment.0 ≡ Some d) × (at.index < d.placed)
  pub within : (id sector : ℕ) (x : ObjectFact) → object facts id ≡ Some x → sector < OBJECT_SECTORS → IsSome (address facts x.medium.0 sector) → sector < x.sectors

-- the segments of all patches
abbrev pub named_segments : BootRecord → List PatchSegment
named_segments boot = flat_map (λ p. p.segments) boot.patches

-- the places of each segment, of patches and of data
abbrev pub used_places : BootRecord → Facts → List (List Place)
used_places boot facts = map (λ s. s.places) (named_segments boot) ++ map (λ d. d.places) (segments facts boot.next.segment)

-- no unit is in both
abbrev pub AreApart : List Place → List Place → Type 0
AreApart ps qs = AllByRecursion (λ p. AllByRecursion (λ q. p ≢ q) qs) ps

-- nine units of the shelf on ascending slots
pub record ArePlaces (shelf : Geometry) (places : List Place) : Type 0 where
  pub nine : length places ≡ SEGMENT_SHARDS
  pub ascending : AscendFrom shelf.slots shelf.units 0 places

-- segments have ids of their own, and no unit stands in two
pub record AreSegmentsSound (shelf : Geometry) (boot : BootRecord) (facts : Facts) : Type 0 where
  pub places : (id : ℕ) (d : SegmentFact) → segment facts id ≡ Some d → ArePlaces shelf d.places
  pub patch_ids : AllByRecursion (λ s. s.id < boot.next.patch_segment) (named_segments boot)
  pub distinct : AllPairs (λ s t. s.id ≢ t.id) (named_segments boot)
  pub apart : AllPairs AreApart (used_places boot facts)

-- ---- elisions

-- two ranges don't overlap or touch, or one lies in the other
abbrev pub FitTogether : ElisionFact → ElisionFact → Type 0
FitTogether f g =
    (f.last + 1 < g.first) ⊎ (g.last + 1 < f.first) ⊎ ((f.first ≤ g.first) × (g.last ≤ f.last)) ⊎ ((g.first ≤ f.first) × (f.last ≤ g.last))

-- of two elisions of one key the newer has no smaller last id
abbrev pub Grows : ElisionFact → ElisionFact → Type 0
Grows f g = f.first ≡ g.first → tag_of f.table ≡ tag_of g.table → f.seq.0 < g.seq.0 → f.last ≤ g.last

-- newer elisions of a key reach at least as far, and ranges of a table lie apart or in one another
pub record AreElisionsSound (elisions : List ElisionFact) : Type 0 where
  pub grow : AllPairs (λ f g. Grows f g × Grows g f) elisions
  pub fit : AllPairs (λ f g. tag_of f.table ≡ tag_of g.table → FitTogether f g) elisions

-- ---- sequence numbers

-- each sequence number of a patch is below each one of the next patch of its table
abbrev pub IsOlder : Patch × List AnyFact → Patch × List AnyFact → Type 0
IsOlder p q = p.0.tag ≡ q.0.tag → AllByRecursion (λ f. AllByRecursion (λ g. any_number f < any_number g) q.1) p.1

-- each patch with its facts
abbrev pub with_facts : List Patch → List (List AnyFact) → List (Patch × List AnyFact)
with_facts [] facts = []
with_facts (p ∷ ps) [] = []
with_facts (p ∷ ps) (fs ∷ rest) = (p, fs) ∷ with_facts ps rest

-- no two facts have one sequence number, and later patches have greater ones
pub record AreSequencesSound (boot : BootRecord) (patches : List (List AnyFact)) : Type 0 where
  pub below : AllByRecursion (λ f. any_number f < boot.next.sequence) (in_patches patches)
  pub distinct : AllPairs (λ f g. any_number f ≢ any_number g) (in_patches patches)
  pub rising : AllPairs IsOlder (with_facts boot.patches patches)

-- ---- all of it

-- the tables that the patches hold are sound, in the order in which they are judged
pub record AreSound (shelf : Geometry) (boot : BootRecord) (patches : List (List AnyFact)) : Type 0 where
  pub ids : AreIdsBelow boot.next (all_facts patches)
  pub objects : AreObjectsSound (all_facts patches) boot.next.object
  pub mediums : AreMediumsSound (all_facts patches)
  pub addresses : AreAddressesSound (all_facts patches)
  pub segments : AreSegmentsSound shelf boot (all_facts patches)
  pub elisions : AreElisionsSound (all_facts patches).elisions
  pub sequences : AreSequencesSound boot patches
