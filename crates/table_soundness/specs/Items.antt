-- What is judged of each table.
use Rattle.std.specs.Prelude.{◌≡◌, ◌≢◌, ◌<◌, ◌≤◌, false, List, ◌++◌, length, map, All, AllPairs}
use Rattle.std.specs.List.{AllByRecursion, flat_map}
use Rattle.array_spec.specs.Prelude.{Geometry, Facts, is_within, ObjectFact, SegmentFact, OBJECTS, NextNumbers, BootRecord, AscendFrom, AreObjectsSound, AreSegmentsSound, OwnsMedium, named_segments}
use Rattle.pur_base.specs.declared.request.Table.TheVariants as table
use Rattle.object_table.specs.Objects.{AreNamesDistinct}
use Rattle.pyramid.specs.Prelude.{ElidedRanges, ranges_of}
use Rattle.table_soundness.specs.Places.{code_of}

-- ---- segments

-- the ids of segments are below the next ones, also of facts that aren't visible, and no unit stands in two
pub record AreSegmentsRight (shelf : Geometry) (boot : BootRecord) (facts : Facts) : Type 0 where
  pub ids : AllByRecursion (λ f. f.segment.0 < boot.next.segment) facts.segments
  pub sound : AreSegmentsSound shelf boot facts

-- the same, as the list of the visible segments says it
pub record AreSegmentsListed (shelf : Geometry) (boot : BootRecord) (facts shown : List SegmentFact) : Type 0 where
  pub ids : All (λ f. f.segment.0 < boot.next.segment) facts
  pub patch_ids : All (λ s. s.id < boot.next.patch_segment) (named_segments boot)
  pub distinct : AllPairs (λ s t. s.id ≢ t.id) (named_segments boot)
  pub placed : All (λ d. AscendFrom shelf.slots shelf.units 0 d.places) shown
  pub apart : AllPairs (λ m n. m ≢ n) (map code_of (flat_map (λ s. s.places) (named_segments boot)) ++ map code_of (flat_map (λ d. d.places) shown))

-- ---- objects

-- the ids of objects and of their mediums are below the next ones, also of facts that aren't visible
pub record AreObjectsRight (next : NextNumbers) (facts : Facts) : Type 0 where
  pub ids : AllByRecursion (λ f. (f.object.0 < next.object) × (f.medium.0 < next.medium)) facts.objects
  pub sound : AreObjectsSound facts next.object

-- no other object has the medium of a volume
abbrev pub OwnTheirMediums : List ObjectFact → Type 0
OwnTheirMediums objects = AllPairs (λ x y. OwnsMedium x y × OwnsMedium y x) objects

-- the object's medium is elided in no table
pub record IsKept (elided : ElidedRanges) (x : ObjectFact) : Type 0 where
  pub ranges : is_within (ranges_of elided table.Medium) x.medium.0 ≡ false
  pub addresses : is_within (ranges_of elided table.Address) x.medium.0 ≡ false

-- the same, as the list of the visible objects says it
pub record AreObjectsListed (next : NextNumbers) (elided : ElidedRanges) (facts shown : List ObjectFact) : Type 0 where
  pub ids : All (λ f. f.object.0 < next.object) facts
  pub mediums : All (λ f. f.medium.0 < next.medium) facts
  pub most : length shown ≤ OBJECTS
  pub names : AreNamesDistinct shown
  pub owned : OwnTheirMediums shown
  pub kept : All (IsKept elided) shown
