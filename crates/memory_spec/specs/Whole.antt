-- When memory has nothing beside its patches, and that the record which names them is sound.
use Rattle.std.specs.Prelude.{◌≡◌, List, [], length}
use Rattle.std.specs.List.{AllByRecursion, AllZip}
use Rattle.array_spec.specs.Prelude.{Geometry, object_key, medium_key, address_key, segment_key, elision_key, table_tag, Array, AnyFact, Patch, BootRecord, all_facts, AreSound, AreSegmentsSound}
use Rattle.pyramid.specs.Prelude.{IsLayered}
use Rattle.memory_spec.specs.Tables.{Tables, facts, flushed, patches}
use Rattle.memory_spec.specs.Memory.{Memory, Contents, FactsRead, IsSound, ReadsAs}

-- nothing is staged, and no fact is unflushed
pub record IsWhole (m : Memory) : Type 0 where
  pub staged : m.staged ≡ []
  pub objects : m.tables.objects.unflushed ≡ []
  pub mediums : m.tables.mediums.unflushed ≡ []
  pub addresses : m.tables.addresses.unflushed ≡ []
  pub segments : m.tables.segments.unflushed ≡ []
  pub elisions : m.tables.elisions.unflushed ≡ []

-- in each table patches ascend by key, and numbers rise from patch to patch
pub record AreLayered (t : Tables) : Type 0 where
  pub objects : IsLayered object_key (λ f. f.seq.0) t.objects.patches t.objects.unflushed
  pub mediums : IsLayered medium_key (λ f. f.seq.0) t.mediums.patches t.mediums.unflushed
  pub addresses : IsLayered address_key (λ f. f.seq.0) t.addresses.patches t.addresses.unflushed
  pub segments : IsLayered segment_key (λ f. f.seq.0) t.segments.patches t.segments.unflushed
  pub elisions : IsLayered elision_key (λ f. f.seq.0) t.elisions.patches t.elisions.unflushed

-- the record names a patch: its table, and how many facts it has
pub record IsNamed (p : Patch) (facts : List AnyFact) : Type 0 where
  pub count : p.facts ≡ length facts
  pub table : AllByRecursion (λ f. table_tag f ≡ p.tag) facts

-- The facts of the patches are those of the tables.
abbrev pub PatchesAreFlushed : Type 0
PatchesAreFlushed = (t : Tables) → all_facts (patches t) ≡ flushed t

-- Where nothing is unflushed, they are all facts.
abbrev pub PatchesAreAll : Type 0
PatchesAreAll = (m : Memory) → IsWhole m → all_facts (patches m.tables) ≡ facts m.tables

-- So they read as the array.
abbrev pub PatchesRead : Type 0
PatchesRead = (contents : Contents) (m : Memory) (array : Array) → IsWhole m → ReadsAs contents m array → FactsRead contents [] (all_facts (patches m.tables)) m.next.object array

-- A record that names the patches and the next numbers of sound memory is sound, where its segments are.
abbrev pub RecordIsSound : Type 0
RecordIsSound = (shelf : Geometry) (boot : BootRecord) (m : Memory)
    → IsSound m → IsWhole m → AreLayered m.tables → AreSegmentsSound shelf boot (facts m.tables)
    → boot.next ≡ m.next → AllZip IsNamed boot.patches (patches m.tables)
    → AreSound shelf boot (patches m.tables)
