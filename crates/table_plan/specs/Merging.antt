-- Two patches of a table that stand as one.
use Rattle.std.specs.Prelude.{ℕ, ◌+◌, ◌<◌, List, length, map}
use Rattle.std.specs.List.{AllByRecursion}
use Rattle.memory_spec.specs.Prelude.{Table, AnyFact, patch_at, patch_facts, patches_of, Memory, Tables, layers_of, IsMadeOfTwo, with_merged}
use Rattle.pur_base.specs.declared.request.Table.TheVariants as table
use Rattle.pur_base.specs.declared.facts.AnyFact.TheVariants as any
use Rattle.table_plan.specs.declared.merged.Merged.{Merged}
use Rattle.table_plan.specs.declared.merged.Merged.TheVariants as merged

-- ---- the one patch

-- its table
abbrev pub table_of : Merged → Table
table_of (merged.Object patch) = table.Object
table_of (merged.Medium patch) = table.Medium
table_of (merged.Address patch) = table.Address
table_of (merged.Segment patch) = table.Segment
table_of (merged.Elision patch) = table.Elision

-- its facts, as those of any table
abbrev pub merged_facts : Merged → List AnyFact
merged_facts (merged.Object patch) = map any.Object (patch_facts patch)
merged_facts (merged.Medium patch) = map any.Medium (patch_facts patch)
merged_facts (merged.Address patch) = map any.Address (patch_facts patch)
merged_facts (merged.Segment patch) = map any.Segment (patch_facts patch)
merged_facts (merged.Elision patch) = map any.Elision (patch_facts patch)

-- the patch, if there is one, as a list of patches
abbrev pub merged_patches : Merged → List (List AnyFact)
merged_patches (merged.Object patch) = map (map any.Object) (patches_of patch)
merged_patches (merged.Medium patch) = map (map any.Medium) (patches_of patch)
merged_patches (merged.Address patch) = map (map any.Address) (patches_of patch)
merged_patches (merged.Segment patch) = map (map any.Segment) (patches_of patch)
merged_patches (merged.Elision patch) = map (map any.Elision) (patches_of patch)

-- each of them has facts
abbrev pub HasMergedFacts : Merged → Type 0
HasMergedFacts p = AllByRecursion (λ facts. 0 < length facts) (merged_patches p)

-- ---- of what it is made

-- how many patches a table has
abbrev pub patch_count : Tables → Table → ℕ
patch_count t table.Object = length t.objects.patches
patch_count t table.Medium = length t.mediums.patches
patch_count t table.Address = length t.addresses.patches
patch_count t table.Segment = length t.segments.patches
patch_count t table.Elision = length t.elisions.patches

-- how many facts the patch of an index and the next one have
abbrev pub pair_facts : Tables → Table → ℕ → ℕ
pair_facts ts t i = length (patch_at (layers_of t ts) i) + length (patch_at (layers_of t ts) (i + 1))

-- it is made of its table's patches at that index and behind it
abbrev pub IsMergedOf : Memory → ℕ → Merged → Type 0
IsMergedOf m i (merged.Object patch) = IsMadeOfTwo m.tables table.Object i patch
IsMergedOf m i (merged.Medium patch) = IsMadeOfTwo m.tables table.Medium i patch
IsMergedOf m i (merged.Address patch) = IsMadeOfTwo m.tables table.Address i patch
IsMergedOf m i (merged.Segment patch) = IsMadeOfTwo m.tables table.Segment i patch
IsMergedOf m i (merged.Elision patch) = IsMadeOfTwo m.tables table.Elision i patch

-- ---- what it makes of memory

-- the tables with it in the place of the two
abbrev pub tables_with : Tables → ℕ → Merged → Tables
tables_with t i (merged.Object patch) = record t { objects = with_merged t.objects i patch }
tables_with t i (merged.Medium patch) = record t { mediums = with_merged t.mediums i patch }
tables_with t i (merged.Address patch) = record t { addresses = with_merged t.addresses i patch }
tables_with t i (merged.Segment patch) = record t { segments = with_merged t.segments i patch }
tables_with t i (merged.Elision patch) = record t { elisions = with_merged t.elisions i patch }

-- memory with it, where its segments were given so many ids
abbrev pub memory_with : Memory → ℕ → Merged → ℕ → Memory
memory_with m i p count = record m { tables = tables_with m.tables i p; next = record m.next { patch_segment = m.next.patch_segment + count } }
