-- What is told of a record's patches where two of a table stand as one. Functions without code promise, as their contracts, laws of these definitions.
use Rattle.std.specs.Prelude.{◌≡◌, ℕ, ◌+◌, ◌^◌, ◌<◌, ◌≤◌, true, List, length}
use Rattle.std.specs.List.{AllByRecursion, AllZip}
use Rattle.memory_spec.specs.Prelude.{Facts, tag_of, segment, Table, Place, Patch, NextNumbers, BootRecord, ArePatches, IsBootRecord, patch_segments, ArePlaces, AreSegmentsSound, Memory, patches, AreJoined, has_pair, pair_segments, place_in, IsNamed}
use Rattle.boot_codec.specs.declared.limits.TheConstants.{NUMBER_LIMIT}
use Rattle.free_space.specs.Map.{shelf_of}
use Rattle.table_plan.specs.declared.merged.Merged.{Merged}
use Rattle.table_plan.specs.Prelude.{HasMergedFacts, merged_facts, merged_patches, pair_facts, patch_count, table_of, tables_with, IsMergedOf}
use Rattle.record_tables.specs.Laws.{with_patches}
use Rattle.record_tables.specs.Patches.{new_patch, segments_for}
use Rattle.record_tables.specs.Units.{AreNewUnits}

-- what a record may say of its patches, it may say where one on no more segments, or none, stands in the place of two of a table
abbrev pub JoinedAreLawful : Type 0
JoinedAreLawful = (slots units : ℕ) (was all : List Patch) (t : Table) (i count first : ℕ) (places : List (List Place))
    → ArePatches slots units was → has_pair t i was ≡ true → AreJoined (place_in t i was) was (new_patch (tag_of t) count first places) all
    → count < 2 ^ 32 → segments_for count ≡ length places → AllByRecursion (ArePlaces (record { slots = slots; units = units })) places
    → first + length places < NUMBER_LIMIT → length places ≤ pair_segments t i was
    → ArePatches slots units all × (patch_segments all + pair_segments t i was ≡ patch_segments was + length places)

-- Where the patches are named as those of memory, it has a pair there where memory has one; no more facts than the two have need no more segments than the two have.
abbrev pub PairsAreNamed : Type 0
PairsAreNamed = (slots units : ℕ) (was : List Patch) (m : Memory) (t : Table) (i : ℕ)
    → ArePatches slots units was → AllZip IsNamed was (patches m.tables)
    → (has_pair t i was ≡ true → i + 1 < patch_count m.tables t)
    × (i + 1 < patch_count m.tables t → has_pair t i was ≡ true)
    × ((count : ℕ) → has_pair t i was ≡ true → count ≤ pair_facts m.tables t i → (segments_for count ≤ pair_segments t i was) × (count < 2 ^ 32))

-- and with the one patch in the place of the two they are named as those of memory with it
abbrev pub JoinedAreNamed : Type 0
JoinedAreNamed = (slots units : ℕ) (was : List Patch) (m : Memory) (i : ℕ) (p : Merged)
    → ArePatches slots units was → AllZip IsNamed was (patches m.tables) → IsMergedOf m i p
    → AreJoined (place_in (table_of p) i was) (patches m.tables) (merged_patches p) (patches (tables_with m.tables i p))
    × ((added all : List Patch) → AllZip IsNamed added (merged_patches p) → AreJoined (place_in (table_of p) i was) was added all → AllZip IsNamed all (patches (tables_with m.tables i p)))

-- the one patch is named by its count, if there is one
abbrev pub MergedIsNamed : Type 0
MergedIsNamed = (p : Merged) (first : ℕ) (units : List (List Place)) → HasMergedFacts p → AllZip IsNamed (new_patch (tag_of (table_of p)) (length (merged_facts p)) first units) (merged_patches p)

-- the segments are sound with it, on new units, where the facts show the same data segments
abbrev pub JoinedSegmentsAreSound : Type 0
JoinedSegmentsAreSound = (boot : BootRecord) (old new : Facts) (t : Table) (i count first : ℕ) (units : List (List Place)) (all : List Patch) (next : NextNumbers) (flushed : ℕ)
    → IsBootRecord boot → AreSegmentsSound (shelf_of boot) boot old → ((id : ℕ) → segment new id ≡ segment old id)
    → segments_for count ≡ length units → AreNewUnits boot old units → boot.next.patch_segment ≤ first
    → AreJoined (place_in t i boot.patches) boot.patches (new_patch (tag_of t) count first units) all
    → next.segment ≡ boot.next.segment → next.patch_segment ≡ first + length units
    → AreSegmentsSound (shelf_of boot) (with_patches boot all next flushed) new
