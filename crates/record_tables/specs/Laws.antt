-- What is told of the patches of the next boot record.
use Rattle.std.specs.Prelude.{◌≡◌, ℕ, ◌+◌, ◌<◌, ◌≤◌, List, ◌++◌, length, map, Option, IfSome}
use Rattle.std.specs.List.{AllByRecursion, AllZip, flat_map}
use Rattle.memory_spec.specs.Prelude.{Place, AnyFact, PATCH_SEGMENTS, Patch, NextNumbers, BootRecord, ArePatches, IsBootRecord, patch_segments, ArePlaces, AreSegmentsSound, patches_of, facts, patches, Memory, IsNamed}
use Rattle.pur_base.specs.declared.facts.AnyFact.TheVariants as any
use Rattle.boot_codec.specs.declared.limits.TheConstants.{NUMBER_LIMIT}
use Rattle.free_space.specs.Map.{shelf_of}
use Rattle.array_memory.specs.declared.plan.Counts.{Counts}
use Rattle.array_memory.specs.declared.plan.Plan.{Plan}
use Rattle.array_memory.specs.Prelude.{after_plan, units_of, AreCounts, IsPlanFor}
use Rattle.record_tables.specs.Patches.{segments_of, FitRecord, added_patches, by_tag}
use Rattle.record_tables.specs.Units.{AreNewUnits}

-- ---- a lawful record

-- what a record may say of its patches, it may say of them and the new ones, where there is room for their segments
abbrev pub NextPatchesAreLawful : Type 0
NextPatchesAreLawful = (slots units : ℕ) (was : List Patch) (counts : Counts) (first : ℕ) (places : List (List Place))
    → ArePatches slots units was → FitRecord counts → segments_of counts ≡ length places
    → AllByRecursion (ArePlaces (record { slots = slots; units = units })) places
    → first + length places < NUMBER_LIMIT → patch_segments was + length places ≤ PATCH_SEGMENTS
    → ArePatches slots units (by_tag was (added_patches counts first places))
    × (patch_segments (by_tag was (added_patches counts first places)) ≡ patch_segments was + length places)

-- ---- named patches

-- a patch, if there is one, has facts
abbrev pub HasFacts : {F : Type 0} → Option (List F) → Type 0
HasFacts patch = IfSome patch (λ facts. 0 < length facts)

-- so has each new patch of a plan
pub record HaveFacts (p : Plan) : Type 0 where
  pub objects : HasFacts p.objects
  pub mediums : HasFacts p.mediums
  pub addresses : HasFacts p.addresses
  pub segments : HasFacts p.segment_facts
  pub elisions : HasFacts p.elisions

-- the facts of each new patch of a plan, by tag
abbrev pub new_facts : Plan → List (List AnyFact)
new_facts p =
    map (map any.Object) (patches_of p.objects)
    ++ (map (map any.Medium) (patches_of p.mediums)
    ++ (map (map any.Address) (patches_of p.addresses)
    ++ (map (map any.Segment) (patches_of p.segment_facts)
    ++ map (map any.Elision) (patches_of p.elisions))))

-- the new patches are named by their counts
abbrev pub AddedAreNamed : Type 0
AddedAreNamed = (p : Plan) (counts : Counts) (first : ℕ) (units : List (List Place)) → HaveFacts p → AreCounts p counts
    → AllZip IsNamed (added_patches counts first units) (new_facts p)

-- their segments take the units, in order
abbrev pub AddedTakeTheUnits : Type 0
AddedTakeTheUnits = (counts : Counts) (first : ℕ) (units : List (List Place)) → segments_of counts ≡ length units
    → flat_map (λ q. map (λ s. s.places) q.segments) (added_patches counts first units) ≡ units

-- where the old patches are named as those of memory, all are as those of memory after the plan
abbrev pub NextPatchesAreNamed : Type 0
NextPatchesAreNamed = (slots units : ℕ) (m : Memory) (p : Plan) (was : List Patch) (counts : Counts) (first : ℕ) (places : List (List Place))
    → ArePatches slots units was → AllZip IsNamed was (patches m.tables) → HaveFacts p → AreCounts p counts
    → AllZip IsNamed (by_tag was (added_patches counts first places)) (patches (after_plan m p).tables)

-- ---- sound segments

-- the record with these patches, next numbers and last flushed command
abbrev pub with_patches : BootRecord → List Patch → NextNumbers → ℕ → BootRecord
with_patches boot patches next flushed = record boot { patches = patches; next = next; flushed = flushed }

-- the segments of the next record and of memory after the plan are sound, on new units
abbrev pub NextSegmentsAreSound : Type 0
NextSegmentsAreSound = (boot : BootRecord) (m : Memory) (p : Plan) (counts : Counts) (first : ℕ) (units : List (List Place)) (next : NextNumbers) (flushed : ℕ)
    → IsBootRecord boot → AreSegmentsSound (shelf_of boot) boot (facts m.tables) → IsPlanFor m p
    → segments_of counts ≡ length units → AreNewUnits boot (facts m.tables) (units_of p ++ units)
    → boot.next.segment ≡ m.next.segment → boot.next.patch_segment ≤ first
    → next.segment ≡ m.next.segment + length p.segments.items → next.patch_segment ≡ first + length units
    → AreSegmentsSound (shelf_of boot) (with_patches boot (by_tag boot.patches (added_patches counts first units)) next flushed) (facts (after_plan m p).tables)
