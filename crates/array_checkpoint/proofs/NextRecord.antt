-- The record with the tables of a prepared checkpoint is one of memory after its plan.
use Rattle.array_checkpoint.proofs.Prelude.{◌≡◌, ◌+◌, ◌<◌, ◌++◌, ◌∙◌, List, length, sym, ap, subst, arith, AllZip, Geometry, NUMBER_LIMIT, Patch, BootRecord, NextNumbers, AreSegmentsSound, Memory, facts, patches, IsRecordOfMemory, IsNamed, shelf_of, with_tables, eliding_by, after_plan, units_of, with_patches, added_patches, by_tag, Array, IsArrayOf, Prepared, IsPreparedFor}
use Rattle.record_tables.proofs.Named.{next_patches_are_named}
use Rattle.record_tables.proofs.Sound.{next_segments_are_sound}
use Rattle.array_checkpoint.proofs.ElidedSegments.{new_then, sound_then}
use Rattle.array_checkpoint.proofs.PreparedLemmas.{same_shelf}

module _ (shelf : Geometry) (x : Array) (q : Prepared) (of : IsArrayOf shelf x) (h : IsPreparedFor x q) where
  abbrev boot : BootRecord
  boot = x.register.record

  abbrev m : Memory
  m = x.memory.memory

  -- ids are left for the segments of its new patches
  new_ids : q.plan.next.patch_segment ≡ m.next.patch_segment + length h.units
  new_ids = ap (λ (n : NextNumbers). n.patch_segment) h.next_is

  pub ids_left : m.next.patch_segment + length h.units < NUMBER_LIMIT
  ids_left = let low = h.plan.plan.patch_segments.1 in omega (arith, low, new_ids)

  -- the old patches and the new ones
  pub tables_are : q.tables.patches ≡ by_tag boot.patches (added_patches h.counts m.next.patch_segment h.units)
  tables_are = h.patches ∙ ap (λ ps. by_tag boot.patches ps) h.added

  named : AllZip IsNamed q.tables.patches (patches (after_plan m q.plan).tables)
  named = subst (λ (ps : List Patch). AllZip IsNamed ps (patches (after_plan m q.plan).tables)) (sym tables_are)
      (next_patches_are_named boot.slots boot.units m q.plan boot.patches h.counts m.next.patch_segment h.units of.of_shelf.lawful.lawful.patches of.named h.some h.counted)

  sound : AreSegmentsSound shelf (with_tables boot q.tables) (facts (after_plan m q.plan).tables)
  sound =
      let is : AreSegmentsSound (shelf_of boot) (with_patches boot (by_tag boot.patches (added_patches h.counts m.next.patch_segment h.units)) q.tables.next q.tables.flushed) (facts (after_plan m q.plan).tables) =
      next_segments_are_sound boot (eliding_by m q.plan.eliding) q.plan h.counts m.next.patch_segment h.units q.tables.next q.tables.flushed of.of_shelf.lawful.lawful
      (sound_then m q.plan.eliding h.plan.keeps (shelf_of boot) boot (subst (λ (g : Geometry). AreSegmentsSound g boot (facts m.tables)) (sym (same_shelf shelf x of)) of.segments))
      h.plan.plan h.wanted (new_then m q.plan.eliding h.plan.keeps boot (units_of q.plan ++ h.units) h.free)
      (sym of.segment_ids) (let e = of.patch_ids in omega (arith, e))
      (ap (λ (n : NextNumbers). n.segment) (h.next ∙ h.next_is)) (ap (λ (n : NextNumbers). n.patch_segment) (h.next ∙ h.next_is)) in
      subst (λ (g : Geometry). AreSegmentsSound g (with_tables boot q.tables) (facts (after_plan m q.plan).tables)) (same_shelf shelf x of)
      (subst (λ (ps : List Patch). AreSegmentsSound (shelf_of boot) (with_patches boot ps q.tables.next q.tables.flushed) (facts (after_plan m q.plan).tables)) (sym tables_are) is)

  pub record_of_memory : IsRecordOfMemory shelf (with_tables boot q.tables) (after_plan m q.plan)
  record_of_memory = record { next = h.next; patches = named; segments = sound }
