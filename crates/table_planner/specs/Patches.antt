-- The new patches of a checkpoint.
use Rattle.std.specs.Prelude.{◌≡◌, List, ◌++◌}
use Rattle.memory_spec.specs.Prelude.{object_key, medium_key, segment_key, elision_key, SegmentFact, ElisionFact, IsFlushed, patch_facts, Memory}
use Rattle.array_memory.specs.declared.plan.Placing.{Placing}
use Rattle.array_memory.specs.Prelude.{placed_addresses}
use Rattle.table_planner.specs.declared.planning.NewPatches.{NewPatches}

-- of each table what a checkpoint flushes: beside what is unflushed these new elisions and segments, and the addresses as they are placed
pub record AreNewPatches (m : Memory) (placing : Placing) (new_elisions : List ElisionFact) (new_segments : List SegmentFact) (p : NewPatches) : Type 0 where
  pub objects : IsFlushed object_key (λ f. f.seq.0) m.tables.objects.unflushed (patch_facts p.objects)
  pub mediums : IsFlushed medium_key (λ f. f.seq.0) m.tables.mediums.unflushed (patch_facts p.mediums)
  pub addresses : patch_facts p.addresses ≡ placed_addresses m placing
  pub segments : IsFlushed segment_key (λ f. f.seq.0) (m.tables.segments.unflushed ++ new_segments) (patch_facts p.segments)
  pub elisions : IsFlushed elision_key (λ f. f.seq.0) (m.tables.elisions.unflushed ++ new_elisions) (patch_facts p.elisions)
