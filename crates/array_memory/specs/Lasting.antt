-- What a plan's patches hold, so that they can be written.
use Rattle.std.specs.Prelude.{◌+◌, ◌≤◌, length, map}
use Rattle.pur_base.specs.declared.facts.AnyFact.TheVariants as any
use Rattle.memory_spec.specs.Prelude.{patch_facts, Memory}
use Rattle.table_plan.specs.Prelude.{ArePatchFacts}
use Rattle.array_memory.specs.declared.plan.Plan.{Plan}

-- the facts of each new patch may be written
pub record AreLawfulPatches (p : Plan) : Type 0 where
  pub objects : ArePatchFacts 1 (map any.Object (patch_facts p.objects))
  pub mediums : ArePatchFacts 2 (map any.Medium (patch_facts p.mediums))
  pub addresses : ArePatchFacts 3 (map any.Address (patch_facts p.addresses))
  pub segments : ArePatchFacts 4 (map any.Segment (patch_facts p.segment_facts))
  pub elisions : ArePatchFacts 5 (map any.Elision (patch_facts p.elisions))

-- no new patch has more facts than were unflushed, but for those of the new segments, and no sector is placed that isn't staged
pub record AreNoMore (m : Memory) (p : Plan) : Type 0 where
  pub objects : length (patch_facts p.objects) ≤ length m.tables.objects.unflushed
  pub mediums : length (patch_facts p.mediums) ≤ length m.tables.mediums.unflushed
  pub addresses : length (patch_facts p.addresses) ≤ length m.tables.addresses.unflushed
  pub segments : length (patch_facts p.segment_facts) ≤ length m.tables.segments.unflushed + length p.segments.items
  pub elisions : length (patch_facts p.elisions) ≤ length m.tables.elisions.unflushed
  pub placed : length p.placing.order.items ≤ length m.staged
