-- Once a prepared checkpoint was written its tables hold the array, on the drives that aren't lost.
use Rattle.array_checkpoint.proofs.Prelude.{◌≡◌, inl, ℕ, ◌≤◌, ◌∙◌, List, arith, refl, sym, subst, Bool, Some, slice_get, AllZip, same_segment, Geometry, View, Facts, segment, AnyFact, SegmentFact, IsPatch, Patch, StripesStand, TablesStand, PatchesStand, PatchStands, all_facts, AreEnough, places_of_part, Runs, Contents, Shelved, IsShelf, geometry_of, facts, patches, IsRecordOfMemory, AreAmong, ContentsStand, WrittenOn, patches_are_all, patch_facts, contains_at, IsDrive, Content, array_of, with_tables, checkpoint_data_holds, extended, sectors_at, eliding_by, after_plan, units_of, new_facts, added_patches, all_weaker, bytes_of, DataStands, FactsStand, ShowsMostOf, places_in, Array, SegmentsHold, WritesFree, IsArrayOf, IsReady, HoldOnLeft, HoldTables, OnUnused, Prepared, IsPreparedFor, contents_after, facts_after, held_after}
use Rattle.memory_spec.specs.Checkpoint.{IsCheckpointed}
use Rattle.table_plan.proofs.Planned.{elided_is_checkpointed}
use Rattle.array_memory.proofs.PlanLemmas.{planned}
use Rattle.array_checkpoint.proofs.ElidedSegments.{segment_before, contents_then as elided_contents}
use Rattle.array_checkpoint.proofs.Holds.{contents_hold, patches_hold, stripes_hold}
use Rattle.array_checkpoint.proofs.Left.{AreLeft, old_tables, own_size, shown, still_held}
use Rattle.array_checkpoint.proofs.NewUnits.{data_taken, patch_taken}
use Rattle.array_checkpoint.proofs.NextRecord.{record_of_memory, tables_are}
use Rattle.array_checkpoint.proofs.Units.{may_be_placed, new_segment}
use Rattle.register.proofs.Rounds.{same_shelf}

-- the plan is a checkpoint of memory
pub checkpointed : (x : Array) (q : Prepared) → IsPreparedFor x q → (shelf : Shelved) (held : Content) (ready : IsReady shelf x held) → IsCheckpointed ready.contents (contents_after x.memory.memory q.plan ready.contents) x.memory.memory (after_plan x.memory.memory q.plan)
checkpointed x q h shelf held ready =
    let m = x.memory.memory in
    let p = q.plan in
    subst (λ (order : List ℕ). IsCheckpointed ready.contents (extended ready.contents m.next.segment (sectors_at order m.staged)) m (after_plan m p)) (sym h.plan.plan.placing.order)
    (elided_is_checkpointed ready.contents m (after_plan m p) p.eliding.facts.items p.placing.flags.items (patch_facts p.placing.newest) (units_of p) (array_of held) ready.reads h.plan.plan.stored h.plan.keeps
    (planned (eliding_by m p.eliding) p h.plan.plan)).0

-- all facts of memory are in its patches then
all_flushed_then : (x : Array) (q : Prepared) → all_facts (patches (after_plan x.memory.memory q.plan).tables) ≡ facts (after_plan x.memory.memory q.plan).tables
all_flushed_then x q = patches_are_all (after_plan x.memory.memory q.plan) (record { staged = refl; objects = refl; mediums = refl; addresses = refl; segments = refl; elisions = refl })

module _ (a b : Shelved) (is : IsShelf a) (is_b : IsShelf b) (honest : a.honest) (x : Array) (q : Prepared) (of : IsArrayOf (geometry_of a) x) (h : IsPreparedFor x q) (run : Runs IsDrive (OnUnused x) a b) (lost : List Bool)
    (sectors : (view : View) → ShowsMostOf (bytes_of b) q.plan.segments.items lost view → DataStands view q.plan.segments.items x.memory.memory.staged q.plan.placing.order.items)
    (facts_stand : FactsStand (bytes_of b) q.added lost (new_facts q.plan)) where
  module _ (left : List Bool) (fewer : AreLeft x.register lost left) (members : View) (among : AreAmong left (bytes_of b) members) (enough : AreEnough (geometry_of b) members) where
    -- the sectors that were placed stand, and those of before stand still
    data_stand : DataStands members q.plan.segments.items x.memory.memory.staged q.plan.placing.order.items
    data_stand = sectors members (λ number less. shown a b x of run lost left fewer members among enough (places_in q.plan.segments.items number) (data_taken x q h number less))

    both_stand : (contents : Contents) → SegmentsHold contents a x.register (facts x.memory.memory.tables) → ContentsStand (contents_after x.memory.memory q.plan contents) members (facts_after x.memory.memory q.plan)
    both_stand contents hold =
        let elided = eliding_by x.memory.memory q.plan.eliding in
        contents_hold contents elided q.plan h.plan.plan members (new_segment elided q.plan h.plan.plan)
        (may_be_placed a x.register.record (facts x.memory.memory.tables) elided q.plan h.units (own_size a x of) h.plan.plan h.free).filled
        (elided_contents x.memory.memory q.plan.eliding h.plan.keeps contents members (still_held a b x of run lost left fewer members among enough honest contents hold)) data_stand

    -- so do the new patches
    new_patch : (i : ℕ) (p : Patch) (fs : List AnyFact) → slice_get (added_patches h.counts x.memory.memory.next.patch_segment h.units) i ≡ Some p → slice_get (new_facts q.plan) i ≡ Some fs → PatchStands members p fs
    new_patch i p fs at to =
        let in_added : slice_get q.added i ≡ Some p = subst (λ (ps : List Patch). slice_get ps i ≡ Some p) (sym h.added) at in
        facts_stand i p fs in_added to members
        (λ part less. shown a b x of run lost left fewer members among enough (places_of_part p part) (patch_taken x q h p (contains_at q.added i p in_added) part less))

    module _ (held : Content) (ready : IsReady a x held) (free : WritesFree x.register held a b) where
      old : TablesStand (geometry_of b) members x.register.record (patches x.memory.memory.tables)
      old = (old_tables a b x of run lost left fewer members among enough is is_b honest held ready free).0

      patches_then : PatchesStand members (with_tables x.register.record q.tables) (patches (after_plan x.memory.memory q.plan).tables)
      patches_then =
          let was = x.register.record.patches in
          subst (λ (ps : List Patch). AllZip (PatchStands members) ps (patches (after_plan x.memory.memory q.plan).tables)) (sym (tables_are (geometry_of a) x q of h))
          (patches_hold ready.contents (eliding_by x.memory.memory q.plan.eliding) q.plan h.plan.plan members was h.counts x.memory.memory.next.patch_segment h.units
          (all_weaker (IsPatch x.register.record.slots x.register.record.units) (λ p. 1 ≤ p.facts) (λ p l. l.facts.0) was of.of_shelf.lawful.lawful.patches.each) of.named h.some h.counted old.patches_stand new_patch)

      stripes_then : (id : ℕ) (d : SegmentFact) → segment (facts (after_plan x.memory.memory q.plan).tables) id ≡ Some d → StripesStand members d.places d.placed
      stripes_then = stripes_hold ready.contents (eliding_by x.memory.memory q.plan.eliding) q.plan h.plan.plan members (new_segment (eliding_by x.memory.memory q.plan.eliding) q.plan h.plan.plan)
          (λ id d there. old.data_stands id d (same_segment x.memory.memory.tables of.room.no_segments of.room.only_objects id ∙ segment_before x.memory.memory q.plan.eliding h.plan.keeps id d there)) data_stand

  pub contents_left : (contents : Contents) → SegmentsHold contents a x.register (facts x.memory.memory.tables) → HoldOnLeft b x.register lost (contents_after x.memory.memory q.plan contents) (facts_after x.memory.memory q.plan)
  contents_left contents hold left fewer members among enough = both_stand left fewer members among enough contents hold

  -- so the next tables hold the array, with nothing in the log
  module _ (held : Content) (ready : IsReady a x held) (free : WritesFree x.register held a b) where
    written_on : (left : List Bool) → AreLeft x.register lost left
        → WrittenOn (AreAmong left (bytes_of b)) (geometry_of b) (with_tables x.register.record q.tables) (patches (after_plan x.memory.memory q.plan).tables) (contents_after x.memory.memory q.plan ready.contents)
    written_on left fewer members among enough =
        let all = sym (all_flushed_then x q) in (
          patches_then left fewer members among enough held ready free,
          subst (λ (f : Facts). (id : ℕ) (d : SegmentFact) → segment f id ≡ Some d → StripesStand members d.places d.placed) all (stripes_then left fewer members among enough held ready free),
          subst (λ (f : Facts). ContentsStand (contents_after x.memory.memory q.plan ready.contents) members f) all (both_stand left fewer members among enough ready.contents ready.hold),
        )

    pub holds_next : HoldTables b x.register lost q.tables held (held_after x.memory.memory q.plan held)
    holds_next = record {
      stand = λ left fewer. checkpoint_data_holds (geometry_of b) left (bytes_of b) (with_tables x.register.record q.tables) ready.contents (contents_after x.memory.memory q.plan ready.contents)
          x.memory.memory (after_plan x.memory.memory q.plan) (array_of held) ready.reads (checkpointed x q h a held ready)
          (subst (λ (g : Geometry). IsRecordOfMemory g (with_tables x.register.record q.tables) (after_plan x.memory.memory q.plan)) (same_shelf run.continues) (record_of_memory (geometry_of a) x q of h)) (written_on left fewer);
      keeps = inl (record { flushed = omega (arith, h.flushed, ready.keeps.count); log = refl; base = refl });
    }
