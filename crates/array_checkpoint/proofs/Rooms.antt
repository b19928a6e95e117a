-- The segments of patches are counted, and the units that patches leave free.
use Rattle.array_checkpoint.proofs.Prelude.{◌≡◌, ◌∙◌, ℕ, ◌+◌, ◌<◌, Bool, List, [], ◌++◌, length, drop, map, ap, get_or, All, list_any, sum_by-drop_more, SegmentFact, BootRecord, IsFree, is_place, named_segments, Patch, patch_segments, all_facts, Tables, facts, patches, patches_show}
use Rattle.pur_base.specs.declared.request.Table.TheVariants as table

-- one patch more
pub next_patch : (ps : List Patch) (n : ℕ) (d : Patch) → n < length ps → patch_segments (drop n ps) ≡ length (get_or ps n d).segments + patch_segments (drop (n + 1) ps)
next_patch ps n d lt = sum_by-drop_more (λ (p : Patch). length p.segments) ps n d lt

-- where patches show the segments that there are, they leave the same units free
pub same_free : (boot : BootRecord) (t : Tables) → t.segments.unflushed ≡ [] → All (λ e. e.table ≡ table.Object) t.elisions.unflushed → (slot unit : ℕ) → IsFree boot (facts t) slot unit → IsFree boot (all_facts (patches t)) slot unit
same_free boot t no_segments only_objects slot unit free =
    record { data_unit = free.data_unit; there = free.there; unused = ap (λ (ds : List SegmentFact). used_by ds) (patches_show t boot.next.segment no_segments only_objects) ∙ free.unused }
  where
    used_by : List SegmentFact → Bool
    used_by ds = list_any (list_any (is_place slot unit)) (map (λ s. s.places) (named_segments boot) ++ map (λ d. d.places) ds)
