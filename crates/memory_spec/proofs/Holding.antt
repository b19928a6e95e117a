-- Tables that say the same hold the same array.
use Rattle.memory_spec.proofs.Prelude.{nat_tests, arith, ◌≡◌, ℕ, ◌+◌, ◌-◌, List, [], sym, ◌∙◌, subst, slice_index_or, AllZip, View, Facts, Reads, below, unwritten, Entry, Array, objects, segment, Target, Stored, Zero, ObjectFact, TargetStands, EntryStands, BaseStands, all_facts, SayTheSame, zip_weaker, over_kept, over_before, same_objects, MergedPatchesHold}
use Rattle.array_spec.specs.Prelude.{here}

module _ (members : View) (old new : Facts) (same : SayTheSame old new) (same_segments : (id : ℕ) → segment new id ≡ segment old id) where
  -- a sector of a medium reads as the same target,
  reads_kept : (m x : ℕ) (t : Target) → Reads old m x t → Reads new m x t
  reads_kept m x t (here a) = here (same.addresses m x ∙ a)
  reads_kept m x t (below r a o inner) = below r (same.addresses m x ∙ a) (over_kept old new same.ranges m x r o) (reads_kept r.target.0 (r.target_start + (x - r.start)) t inner)
  reads_kept m x t (unwritten a none) = unwritten (same.addresses m x ∙ a) (λ r o. none r (over_before old new same.ranges m x r o))

  -- which stands for the same sector,
  target_kept : (t : Target) (sector : List ℕ) → TargetStands members old t sector → TargetStands members new t sector
  target_kept (Stored at) sector (d, is, stands) = (d, same_segments at.segment.0 ∙ is, stands)
  target_kept Zero sector is = is

  -- so an object is the same entry,
  entry_kept : (x : ObjectFact) (e : Entry) → EntryStands members old x e → EntryStands members new x e
  entry_kept x e s = record {
    name = s.name;
    snapshot = s.snapshot;
    size = s.size;
    sectors = λ place l.
        let r = s.sectors place l in
        (r.0, reads_kept x.medium.0 place r.0 r.1, target_kept r.0 (slice_index_or e.sectors place []) r.2);
  }

  -- and the objects are the same array
  base_kept : (next : ℕ) (base : Array) → BaseStands members old next base → BaseStands members new next base
  base_kept next base stands = grind (arith, nat_tests, same_objects, zip_weaker, entry_kept)

pub merged_patches_hold : MergedPatchesHold
merged_patches_hold shelf members boot next old new base tables stands shrunk object sound patches_stand = (
  record { patches_stand = patches_stand; sound = sound; data_stands = λ id d e. tables.data_stands id d (sym (shrunk.same_segments id) ∙ e) },
  subst (λ n. BaseStands members (all_facts new) n base) (sym object) (base_kept members (all_facts old) (all_facts new) shrunk.same shrunk.same_segments boot.next.object base stands),
)
