-- Patches that are written whole, and a checkpoint.
use Rattle.segment_writer.proofs.Prelude.{arith, Some, slice_get, ◌≡◌, inl, inr, ℕ, Bool, List, sym, subst, nat_tests, View, AnyFact, SegmentFact, Patch, Shelved, Stop, LeavesOnly, WritesOnly, Ran, IsPreorder, ran_then, ran_more, LosesOnly, bytes_of, not_before, MayBeStored, HoldsPatch, MayBeHeaded, MayBePlaced, HoldsData, IsOnData, OnData, ShowsMostOf as ShowsMostOfData, layout_of_data, StaysClean, HoldAllHeaders, DataStands, Plan, new_facts, facts_of_tag, MayBeStoredWith, LieApartOf, HoldPatches, IsOnPatches, OnPatches, IsOnCheckpoint, OnCheckpoint, FactsStand}
use Rattle.segment_writer.proofs.PatchShown.{patch_shown}
use Rattle.segment_writer.proofs.DataShown.{data_shown}
use Rattle.segment_writer.proofs.Gets.{zip_both}
use Rattle.segment_writer.proofs.CheckpointTags.{facts_by_tag}
use Rattle.segment_writer.proofs.CheckpointApart.{data_off, headers_off, off_patches}

-- ---- data, and then patches

-- the sectors stand after the patches are written
pub data_stands : (a b e : Shelved) (plan : Plan) (ps : List Patch) (was now : List Bool) (staged : List (List ℕ)) (view : View)
    → MayBePlaced a plan.segments.items staged plan.placing.order.items → MayBeStoredWith a plan ps → LosesOnly b e was now → WritesOnly (OnPatches ps 0 16) b e
    → HoldsData (bytes_of b) plan.segments.items was staged plan.placing.order.items → ShowsMostOfData (bytes_of e) plan.segments.items now view → DataStands view plan.segments.items staged plan.placing.order.items
data_stands a b e plan ps was now staged view placed stored loses writes holds shows =
    let segments = plan.segments.items in
    let order = plan.placing.order.items in
    data_shown (bytes_of e) segments now staged order view (λ number within. (placed.places number within).nine) placed.filled
    (data_off (OnPatches ps 0 16) b e was now loses writes segments staged order (λ number within. off_patches segments ps number stored.apart_of_data within) holds) shows

-- and so do their headers
pub data_headers_stand : (b e : Shelved) (segments : List SegmentFact) (ps : List Patch) (was now : List Bool) (generation : ℕ) → ((i : ℕ) (p : Patch) → slice_get ps i ≡ Some p → LieApartOf segments p) → LosesOnly b e was now → WritesOnly (OnPatches ps 0 16) b e
    → HoldAllHeaders (bytes_of b) (layout_of_data segments generation) was → HoldAllHeaders (bytes_of e) (layout_of_data segments generation) now
data_headers_stand b e segments ps was now generation apart loses writes holds =
    headers_off (OnPatches ps 0 16) b e was now loses writes (layout_of_data segments generation) (λ number within. off_patches segments ps number apart within) holds

-- the facts of each patch stand
pub facts_stand : (a e : Shelved) (plan : Plan) (ps : List Patch) (lost : List Bool) → MayBeStoredWith a plan ps → HoldPatches (bytes_of e) plan ps lost → FactsStand (bytes_of e) ps lost (new_facts plan)
facts_stand a e plan ps lost stored holds i p facts at there view shows =
    let may = zip_both (λ q all. MayBeStored a q all × MayBeHeaded a q) ps (new_facts plan) i p facts stored.each at there in
    let same : facts ≡ facts_of_tag plan p.tag = facts_by_tag a plan p facts may.0 i there in
    patch_shown (bytes_of e) a.drives a.units p lost facts view may.0.lawful may.0.count (subst (λ (l : List AnyFact). HoldsPatch (bytes_of e) p lost l) (sym same) (holds i p at)) shows may.0.in_order

-- what was clean is clean again
pub clean_then : (a b e : Shelved) (was now : List Bool) → LosesOnly b e was now → StaysClean was a b → StaysClean now b e → StaysClean now a e
clean_then a b e was now loses first second slot none before = second slot none (first slot (not_before b e was now slot loses none) before)

-- a run on the data, and one on the patches
pub on_checkpoint : {X : Type 0} {shelf : X → Shelved} {same_rest : X → X → Type 0} {a b e : X} (segments : List SegmentFact) (ps : List Patch) → IsPreorder same_rest → Ran shelf same_rest (IsOnData segments) (OnData segments 0 16) a b
    → Ran shelf same_rest (IsOnPatches ps) (OnPatches ps 0 16) b e → Ran shelf same_rest (IsOnCheckpoint segments ps) (OnCheckpoint segments ps) a e
on_checkpoint segments ps stays first second = ran_then stays (ran_more (λ d on. inl on) (λ d i on. inl on) first) (ran_more (λ d on. inr on) (λ d i on. inr on) second)

-- what is left at each moment of a run is both
pub both_leave : {a b : Shelved} {P Q R : Stop → Type 0} → ((stop : Stop) → P stop → Q stop → R stop) → LeavesOnly a b P → LeavesOnly a b Q → LeavesOnly a b R
both_leave to first second = grind (arith, nat_tests)
