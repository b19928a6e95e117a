-- The facts of one patch after another are appended.
use Rattle.segment_writer.proofs.Prelude.{nat_tests, ◌≡◌, inl, inr, ℕ, ◌+◌, ◌<◌, ◌≤◌, Bool, true, List, [], length, sym, subst, ◌∙◌, ap, arith, Some, slice_get, slice_set, Vec, length-set, vec_capacity, Global, cases_eq, same_Some, Patch, Shelved, Ran, WritesOnly, ran_more, Open, is_in, LosesOnly, bytes_of, HoldsPatch, IsOnPatch, OnPatch, Plan, facts_of_tag, AreAllApart, HaveRoomFor, IsOpenListOf, IsOnPatches, OnPatches}
use Rattle.segment_writer.proofs.Appends.{still_open as still_open_one}
use Rattle.segment_writer.proofs.Gets.{get_set}
use Rattle.segment_writer.proofs.CheckpointApart.{patch_off, off_patch}

-- ---- one patch of them

-- two patches at one place are one
pub same_patch : (ps : List Patch) (i k : ℕ) (p q : Patch) → k ≡ i → slice_get ps i ≡ Some p → slice_get ps k ≡ Some q → p ≡ q
same_patch ps i k p q e at at_k = same_Some p q (sym at ∙ ap (slice_get ps) (sym e) ∙ at_k)

-- a run on one patch is a run on all of them
pub on_patches : {X : Type 0} {shelf : X → Shelved} {same_rest : X → X → Type 0} {a b : X} (ps : List Patch) (index : ℕ) (p : Patch) (n count : ℕ) → slice_get ps index ≡ Some p → Ran shelf same_rest (IsOnPatch p) (OnPatch p n count) a b
    → Ran shelf same_rest (IsOnPatches ps) (OnPatches ps n count) a b
on_patches ps index p n count at ran = ran_more (λ d on. (index, p, at, on)) (λ d i on. (index, p, at, on)) ran

-- ---- what stands

-- the first patches hold their facts
abbrev pub StandUpto : Shelved → Plan → List Patch → List Bool → ℕ → Type 0
StandUpto b plan ps lost upto = (i : ℕ) (p : Patch) → i < upto → slice_get ps i ≡ Some p → HoldsPatch (bytes_of b) p lost (facts_of_tag plan p.tag)

-- they do so after the next one is written
pub stand_more : (b c : Shelved) (plan : Plan) (ps : List Patch) (was now : List Bool) (index : ℕ) (p : Patch) → AreAllApart ps → slice_get ps index ≡ Some p → LosesOnly b c was now → WritesOnly (OnPatch p 1 15) b c
    → StandUpto b plan ps was index → HoldsPatch (bytes_of c) p now (facts_of_tag plan p.tag) → StandUpto c plan ps now (index + 1)
stand_more b c plan ps was now index p apart at loses writes before here k q lt at_k = elim (cases_eq k index) [
  | inl e ↦ subst (λ (r : Patch). HoldsPatch (bytes_of c) r now (facts_of_tag plan r.tag)) (same_patch ps index k p q e at at_k) here
  | inr ne ↦ patch_off (OnPatch p 1 15) b c was now loses writes q (facts_of_tag plan q.tag) (λ part within. off_patch q p 1 15 part (omega arith) (apart k index q p ne at_k at) within) (before k q (omega (arith, lt, ne)) at_k)
]

-- ---- open segments

-- the lists of the first patches hold their segments, and the others have room
pub record AreOpenUpto (ps : List Patch) (lost : List Bool) (lists : List (Vec Open Global)) (upto : ℕ) : Type 0 where
  pub count : length lists ≡ length ps
  pub opened : (i : ℕ) (p : Patch) (list : Vec Open Global) → i < upto → slice_get ps i ≡ Some p → slice_get lists i ≡ Some list → IsOpenListOf p lost list.items
  pub none : (i : ℕ) (p : Patch) (list : Vec Open Global) → upto ≤ i → slice_get ps i ≡ Some p → slice_get lists i ≡ Some list → list.items ≡ []
  pub room : (i : ℕ) (p : Patch) (list : Vec Open Global) → upto ≤ i → slice_get ps i ≡ Some p → slice_get lists i ≡ Some list → length p.segments ≤ vec_capacity list

pub open_none : (ps : List Patch) (lost : List Bool) (lists : List (Vec Open Global)) → HaveRoomFor ps lists → AreOpenUpto ps lost lists 0
open_none ps lost lists fresh = grind (arith, nat_tests)

-- while more drives are lost
pub still_open : (p : Patch) (was now : List Bool) (list : List Open) → ((slot : ℕ) → is_in was slot ≡ true → is_in now slot ≡ true) → IsOpenListOf p was list → IsOpenListOf p now list
still_open p was now list stays x = record { count = x.count; each = λ number segment at. still_open_one _ was now segment stays (x.each number segment at) }

pub open_more : (ps : List Patch) (was now : List Bool) (lists : List (Vec Open Global)) (index : ℕ) (p : Patch) (list : Vec Open Global) → slice_get ps index ≡ Some p → ((slot : ℕ) → is_in was slot ≡ true → is_in now slot ≡ true)
    → IsOpenListOf p now list.items → AreOpenUpto ps was lists index → AreOpenUpto ps now (slice_set lists index list) (index + 1)
open_more ps was now lists index p list at stays here before = record {
  count = length-set lists index list ∙ before.count;
  opened = λ k q l lt at_k got. grind (arith, nat_tests, get_set, same_patch, still_open);
  none = λ k q l from at_k got. grind (arith, nat_tests, get_set);
  room = λ k q l from at_k got. grind (arith, nat_tests, get_set);
}
