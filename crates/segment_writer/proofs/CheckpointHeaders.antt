-- The headers of one patch after another are written.
use Rattle.segment_writer.proofs.Prelude.{◌≡◌, inl, inr, ℕ, ◌+◌, ◌<◌, ◌≤◌, Bool, true, List, length, subst, ◌∙◌, arith, Some, slice_get, slice_set, Vec, length-set, Global, cases_eq, AnyFact, Patch, Shelved, WritesOnly, Open, is_in, LosesOnly, bytes_of, HoldAllHeaders, HoldsPatch, OnPatch, layout_of_patch, AreAllApart, IsOpenListOf, AreOpenLists}
use Rattle.segment_writer.proofs.Gets.{get_set}
use Rattle.segment_writer.proofs.CheckpointApart.{patch_off, headers_off, off_patch}
use Rattle.segment_writer.proofs.CheckpointAppended.{same_patch, still_open}

-- the lists of the patches that are left hold their open segments
pub record AreOpenFrom (ps : List Patch) (lost : List Bool) (lists : List (Vec Open Global)) (from : ℕ) : Type 0 where
  pub count : length lists ≡ length ps
  pub each : (i : ℕ) (p : Patch) (list : Vec Open Global) → from ≤ i → slice_get ps i ≡ Some p → slice_get lists i ≡ Some list → IsOpenListOf p lost list.items

pub open_all : (ps : List Patch) (lost : List Bool) (lists : List (Vec Open Global)) → AreOpenLists ps lost lists → AreOpenFrom ps lost lists 0
open_all ps lost lists opened = record { count = opened.count; each = λ i p list from at got. opened.each i p list at got }

pub open_fewer : (ps : List Patch) (was now : List Bool) (lists : List (Vec Open Global)) (index : ℕ) (list : Vec Open Global) → ((slot : ℕ) → is_in was slot ≡ true → is_in now slot ≡ true) → AreOpenFrom ps was lists index → AreOpenFrom ps now (slice_set lists index list) (index + 1)
open_fewer ps was now lists index list stays before = record {
  count = length-set lists index list ∙ before.count;
  each = λ k q l from at_k got. elim (get_set lists index k list l got) [
    | inl (e, same) ↦ absurd (omega (arith, from, e))
    | inr (ne, old) ↦ still_open q was now l.items stays (before.each k q l (omega (arith, from)) at_k old)
  ];
}

-- the first patches have their headers
abbrev pub HeadersUpto : Shelved → List Patch → List Bool → ℕ → ℕ → Type 0
HeadersUpto b ps lost generation upto = (i : ℕ) (p : Patch) → i < upto → slice_get ps i ≡ Some p → HoldAllHeaders (bytes_of b) (layout_of_patch p generation) lost

-- facts stay from one moment to another
abbrev pub AreKept : Shelved → Shelved → List Patch → List Bool → List Bool → Type 0
AreKept a b ps was now = (i : ℕ) (p : Patch) (facts : List AnyFact) → slice_get ps i ≡ Some p → HoldsPatch (bytes_of a) p was facts → HoldsPatch (bytes_of b) p now facts

module _ (b c : Shelved) (ps : List Patch) (was now : List Bool) (index : ℕ) (p : Patch) (apart : AreAllApart ps) (at : slice_get ps index ≡ Some p) (loses : LosesOnly b c was now) (writes : WritesOnly (OnPatch p 0 1) b c) where
  pub headers_more : (generation : ℕ) → HeadersUpto b ps was generation index → HoldAllHeaders (bytes_of c) (layout_of_patch p generation) now → HeadersUpto c ps now generation (index + 1)
  headers_more generation before here k q lt at_k = elim (cases_eq k index) [
    | inl e ↦ subst (λ (r : Patch). HoldAllHeaders (bytes_of c) (layout_of_patch r generation) now) (same_patch ps index k p q e at at_k) here
    | inr ne ↦ headers_off (OnPatch p 0 1) b c was now loses writes (layout_of_patch q generation) (λ part within. off_patch q p 0 1 part (omega arith) (apart k index q p ne at_k at) within) (before k q (omega (arith, lt, ne)) at_k)
  ]

  pub kept_more : ((facts : List AnyFact) → HoldsPatch (bytes_of b) p was facts → HoldsPatch (bytes_of c) p now facts) → AreKept b c ps was now
  kept_more own k q facts at_k holds = elim (cases_eq k index) [
    | inl e ↦ subst (λ (r : Patch). HoldsPatch (bytes_of b) r was facts → HoldsPatch (bytes_of c) r now facts) (same_patch ps index k p q e at at_k) (own facts) holds
    | inr ne ↦ patch_off (OnPatch p 0 1) b c was now loses writes q facts (λ part within. off_patch q p 0 1 part (omega arith) (apart k index q p ne at_k at) within) holds
  ]
