-- Patches stand alike in two views that show the same of their units.
use Rattle.takeover.proofs.Prelude.{nat_tests, ◌≡◌, ◌⊎◌, inl, inr, ℕ, zero, suc, ◌+◌, ◌*◌, ◌/◌, ◌≤◌, ◌<◌, List, [], ◌∷◌, map, refl, sym, ap, ◌∙◌, arith, Some, None, slice_index_or, option_map, AllByRecursion, AllZip, bytes_at, Geometry, Image, View, drive, AnyFact, Place, AscendFrom, IsSegment, IsPatch, IsRecordOf, Patch, PatchSegment, BootRecord, SectorStands, StripesStand, stripe_of, DiffersOnlyIn, PatchStands, PatchesStand, places_of_part, pages_in_part, patches_on, SameUnit, SameUnits, same_units_keep, bytes_same, in_unit, PatchIsShown}
use Rattle.session_spec.specs.Prelude.{Keeps}
use Rattle.segment_codec.specs.Prelude.{IsShownAt, shards_shown, write_unit}

module _ (old new : View) where
  sector_moves : (places : List Place) (index : ℕ) (sector : List ℕ) → Keeps old new places → SectorStands old places index sector → SectorStands new places index sector
  unfolding Keeps
  sector_moves places index sector keeps (shards, stands, is) = (shards, keeps (index / 56) shards stands, is)

  stripes_move : (places : List Place) (placed : ℕ) → Keeps old new places → StripesStand old places placed → StripesStand new places placed
  unfolding Keeps
  stripes_move places placed keeps s stripe below = let one = s stripe below in (one.0, keeps stripe one.0 one.1)

  part_keeps : (segments : List PatchSegment) (part : ℕ) → AllByRecursion (λ s. SameUnits old new s.places) segments → Keeps old new (slice_index_or (map (λ s. s.places) segments) part [])
  part_keeps [] part same = same_units_keep old new [] tt
  part_keeps (s ∷ ss) zero same = same_units_keep old new s.places same.0
  part_keeps (s ∷ ss) (suc part) same = part_keeps ss part same.1

  patch_moves : (p : Patch) (facts : List AnyFact) → AllByRecursion (λ s. SameUnits old new s.places) p.segments → PatchStands old p facts → PatchStands new p facts
  patch_moves p facts same s = record {
    count = s.count;
    each = λ k f e. let one = s.each k f e in (one.0, sector_moves (places_of_part p (k / 8 / 840)) _ one.0 (part_keeps p.segments (k / 8 / 840) same) one.1, one.2);
    table = s.table;
    ascending = s.ascending;
    stripes = λ part below. stripes_move (places_of_part p part) (pages_in_part p.facts part) (part_keeps p.segments part same) (s.stripes part below);
  }

  -- what one shows of them, whether stripes stand or not, the other shows
  shards_move : (places : List Place) (stripe : ℕ) → stripe < 15 → SameUnits old new places → shards_shown old places stripe ≡ shards_shown new places stripe
  unfolding SameUnit
  shards_move [] stripe below same = refl
  shards_move (p ∷ ps) stripe below same =
      let first : write_unit (stripe + 1) p old ≡ write_unit (stripe + 1) p new = same.0 (stripe + 1) (omega (arith, below)) in
      let others : shards_shown old ps stripe ≡ shards_shown new ps stripe = shards_move ps stripe below same.1 in
      λ i. first i ∷ others i

  shown_moves : (places : List Place) (index : ℕ) (sector : List ℕ) → index < 840 → SameUnits old new places → IsShownAt new places index sector → IsShownAt old places index sector
  shown_moves places index sector below same shown = grind (arith, nat_tests, slice_index_or, bytes_at, shards_move, stripe_of)

  part_same : (segments : List PatchSegment) (part : ℕ) → AllByRecursion (λ s. SameUnits old new s.places) segments → SameUnits old new (slice_index_or (map (λ s. s.places) segments) part [])
  part_same [] part same = tt
  part_same (s ∷ ss) zero same = same.0
  part_same (s ∷ ss) (suc part) same = part_same ss part same.1

  patch_shown : (p : Patch) (facts : List AnyFact) → AllByRecursion (λ s. SameUnits old new s.places) p.segments → PatchIsShown new p facts → PatchIsShown old p facts
  patch_shown p facts same shown k f e = grind (arith, nat_tests, shown_moves, places_of_part, part_same)

  -- of all patches, one by one
  each_moves : (R S : Patch → List AnyFact → Type 0) → ((p : Patch) (facts : List AnyFact) → AllByRecursion (λ s. SameUnits old new s.places) p.segments → R p facts → S p facts)
      → (ps : List Patch) (fs : List (List AnyFact)) → AllByRecursion (λ p. AllByRecursion (λ s. SameUnits old new s.places) p.segments) ps → AllZip R ps fs → AllZip S ps fs
  each_moves R S moves [] [] same s = tt
  each_moves R S moves [] (f ∷ fs) same s = s
  each_moves R S moves (p ∷ ps) [] same s = s
  each_moves R S moves (p ∷ ps) (f ∷ fs) same s = (moves p f same.0 s.0, each_moves R S moves ps fs same.1 s.1)

-- ---- where only boot units differ

-- in each view a drive shows nothing, or what the image of that view has
abbrev pub ShowAlike : Image → Image → View → View → Type 0
ShowAlike was now v w = (i : ℕ) → ((v (drive i) ≡ None) × (w (drive i) ≡ None)) ⊎ ((v (drive i) ≡ Some (was (drive i))) × (w (drive i) ≡ Some (now (drive i))))

module _ (was now : Image) (only : DiffersOnlyIn (λ drive unit. unit < 3) was now) (v w : View) (alike : ShowAlike was now v w) where
  same_unit : (p : Place) → 3 ≤ p.unit → SameUnit v w p
  unfolding SameUnit
  same_unit p high n below = elim (alike p.slot) [
    | inl none ↦ ap (option_map (bytes_at (65536 * p.unit + 4096 * n) 4096)) (none.0 ∙ sym none.1)
    | inr some ↦
        let same : bytes_at (65536 * p.unit + 4096 * n) 4096 (was (drive p.slot)) ≡ bytes_at (65536 * p.unit + 4096 * n) 4096 (now (drive p.slot)) =
        bytes_same (was (drive p.slot)) (now (drive p.slot)) (65536 * p.unit + 4096 * n) 4096 (sym (only.size p.slot)) (λ at low more. elim (only.drive p.slot at) [
          | inl is ↦ sym is
          | inr boot ↦ let e : at / 65536 ≡ p.unit = in_unit at p.unit n below low more in absurd (omega (arith, e, boot, high))
        ]) in
        ap (option_map (bytes_at (65536 * p.unit + 4096 * n) 4096)) some.0 ∙ ap (λ (b : List ℕ). Some b) same ∙ sym (ap (option_map (bytes_at (65536 * p.unit + 4096 * n) 4096)) some.1)
  ]

  places_same : (slots units least : ℕ) (ps : List Place) → AscendFrom slots units least ps → SameUnits v w ps
  places_same slots units least [] lawful = tt
  places_same slots units least (p ∷ ps) lawful = (same_unit p lawful.1.data_unit, places_same slots units (p.slot + 1) ps lawful.2)

  segments_same : (slots units : ℕ) (ss : List PatchSegment) → AllByRecursion (IsSegment slots units) ss → AllByRecursion (λ s. SameUnits v w s.places) ss
  segments_same slots units [] lawful = tt
  segments_same slots units (s ∷ ss) lawful = (places_same slots units 0 s.places lawful.0.places, segments_same slots units ss lawful.1)

  all_same : (slots units : ℕ) (ps : List Patch) → AllByRecursion (IsPatch slots units) ps → AllByRecursion (λ p. AllByRecursion (λ s. SameUnits v w s.places) p.segments) ps
  all_same slots units [] lawful = tt
  all_same slots units (p ∷ ps) lawful = (segments_same slots units p.segments lawful.0.segments, all_same slots units ps lawful.1)

  -- the patches of a lawful record stand in the one as they stand in the other
  pub patches_alike : (shelf : Geometry) (boot : BootRecord) (patches : List (List AnyFact)) → IsRecordOf shelf boot → PatchesStand v boot patches → PatchesStand w boot patches
  patches_alike shelf boot patches lawful stand =
      each_moves v w (PatchStands v) (PatchStands w) (λ p facts. patch_moves v w p facts) boot.patches patches (all_same shelf.slots shelf.units boot.patches (patches_on shelf boot lawful)) stand

  -- and what is shown of them in the other is shown in the one
  pub shown_alike : (shelf : Geometry) (boot : BootRecord) (patches : List (List AnyFact)) → IsRecordOf shelf boot → AllZip (PatchIsShown w) boot.patches patches → AllZip (PatchIsShown v) boot.patches patches
  shown_alike shelf boot patches lawful shown =
      each_moves v w (PatchIsShown w) (PatchIsShown v) (λ p facts. patch_shown v w p facts) boot.patches patches (all_same shelf.slots shelf.units boot.patches (patches_on shelf boot lawful)) shown
