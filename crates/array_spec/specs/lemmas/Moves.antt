-- What tables hold depends on the write units of their segments alone.
use Rattle.std.proofs.lemmas.Bool.Decides.{nat_tests}
use Rattle.std.proofs.Common.{◌≡◌, ℕ, zero, suc, ◌+◌, ◌/◌, ◌<◌, List, [], ◌∷◌, map, refl, arith}
use Rattle.std.specs.Prelude.{Some, slice_index_or, is_some, count_by}
use Rattle.std.specs.List.{AllByRecursion, AllZip}
use Rattle.boot_codec.specs.Prelude.{View, Geometry, Entry, Array, Facts, segment, objects, AnyFact, ObjectFact, SegmentFact, Target, Stored, Zero, Place}
use Rattle.boot_codec.specs.declared.patch.Patch.{Patch}
use Rattle.boot_codec.specs.declared.patch.PatchSegment.{PatchSegment}
use Rattle.boot_codec.specs.declared.record.BootRecord.{BootRecord}
use Rattle.segment_codec.specs.Prelude.{write_unit, shards_shown, StripeStands, SectorStands, StripesStand}
use Rattle.array_spec.specs.Base.{TargetStands, EntryStands}
use Rattle.array_spec.specs.Meaning.{TablesStand, HoldsBase}
use Rattle.array_spec.specs.Stored.{PatchStands, places_of_part, pages_in_part, all_facts}

module _ (old new : View) where
  -- both views show the same of the unit's write units
  unfoldable pub SameUnit : Place → Type 0
  SameUnit p = (n : ℕ) → n < 16 → write_unit n p old ≡ write_unit n p new

  abbrev pub SameUnits : List Place → Type 0
  SameUnits places = AllByRecursion SameUnit places

  shards_move : (places : List Place) (stripe : ℕ) → stripe < 15 → SameUnits places → shards_shown old places stripe ≡ shards_shown new places stripe
  unfolding SameUnit
  shards_move [] stripe below same = refl
  shards_move (p ∷ ps) stripe below same =
      let first : write_unit (stripe + 1) p old ≡ write_unit (stripe + 1) p new = same.0 (stripe + 1) (omega (arith, below)) in
      let others : shards_shown old ps stripe ≡ shards_shown new ps stripe = shards_move ps stripe below same.1 in
      λ i. first i ∷ others i

  stripe_moves : (places : List Place) (stripe : ℕ) (shards : List (List ℕ)) → SameUnits places → StripeStands old places stripe shards → StripeStands new places stripe shards
  stripe_moves places stripe shards same s = grind (arith, nat_tests, shards_shown, shards_move, count_by, is_some)

  -- each stripe on these places that stands in the one view stands in the other
  unfoldable pub Keeps : List Place → Type 0
  Keeps places = (stripe : ℕ) (shards : List (List ℕ)) → StripeStands old places stripe shards → StripeStands new places stripe shards

  pub same_units_keep : (places : List Place) → SameUnits places → Keeps places
  unfolding Keeps
  same_units_keep places same stripe shards s = stripe_moves places stripe shards same s

  sector_moves : (places : List Place) (index : ℕ) (sector : List ℕ) → Keeps places → SectorStands old places index sector → SectorStands new places index sector
  unfolding Keeps
  sector_moves places index sector keeps (shards, stands, is) = (shards, keeps (index / 56) shards stands, is)

  stripes_move : (places : List Place) (placed : ℕ) → Keeps places → StripesStand old places placed → StripesStand new places placed
  unfolding Keeps
  stripes_move places placed keeps s stripe below = let one = s stripe below in (one.0, keeps stripe one.0 one.1)

  part_keeps : (segments : List PatchSegment) (part : ℕ) → AllByRecursion (λ s. Keeps s.places) segments → Keeps (slice_index_or (map (λ s. s.places) segments) part [])
  part_keeps [] part keeps = same_units_keep [] tt
  part_keeps (s ∷ ss) zero keeps = keeps.0
  part_keeps (s ∷ ss) (suc part) keeps = part_keeps ss part keeps.1

  patch_moves : (p : Patch) (facts : List AnyFact) → AllByRecursion (λ s. Keeps s.places) p.segments → PatchStands old p facts → PatchStands new p facts
  patch_moves p facts keeps s = record {
    count = s.count;
    each = λ k f e. let one = s.each k f e in (one.0, sector_moves (places_of_part p (k / 8 / 840)) _ one.0 (part_keeps p.segments (k / 8 / 840) keeps) one.1, one.2);
    table = s.table;
    ascending = s.ascending;
    stripes = λ part below. stripes_move (places_of_part p part) (pages_in_part p.facts part) (part_keeps p.segments part keeps) (s.stripes part below);
  }

  patches_move : (ps : List Patch) (fs : List (List AnyFact)) → AllByRecursion (λ p. AllByRecursion (λ s. Keeps s.places) p.segments) ps
      → AllZip (PatchStands old) ps fs → AllZip (PatchStands new) ps fs
  patches_move [] [] keeps s = tt
  patches_move [] (f ∷ fs) keeps s = s
  patches_move (p ∷ ps) [] keeps s = s
  patches_move (p ∷ ps) (f ∷ fs) keeps s = (patch_moves p f keeps.0 s.0, patches_move ps fs keeps.1 s.1)

  module _ (facts : Facts) (data_keeps : (id : ℕ) (d : SegmentFact) → segment facts id ≡ Some d → Keeps d.places) where
    target_moves : (target : Target) (sector : List ℕ) → TargetStands old facts target sector → TargetStands new facts target sector
    target_moves (Stored at) sector (d, is, stands) = (d, is, sector_moves d.places at.index sector (data_keeps at.segment.0 d is) stands)
    target_moves Zero sector stands = stands

    entry_moves : (x : ObjectFact) (e : Entry) → EntryStands old facts x e → EntryStands new facts x e
    entry_moves x e s = record {
      name = s.name;
      snapshot = s.snapshot;
      size = s.size;
      sectors = λ place below. let one = s.sectors place below in (one.0, one.1, target_moves one.0 (slice_index_or e.sectors place []) one.2);
    }

    pub base_moves : (xs : List ObjectFact) (es : List Entry) → AllZip (EntryStands old facts) xs es → AllZip (EntryStands new facts) xs es
    base_moves [] [] s = tt
    base_moves [] (e ∷ es) s = s
    base_moves (x ∷ xs) [] s = s
    base_moves (x ∷ xs) (e ∷ es) s = (entry_moves x e s.0, base_moves xs es s.1)

  pub tables_kept : (shelf : Geometry) (boot : BootRecord) (patches : List (List AnyFact)) → TablesStand shelf old boot patches
      → AllByRecursion (λ p. AllByRecursion (λ s. Keeps s.places) p.segments) boot.patches
      → ((id : ℕ) (d : SegmentFact) → segment (all_facts patches) id ≡ Some d → Keeps d.places)
      → TablesStand shelf new boot patches
  tables_kept shelf boot patches t patches_keep data_keeps = record {
    patches_stand = patches_move boot.patches patches patches_keep t.patches_stand;
    sound = t.sound;
    data_stands = λ id d is. stripes_move d.places d.placed (data_keeps id d is) (t.data_stands id d is);
  }

  pub holds_kept : (shelf : Geometry) (boot : BootRecord) (base : Array) (h : HoldsBase shelf old boot base)
      → AllByRecursion (λ p. AllByRecursion (λ s. Keeps s.places) p.segments) boot.patches
      → ((id : ℕ) (d : SegmentFact) → segment (all_facts h.patches) id ≡ Some d → Keeps d.places)
      → HoldsBase shelf new boot base
  holds_kept shelf boot base h patches_keep data_keeps = record {
    patches = h.patches;
    tables = tables_kept shelf boot h.patches h.tables patches_keep data_keeps;
    base_stands = base_moves (all_facts h.patches) data_keeps (objects (all_facts h.patches) boot.next.object) base h.base_stands;
  }

  segments_keep : (ss : List PatchSegment) → AllByRecursion (λ s. SameUnits s.places) ss → AllByRecursion (λ s. Keeps s.places) ss
  segments_keep [] same = tt
  segments_keep (s ∷ ss) same = (same_units_keep s.places same.0, segments_keep ss same.1)

  pub patches_keep : (ps : List Patch) → AllByRecursion (λ p. AllByRecursion (λ s. SameUnits s.places) p.segments) ps → AllByRecursion (λ p. AllByRecursion (λ s. Keeps s.places) p.segments) ps
  patches_keep [] same = tt
  patches_keep (p ∷ ps) same = (segments_keep p.segments same.0, patches_keep ps same.1)

  pub holds_moves : (shelf : Geometry) (boot : BootRecord) (base : Array) (h : HoldsBase shelf old boot base)
      → AllByRecursion (λ p. AllByRecursion (λ s. SameUnits s.places) p.segments) boot.patches
      → ((id : ℕ) (d : SegmentFact) → segment (all_facts h.patches) id ≡ Some d → SameUnits d.places)
      → HoldsBase shelf new boot base
  holds_moves shelf boot base h patches_same data_same =
      holds_kept shelf boot base h (patches_keep boot.patches patches_same) (λ id d is. same_units_keep d.places (data_same id d is))
