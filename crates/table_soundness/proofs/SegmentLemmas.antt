-- Segments are sound where the lists of them say so.
use Rattle.table_soundness.proofs.Prelude.{nat_tests, ◌≡◌, ◌≢◌, ℕ, ◌<◌, ◌≤◌, ◌^◌, ◌∙◌, List, [], ◌∷◌, ◌++◌, length, map, refl, sym, ap, ap₂, subst, arith, All, AllPairs, Some, AllByRecursion, flat_map, map-append, All-nil, All-append, All-map, All-weaker, All-contains, All-from_recursion, recursion_from_All, Geometry, Facts, segment_key, never, key_of, says, is_elided, segments, SEGMENT_SHARDS, Place, SegmentFact, AscendFrom, IsBootRecord, IsPatch, IsSegment, Patch, PatchSegment, BootRecord, AreApart, named_segments, IsShown, all_contained, said_found, AreSegmentsRight, AreSegmentsListed, code_of}
use Rattle.std.proofs.lemmas.List.Concat.{flat_map-append}
use Rattle.pur_base.specs.declared.request.Table.TheVariants as table
use Rattle.segment_table.specs.Segments.{number}
use Rattle.segment_table.proofs.SegmentLemmas.{by_ids}
use Rattle.table_soundness.proofs.UnitLemmas.{IsStrictFrom, flat, strict_of_ascend, apart_codes, codes_apart}

flat_of_map : {X : Type 0} (f : X → List Place) (xs : List X) → flat_map (λ (ps : List Place). ps) (map f xs) ≡ flat_map f xs
flat_of_map f [] = refl
flat_of_map f (x ∷ xs) = ap (λ l. f x ++ l) (flat_of_map f xs)

-- the places of segments of patches and of data
abbrev used : List PatchSegment → List SegmentFact → List (List Place)
used ss ds = map (λ s. s.places) ss ++ map (λ d. d.places) ds

same_codes : (ss : List PatchSegment) (ds : List SegmentFact) → map code_of (flat (used ss ds)) ≡ map code_of (flat_map (λ s. s.places) ss) ++ map code_of (flat_map (λ d. d.places) ds)
same_codes ss ds = grind (arith, nat_tests, flat_map-append, map, ap₂, flat_of_map, map-append)

named_ascend : (slots units : ℕ) (ps : List Patch) → AllByRecursion (IsPatch slots units) ps → All (λ s. AscendFrom slots units 0 s.places) (flat_map (λ p. p.segments) ps)
named_ascend slots units [] h = All-nil (λ s. AscendFrom slots units 0 s.places)
named_ascend slots units (p ∷ ps) h =
    All-append (λ s. AscendFrom slots units 0 s.places) p.segments (flat_map (λ q. q.segments) ps)
    (All-weaker (IsSegment slots units) (λ s. AscendFrom slots units 0 s.places) (λ s a. a.places) p.segments (All-from_recursion (IsSegment slots units) p.segments h.0.segments))
    (named_ascend slots units ps h.1)

module _ (shelf : Geometry) (boot : BootRecord) (facts : Facts) (shown : List SegmentFact) (small : shelf.units ≤ 65536) (lawful : IsBootRecord boot)
    (nine : All (λ f. length f.places ≡ SEGMENT_SHARDS) facts.segments) (visible : IsShown segment_key number never facts.segments (is_elided facts.elisions table.Segment) shown) where
  next_small : boot.next.segment ≤ 2 ^ 64
  next_small = let n = lawful.next.segment in omega (arith, n.1)

  listed : All (λ f. f.segment.0 < boot.next.segment) facts.segments → shown ≡ segments facts boot.next.segment
  listed below = by_ids facts.segments (is_elided facts.elisions table.Segment) boot.next.segment shown next_small below visible

  strict : All (λ d. AscendFrom shelf.slots shelf.units 0 d.places) shown → All (IsStrictFrom 0) (used (named_segments boot) shown)
  strict placed =
      let least : boot.units ≤ 65536 = let u = lawful.units in omega (arith, u.1) in
      All-append (IsStrictFrom 0) (map (λ s. s.places) (named_segments boot)) (map (λ d. d.places) shown)
      (All-map (IsStrictFrom 0) (λ s. s.places) (named_segments boot)
      (All-weaker (λ s. AscendFrom boot.slots boot.units 0 s.places) (λ s. IsStrictFrom 0 s.places) (λ s a. strict_of_ascend boot.slots boot.units 0 s.places least a) (named_segments boot) (named_ascend boot.slots boot.units boot.patches lawful.patches.each)))
      (All-map (IsStrictFrom 0) (λ d. d.places) shown
      (All-weaker (λ d. AscendFrom shelf.slots shelf.units 0 d.places) (λ d. IsStrictFrom 0 d.places) (λ d a. strict_of_ascend shelf.slots shelf.units 0 d.places small a) shown placed))

  pub segments_from_list : AreSegmentsListed shelf boot facts.segments shown → AreSegmentsRight shelf boot facts
  segments_from_list h = record {
    ids = recursion_from_All (λ f. f.segment.0 < boot.next.segment) facts.segments h.ids;
    sound = record {
      places = λ id d s.
          let found = said_found segment_key number never facts.segments (is_elided facts.elisions table.Segment) (key_of id 0) d s in
          let low = All-contains (λ f. f.segment.0 < boot.next.segment) facts.segments d h.ids found.0 in
          let is : says segment_key number never facts.segments (is_elided facts.elisions table.Segment) (segment_key d) ≡ Some d =
          ap (λ k. says segment_key number never facts.segments (is_elided facts.elisions table.Segment) k) found.1 ∙ s in
          let bound = next_small in
          let there = visible.all d (omega (arith, low, bound)) is in
          record {
            nine = All-contains (λ f. length f.places ≡ SEGMENT_SHARDS) facts.segments d nine found.0;
            ascending = All-contains (λ e. AscendFrom shelf.slots shelf.units 0 e.places) shown d h.placed there;
          };
      patch_ids = recursion_from_All (λ s. s.id < boot.next.patch_segment) (named_segments boot) h.patch_ids;
      distinct = h.distinct;
      apart = subst (λ ds. AllPairs AreApart (used (named_segments boot) ds)) (listed h.ids)
          (codes_apart (used (named_segments boot) shown) (subst (λ ms. AllPairs (λ m n. m ≢ n) ms) (sym (same_codes (named_segments boot) shown)) h.apart));
    };
  }

  pub segments_to_list : AreSegmentsRight shelf boot facts → AreSegmentsListed shelf boot facts.segments shown
  segments_to_list h =
      let below = All-from_recursion (λ f. f.segment.0 < boot.next.segment) facts.segments h.ids in
      let placed : All (λ d. AscendFrom shelf.slots shelf.units 0 d.places) shown =
      all_contained (λ d. AscendFrom shelf.slots shelf.units 0 d.places) shown (λ d c. (h.sound.places d.segment.0 d (visible.said d c)).ascending) in
      record {
        ids = below;
        patch_ids = All-from_recursion (λ s. s.id < boot.next.patch_segment) (named_segments boot) h.sound.patch_ids;
        distinct = h.sound.distinct;
        placed = placed;
        apart = subst (λ ms. AllPairs (λ m n. m ≢ n) ms) (same_codes (named_segments boot) shown)
            (apart_codes (used (named_segments boot) shown) (strict placed) (subst (λ ds. AllPairs AreApart (used (named_segments boot) ds)) (sym (listed below)) h.sound.apart));
      }
