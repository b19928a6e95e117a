-- The segments of a record are sound where new ones replace some of them, and so are those of the next record and of memory after a plan.
use Rattle.record_tables.proofs.Prelude.{◌≡◌, ◌≢◌, ℕ, ◌+◌, ◌<◌, ◌≤◌, ◌⊎◌, List, [], ◌∷◌, ◌++◌, length, refl, sym, ap, ◌∙◌, arith, inl, inr, subst, map, Some, Contains, AllPairs, AllByRecursion, flat_map, list_any, map-append, Contains-append_left, Contains-append_right, Contains-append_cases, Facts, segment, segments, Place, SegmentFact, PatchSegment, Patch, NextNumbers, BootRecord, is_place, AreApart, AreSegmentsSound, named_segments, used_places, facts, each_by_recursion, of_each, in_map, shelf_of, AreUnitsToTake, after_plan, units_of, counts_of, segments_from, added_patches, by_tag, AreNewUnits, with_patches, NextSegmentsAreSound, all_weaker, no_pairs, cons_pairs, pairs_swapped}
use Rattle.record_tables.proofs.Replaced.{IsReplaced, added, replaced_all, replaced_flat, replaced_map, replaced_more, replaced_pairs}
use Rattle.record_tables.proofs.Added.{added_segments, segments_places}
use Rattle.record_tables.proofs.Lawful.{next_woven}
use Rattle.record_tables.proofs.Visible.{old_or_new, visible}
use Rattle.record_tables.proofs.Taking.{none_passes, apart_where_unused}

-- ---- ids

pub ids_between : (id : ℕ) (units : List (List Place)) → AllByRecursion (λ s. (id ≤ s.id) × (s.id < id + length units)) (segments_from id units)
ids_between id [] = tt
ids_between id (u ∷ units) = (
  (omega arith, omega arith),
  all_weaker (λ s. (id + 1 ≤ s.id) × (s.id < id + 1 + length units)) (λ s. (id ≤ s.id) × (s.id < id + length (u ∷ units))) (λ s l. let a = l.0 in let b = l.1 in (omega (arith, a), omega (arith, b))) (segments_from (id + 1) units)
      (ids_between (id + 1) units),
)

abbrev pub OwnId : PatchSegment → PatchSegment → Type 0
OwnId s t = s.id ≢ t.id

pub ids_differ : (id : ℕ) (units : List (List Place)) → AllPairs OwnId (segments_from id units)
ids_differ id [] = no_pairs OwnId
ids_differ id (u ∷ units) =
    cons_pairs OwnId (record { id = id; places = u }) (segments_from (id + 1) units)
    (λ s c e. let above = (of_each (λ s. (id + 1 ≤ s.id) × (s.id < id + 1 + length units)) (segments_from (id + 1) units) s (ids_between (id + 1) units) c).0 in omega (arith, above, e))
    (ids_differ (id + 1) units)

-- ---- units

pub apart_back : (ps qs : List Place) → AreApart ps qs → AreApart qs ps
apart_back ps qs h = each_by_recursion (λ q. AllByRecursion (λ p. q ≢ p) ps) qs (λ q d. each_by_recursion (λ p. q ≢ p) ps (λ p c e.
    of_each (λ q. p ≢ q) qs q (of_each (λ p. AllByRecursion (λ q. p ≢ q) qs) ps p h c) d (sym e)))

-- free units are in no segment that is named or visible
pub free_apart : (boot : BootRecord) (fs : Facts) (us vs : List Place) → AreUnitsToTake boot fs us → Contains (used_places boot fs) vs → AreApart vs us
free_apart boot fs us vs h c = apart_where_unused vs us (λ q d.
    none_passes (list_any (is_place q.slot q.unit)) (used_places boot fs) vs (of_each _ us q h.free d).unused c)

-- ---- all of it

-- The segments of the record are sound with others of its patches, where new ones, on new units, replace some of them, and where the facts show as many more data segments as were planned.
module _ (boot : BootRecord) (old new : Facts) (gone fresh all : List Patch) (first : ℕ) (planned units : List (List Place)) (next : NextNumbers) (flushed : ℕ)
    (sound : AreSegmentsSound (shelf_of boot) boot old) (replaced : IsReplaced boot.patches gone fresh all) (on : flat_map (λ q. q.segments) fresh ≡ segments_from first units)
    (free : AreNewUnits boot old (planned ++ units)) (least : boot.next.patch_segment ≤ first) (patch_next : next.patch_segment ≡ first + length units)
    (shown : map (λ d. d.places) (segments new next.segment) ≡ map (λ d. d.places) (segments old boot.next.segment) ++ planned)
    (old_or_planned : (id : ℕ) (d : SegmentFact) → segment new id ≡ Some d → (segment old id ≡ Some d) ⊎ Contains planned d.places) where
  abbrev Boot2 : BootRecord
  Boot2 = with_patches boot all next flushed

  named : IsReplaced (named_segments boot) (flat_map (λ q. q.segments) gone) (segments_from first units) (named_segments Boot2)
  named = subst (λ l. IsReplaced (named_segments boot) (flat_map (λ (q : Patch). q.segments) gone) l (named_segments Boot2)) on (replaced_flat replaced (λ q. q.segments))

  old_below : (s : PatchSegment) → Contains (named_segments boot) s → s.id < first
  old_below s c = let low = of_each (λ s. s.id < boot.next.patch_segment) (named_segments boot) s sound.patch_ids c in omega (arith, low, least)

  new_between : (s : PatchSegment) → Contains (segments_from first units) s → (first ≤ s.id) × (s.id < first + length units)
  new_between s c = of_each (λ s. (first ≤ s.id) × (s.id < first + length units)) (segments_from first units) s (ids_between first units) c

  places : IsReplaced (used_places boot old) (map (λ s. s.places) (flat_map (λ q. q.segments) gone)) (units ++ planned) (used_places Boot2 new)
  places =
      let Gone : List (List Place) = map (λ s. s.places) (flat_map (λ (q : Patch). q.segments) gone) in
      let Now : List (List Place) = map (λ s. s.places) (named_segments Boot2) in
      let more = replaced_more (replaced_map named (λ (s : PatchSegment). s.places)) (map (λ (d : SegmentFact). d.places) (segments old boot.next.segment)) planned in
      subst (λ l. IsReplaced (used_places boot old) Gone (l ++ planned) (used_places Boot2 new)) (segments_places first units)
      (subst (λ l. IsReplaced (used_places boot old) Gone (map (λ s. s.places) (segments_from first units) ++ planned) (Now ++ l)) (sym shown) more)

  to_take : (us : List Place) → Contains (units ++ planned) us → AreUnitsToTake boot old us
  to_take us c = of_each (AreUnitsToTake boot old) (planned ++ units) us free.each (elim (Contains-append_cases units planned us c) [
    | inl mine ↦ Contains-append_right planned units us mine
    | inr more ↦ Contains-append_left planned units us more
  ])

  pub segments_sound : AreSegmentsSound (shelf_of boot) Boot2 new
  segments_sound = record {
    places = λ id d e. elim (old_or_planned id d e) [ inl was ↦ sound.places id d was | inr more ↦ (to_take d.places (Contains-append_right units planned d.places more)).lawful ];
    patch_ids = replaced_all named (λ s. s.id < next.patch_segment)
        (each_by_recursion (λ s. s.id < next.patch_segment) (named_segments boot) (λ s c. let low = old_below s c in omega (arith, low, patch_next)))
        (each_by_recursion (λ s. s.id < next.patch_segment) (segments_from first units) (λ s c. let low = (new_between s c).1 in omega (arith, low, patch_next)));
    distinct = replaced_pairs named OwnId (λ s t h e. h (sym e)) sound.distinct (ids_differ first units)
        (λ s t c d e. let low = old_below s c in let high = (new_between t d).0 in omega (arith, low, high, e));
    apart = replaced_pairs places AreApart apart_back sound.apart (pairs_swapped AreApart apart_back planned units free.apart)
        (λ vs us c d. free_apart boot old us vs (to_take us d) c);
  }

-- with a plan's patches, and its data segments
pub next_segments_are_sound : NextSegmentsAreSound
next_segments_are_sound boot m p counts first units next flushed lawful sound plan room new same least segment_next patch_next =
    let fresh : List Patch = added_patches counts first units in
    let After : Facts = facts (after_plan m p).tables in
    segments_sound boot (facts m.tables) After [] fresh (by_tag boot.patches fresh) first (units_of p) units next flushed sound
    (added boot.patches fresh (by_tag boot.patches fresh) (next_woven boot.slots boot.units boot.patches (counts_of counts) first units refl lawful.patches.each lawful.patches.by_tag))
    (added_segments 1 (counts_of counts) first units room) new least patch_next
    (ap (λ n. map (λ (d : SegmentFact). d.places) (segments After n)) segment_next
    ∙ ap (λ l. map (λ (d : SegmentFact). d.places) l) (visible m p plan)
    ∙ map-append (λ (d : SegmentFact). d.places) (segments (facts m.tables) m.next.segment) p.segments.items
    ∙ ap (λ n. map (λ (d : SegmentFact). d.places) (segments (facts m.tables) n) ++ units_of p) (sym same))
    (λ id d e. elim (old_or_new m p plan id d e) [ inl old ↦ inl old | inr planned ↦ inr (in_map (λ (x : SegmentFact). x.places) p.segments.items d planned) ])
