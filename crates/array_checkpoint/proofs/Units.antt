-- The units that a checkpoint takes, and its data segments on them.
use Rattle.array_checkpoint.proofs.Prelude.{◌≡◌, ◌≢◌, ℕ, zero, suc, ◌+◌, ◌-◌, ◌*◌, ◌<◌, min, Bool, true, false, List, [], ◌∷◌, ◌++◌, length, get_or, sym, ap, ◌∙◌, arith, subst, All, Contains, AllPairs, Some, slice_get, AllByRecursion, length-map, All-from_recursion, Contains-append_left, Geometry, Facts, SEGMENT_SECTORS, SEGMENT_SHARDS, Place, SegmentFact, BootRecord, AscendFrom, Memory, of_each, in_map, geometry_of, Shelved, shelf_of, AreUnitsToTake, flagged_from, segments_from, Plan, units_of, IsPlanFor, place_of, AreFilled, AreIndicesOf, HavePlaces, MayBePlaced, places_in, segment_in, AreNewUnits, pairs_front}
use Rattle.array_spec.specs.Sound as sound
use Rattle.table_plan.proofs.SegmentsLemmas.{is_new_segment}
use Rattle.segment_io.specs.Prelude.{ArePlaces}
use Rattle.patch_io.proofs.Parts.{segment_places}
use Rattle.segment_writer.specs.Prelude.{AreApart}
use Rattle.array_checkpoint.proofs.UnitLists.{in_at, pairs_of_map, pairs_two}

-- ---- units that are apart

-- no unit stands in both
abbrev pub StandApart : List Place → List Place → Type 0
StandApart ps qs = (j k : ℕ) → j < SEGMENT_SHARDS → k < SEGMENT_SHARDS → (place_of ps j).slot ≡ (place_of qs k).slot → (place_of ps j).unit ≢ (place_of qs k).unit

pub stand_back : (ps qs : List Place) → StandApart ps qs → StandApart qs ps
stand_back ps qs h j k low less slots units = h k j less low (sym slots) (sym units)

same_place : (p q : Place) → p.slot ≡ q.slot → p.unit ≡ q.unit → p ≡ q
same_place p q slots units = ap (λ (x : ℕ). record { slot = x; unit = p.unit }) slots ∙ ap (λ (x : ℕ). record { slot = q.slot; unit = x }) units

two_apart : (ps qs : List Place) → sound.AreApart ps qs → length ps ≡ SEGMENT_SHARDS → length qs ≡ SEGMENT_SHARDS → StandApart ps qs
two_apart ps qs h long wide j k low less slots units =
    of_each (λ q. place_of ps j ≢ q) qs (place_of qs k) (of_each (λ p. AllByRecursion (λ q. p ≢ q) qs) ps (place_of ps j) h (in_at ps j _ (omega (arith, low, long)))) (in_at qs k _ (omega (arith, less, wide)))
    (same_place (place_of ps j) (place_of qs k) slots units)

-- new units stand apart
pub new_apart : (boot : BootRecord) (tables : Facts) (units : List (List Place)) → AreNewUnits boot tables units → AllPairs StandApart units
new_apart boot tables units new i j d l m =
    let nine = λ (k : ℕ) (low : k < length units). (of_each (AreUnitsToTake boot tables) units (get_or units k d) new.each (in_at units k d low)).lawful.nine in
    two_apart (get_or units i d) (get_or units j d) (new.apart i j d l m) (nine i (omega (arith, l, m))) (nine j m)

-- lawful places are units of the shelf
pub are_places : (shelf : Shelved) (boot : BootRecord) (places : List Place) → geometry_of shelf ≡ shelf_of boot → sound.ArePlaces (shelf_of boot) places → ArePlaces shelf places
are_places shelf boot places size h =
    segment_places shelf (record { id = 0; places = places })
    (record { id = omega arith; nine = h.nine; places = subst (λ (g : Geometry). AscendFrom g.slots g.units 0 places) (sym size) h.ascending })

-- ---- the new data segments

placed_at : (first number sectors : ℕ) (units : List (List Place)) (k : ℕ) → k < length units → (segment_in (segments_from first number sectors units) k).placed ≡ min (sectors - SEGMENT_SECTORS * k) SEGMENT_SECTORS
placed_at first number sectors [] k l = absurd (omega (arith, l))
placed_at first number sectors (u ∷ units) zero l = omega arith
placed_at first number sectors (u ∷ units) (suc k) l = placed_at (first + 1) (number + 1) (sectors - min sectors SEGMENT_SECTORS) units k (omega (arith, l)) ∙ omega arith

flagged_below : (j : ℕ) (flags : List Bool) → AllByRecursion (λ i. i < j + length flags) (flagged_from j flags)
flagged_below j [] = tt
flagged_below j (true ∷ flags) = (omega arith, subst (λ n. AllByRecursion (λ i. i < n) (flagged_from (j + 1) flags)) (let e : j + 1 + length flags ≡ j + suc (length flags) = omega arith in e) (flagged_below (j + 1) flags))
flagged_below j (false ∷ flags) = subst (λ n. AllByRecursion (λ i. i < n) (flagged_from (j + 1) flags)) (let e : j + 1 + length flags ≡ j + suc (length flags) = omega arith in e) (flagged_below (j + 1) flags)

-- a new segment by its number
pub new_segment : (m : Memory) (p : Plan) → IsPlanFor m p → (d : SegmentFact) → Contains p.segments.items d → (n : ℕ) × (slice_get p.segments.items n ≡ Some d) × (d.segment.0 ≡ m.next.segment + n)
new_segment m p h d c =
    let w = is_new_segment m.next.segment m.next.sequence (length p.placing.order.items) (units_of p) d (subst (λ l. Contains l d) h.segments c) in
    (w.at, subst (λ l. slice_get l w.at ≡ Some d) (sym h.segments) w.same, w.id)

-- the units of a data segment are among those of the plan
pub data_in : (p : Plan) (number : ℕ) → number < length p.segments.items → Contains (units_of p) (places_in p.segments.items number)
data_in p number l = in_map (λ d. d.places) p.segments.items (segment_in p.segments.items number) (in_at p.segments.items number _ l)

-- and so among the new ones
pub data_among : (p : Plan) (units : List (List Place)) (number : ℕ) → number < length p.segments.items → Contains (units_of p ++ units) (places_in p.segments.items number)
data_among p units number l =
    Contains-append_left (units_of p) units (places_in p.segments.items number) (data_in p number l)

module _ (shelf : Shelved) (boot : BootRecord) (tables : Facts) (m : Memory) (p : Plan) (units : List (List Place)) (size : geometry_of shelf ≡ shelf_of boot) (h : IsPlanFor m p)
    (new : AreNewUnits boot tables (units_of p ++ units)) where
  have_places : HavePlaces shelf p.segments.items
  have_places number l =
      are_places shelf boot (places_in p.segments.items number) size
      (of_each (AreUnitsToTake boot tables) (units_of p ++ units) (places_in p.segments.items number) new.each (data_among p units number l)).lawful

  are_apart : AreApart p.segments.items
  are_apart number other j k differ l less low few slots =
      pairs_two (λ (d e : SegmentFact). StandApart d.places e.places) (λ d e. stand_back d.places e.places) p.segments.items number other _
      (pairs_of_map StandApart (λ d. d.places) p.segments.items (pairs_front StandApart (units_of p) units (new_apart boot tables (units_of p ++ units) new)))
      differ l less j k low few slots

  are_filled : AreFilled p.segments.items (length p.placing.order.items)
  are_filled = record {
    count = h.wanted;
    placed = λ number l.
        subst (λ segments. (segment_in segments number).placed ≡ min (length p.placing.order.items - SEGMENT_SECTORS * number) SEGMENT_SECTORS) (sym h.segments)
        (placed_at m.next.segment m.next.sequence (length p.placing.order.items) (units_of p) number
        (let long : length (units_of p) ≡ length p.segments.items = length-map p.segments.items (λ d. d.places) in omega (arith, l, long)));
  }

  are_indices : AreIndicesOf m.staged p.placing.order.items
  are_indices =
      subst (λ n. All (λ i. i < n) p.placing.order.items) h.placing.count
      (subst (λ l. All (λ i. i < length p.placing.flags.items) l) (sym h.placing.order)
      (All-from_recursion (λ i. i < length p.placing.flags.items) (flagged_from 0 p.placing.flags.items)
      (subst (λ n. AllByRecursion (λ i. i < n) (flagged_from 0 p.placing.flags.items)) (let e : 0 + length p.placing.flags.items ≡ length p.placing.flags.items = omega arith in e) (flagged_below 0 p.placing.flags.items))))

  -- the sectors may be placed in the plan's segments
  pub may_be_placed : MayBePlaced shelf p.segments.items m.staged p.placing.order.items
  may_be_placed = record { places = have_places; apart = are_apart; filled = are_filled; indices = are_indices }
