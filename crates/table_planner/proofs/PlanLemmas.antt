-- What a plan is made of.
use Rattle.table_planner.proofs.Prelude.{◌≡◌, ℕ, ◌+◌, ◌<◌, List, [], ◌∷◌, ◌++◌, length, map, refl, sym, ap, ◌∙◌, arith, inl, inr, subst, Option, Some, None, IsSome, slice_index_or, All, Contains, Contains-append_right, object_key, medium_key, segment_key, elision_key, SEGMENT_SECTORS, Place, Location, Target, Stored, Zero, AddressFact, SegmentFact, Array, NextNumbers, AreBelow, IsFlushed, facts_of, patch_facts, all_contained, Memory, Contents, FitsTarget, FitsInMemory, IsSound, ReadsAs, facts, patches, all_addresses, IsEliding, AreLayered, of_each, has_place, has_places, place_of, places_from, AreStored, IsPlanned, segments_from, Eliding, Placing, Plan, eliding_by, IsElidingOf, Kept, IsKept, after_plan, next_past, next_with, placed_addresses, units_of, with_patch_rooms, without_elisions, AreLeftFor, AreUnits, HasRoomForPatches, IsPlacingOf, IsPlanFor, IsPlanOf, IsSameMemory}
use Rattle.std.specs.Int.{div_ceil}
use Rattle.pur_base.specs.declared.facts.AnyFact.TheVariants as any
use Rattle.table_plan.proofs.PlacesLemmas.{is_flagged}
use Rattle.table_plan.proofs.Planned.{named_by}
use Rattle.table_plan.proofs.SegmentsLemmas.{is_new_segment}
use Rattle.command_spec.proofs.SoundLemmas.{sound_as}
use Rattle.array_memory.proofs.PlanLemmas.{long_map, planned, units_long}

-- ---- sectors have places

module _ (m : Memory) (p : Placing) (s : IsSound m) (h : IsPlacingOf m p) where
  abbrev Places : List (Option Location)
  Places = places_from m.next.segment 0 p.flags.items

  staged_index : (f : AddressFact) (at : Location) → Contains (patch_facts p.newest) f → f.target ≡ Stored at → at.segment.0 ≡ 0 → at.index < length m.staged
  staged_index f at c e none =
      let there : Contains (facts m.tables).addresses f = Contains-append_right (facts_of m.tables.addresses.patches) m.tables.addresses.unflushed f (h.made.source f c) in
      let fits : FitsInMemory (length m.staged) (any.Address f) = s.fit (any.Address f) (all_addresses (facts m.tables) f there) in
      let target : FitsTarget (length m.staged) (Stored at) = subst (λ t. FitsTarget (length m.staged) t) e fits.3 in
      elim target [ inl q ↦ q.1 | inr q ↦ (let some = q.0 in absurd (omega (arith, some, none))) ]

  some_place : (o : Option Location) (at : Location) → o ≡ Some at → IsSome o
  some_place o at e = subst (λ z. IsSome z) (sym e) refl

  one_has : (f : AddressFact) → Contains (patch_facts p.newest) f → (t : Target) → f.target ≡ t → has_place Places t
  one_has f c (Stored at) e = λ none.
      let flag = h.named at.index (staged_index f at c e none) ∙ named_by (patch_facts p.newest) f at c e none in
      let w = is_flagged m.next.segment 0 0 p.flags.items at.index flag in
      some_place (slice_index_or Places at.index None) (place_of m.next.segment (0 + w.rank)) w.placed
  one_has f c Zero e = tt

  pub all_have : All (has_places Places) (patch_facts p.newest)
  all_have = all_contained (has_places Places) (patch_facts p.newest) (λ f c. one_has f c f.target refl)

-- ---- the new segments

pub segments_units : (first number sectors : ℕ) (units : List (List Place)) → map (λ (d : SegmentFact). d.places) (segments_from first number sectors units) ≡ units
segments_units first number sectors [] = refl
segments_units first number sectors (u ∷ units) = ap (λ l. u ∷ l) (segments_units (first + 1) (number + 1) _ units)

pub segments_long : (first number sectors : ℕ) (units : List (List Place)) → length (segments_from first number sectors units) ≡ length units
segments_long first number sectors units = sym (long_map (λ (d : SegmentFact). d.places) (segments_from first number sectors units)) ∙ ap length (segments_units first number sectors units)

-- their ids are above those of unflushed facts
pub new_last : (k : Kept) (number sectors : ℕ) (units : List (List Place)) (ds : List SegmentFact) → IsKept k → ds ≡ segments_from k.memory.next.segment number sectors units
    → (f d : SegmentFact) → Contains k.memory.tables.segments.unflushed f → Contains ds d → f.segment.0 < d.segment.0
new_last k number sectors units ds h are f d a b =
    let there : Contains (facts k.memory.tables).segments f = Contains-append_right (facts_of k.memory.tables.segments.patches) k.memory.tables.segments.unflushed f a in
    let low = of_each (λ (x : SegmentFact). x.segment.0 < k.memory.next.segment) (facts k.memory.tables).segments f h.ids.segments there in
    let high = (is_new_segment k.memory.next.segment number sectors units d (subst (λ l. Contains l d) are b)).id in
    omega (arith, low, high)

-- ---- a plan

-- what a plan is made of
pub made_for : (m : Memory) (p : Plan) (units : List (List Place)) → IsSound m → AreStored (facts_of m.tables.addresses.patches) → AreLayered (without_elisions m.tables)
    → AreBelow (λ f. f.seq.0) (facts_of m.tables.elisions.patches) m.tables.elisions.unflushed → IsPlacingOf m p.placing
    → div_ceil (length p.placing.order.items) SEGMENT_SECTORS ≡ length units → AreUnits units → AreLeftFor m.next (length units)
    → p.segments.items ≡ segments_from m.next.segment m.next.sequence (length p.placing.order.items) units
    → IsFlushed object_key (λ f. f.seq.0) m.tables.objects.unflushed (patch_facts p.objects)
    → IsFlushed medium_key (λ f. f.seq.0) m.tables.mediums.unflushed (patch_facts p.mediums)
    → patch_facts p.addresses ≡ placed_addresses m p.placing
    → IsFlushed segment_key (λ f. f.seq.0) (m.tables.segments.unflushed ++ p.segments.items) (patch_facts p.segment_facts)
    → IsFlushed elision_key (λ f. f.seq.0) m.tables.elisions.unflushed (patch_facts p.elisions)
    → p.next ≡ next_past m.next (length units) → IsPlanFor m p
made_for m p units sound stored layers rise placing wanted places left are objects mediums addresses segment_facts elisions next = record {
  sound = sound;
  stored = stored;
  layered = layers;
  elisions_rise = rise;
  placing = placing;
  wanted = wanted ∙ sym long;
  segments = are ∙ ap (λ u. segments_from m.next.segment m.next.sequence (length p.placing.order.items) u) (sym own);
  units = subst (λ u. AreUnits u) (sym own) places;
  left = subst (λ n. AreLeftFor m.next n) (sym long) left;
  objects = objects;
  mediums = mediums;
  addresses = addresses;
  segment_facts = segment_facts;
  elisions = elisions;
  next = next ∙ ap (λ n. next_past m.next n) (sym long) ∙ ap (λ k. next_with m.next (length p.segments.items) k) (sym same_patch_segment);
  patch_segments = (omega (arith, same_patch_segment), (let l = sound.next.patch_segment.1 in omega (arith, l, same_patch_segment)));
}
  where
    long : length p.segments.items ≡ length units
    long = ap length are ∙ segments_long m.next.segment m.next.sequence (length p.placing.order.items) units

    same_patch_segment : p.next.patch_segment ≡ m.next.patch_segment
    same_patch_segment = ap (λ (n : NextNumbers). n.patch_segment) next

    own : units_of p ≡ units
    own = ap (λ l. map (λ (d : SegmentFact). d.places) l) are ∙ segments_units m.next.segment m.next.sequence (length p.placing.order.items) units

-- with these units
pub planned_on : (m : Memory) (p : Plan) (units : List (List Place)) → IsPlanFor m p → units_of p ≡ units → IsPlanned m (after_plan m p) p.placing.flags.items (patch_facts p.placing.newest) units
planned_on m p units h e = subst (λ u. IsPlanned m (after_plan m p) p.placing.flags.items (patch_facts p.placing.newest) u) e (planned m p h)

-- ---- the same but for room

-- it has the same facts, and its patches are the same
pub facts_same : (a b : Memory) → IsSameMemory a b → facts b.tables ≡ facts a.tables
facts_same a b s =
    rw (s.objects.patches, s.objects.unflushed, s.mediums.patches, s.mediums.unflushed, s.addresses.patches, s.addresses.unflushed, s.segments.patches, s.segments.unflushed, s.elisions.patches, s.elisions.unflushed) refl

pub patches_same : (a b : Memory) → IsSameMemory a b → patches b.tables ≡ patches a.tables
patches_same a b s = rw (s.objects.patches, s.mediums.patches, s.addresses.patches, s.segments.patches, s.elisions.patches) refl

-- ---- room

-- a plan is one of memory with other room
roomed_for : (was now : Kept) (p : Plan) → IsPlanFor (eliding_by was.memory p.eliding) p → IsPlanFor (eliding_by (with_patch_rooms was now).memory p.eliding) p
roomed_for was now p h = record {
  sound = sound_as (eliding_by was.memory p.eliding) (eliding_by (with_patch_rooms was now).memory p.eliding) refl refl refl h.sound;
  stored = h.stored;
  layered = record { objects = h.layered.objects; mediums = h.layered.mediums; addresses = h.layered.addresses; segments = h.layered.segments; elisions = h.layered.elisions };
  elisions_rise = h.elisions_rise;
  placing = record { made = h.placing.made; count = h.placing.count; named = h.placing.named; order = h.placing.order };
  wanted = h.wanted;
  segments = h.segments;
  units = h.units;
  left = h.left;
  objects = h.objects;
  mediums = h.mediums;
  addresses = h.addresses;
  segment_facts = h.segment_facts;
  elisions = h.elisions;
  next = h.next;
  patch_segments = h.patch_segments;
}

-- what is elided is elided of memory with other room
roomed_eliding : (was now : Kept) (e : Eliding) → IsElidingOf was e → IsElidingOf (with_patch_rooms was now) e
roomed_eliding was now e h = record { unreached = h.unreached; unused = h.unused; made = h.made; elided = h.elided; room = h.room }

roomed_keeps : (was now : Kept) (e : Eliding) → IsEliding was.memory (eliding_by was.memory e) e.facts.items → IsEliding (with_patch_rooms was now).memory (eliding_by (with_patch_rooms was now).memory e) e.facts.items
roomed_keeps was now e h = record {
  elisions = h.elisions;
  new_elisions = record { each = h.new_elisions.each; ids = h.new_elisions.ids; numbers = h.new_elisions.numbers; one_number = h.new_elisions.one_number };
  sound = h.sound;
  no_object = h.no_object;
  mediums_unreached = h.mediums_unreached;
  addresses_unreached = h.addresses_unreached;
  segments_unused = h.segments_unused;
  objects = refl;
  mediums = refl;
  addresses = refl;
  segments = refl;
  staged = refl;
  next = refl;
  numbers = h.numbers;
}

pub plan_of : (was now : Kept) (p : Plan) (units : List (List Place)) → now ≡ with_patch_rooms was now → IsElidingOf was p.eliding → IsEliding was.memory (eliding_by was.memory p.eliding) p.eliding.facts.items
    → IsPlanFor (eliding_by was.memory p.eliding) p → units_of p ≡ units → HasRoomForPatches now (length units) → IsPlanOf now p
plan_of was now p units rest e keeps h own room = record {
  eliding = subst (λ (k : Kept). IsElidingOf k p.eliding) (sym rest) (roomed_eliding was now p.eliding e);
  keeps = subst (λ (k : Kept). IsEliding k.memory (eliding_by k.memory p.eliding) p.eliding.facts.items) (sym rest) (roomed_keeps was now p.eliding keeps);
  plan = subst (λ (k : Kept). IsPlanFor (eliding_by k.memory p.eliding) p) (sym rest) (roomed_for was now p h);
  room = subst (λ n. HasRoomForPatches now n) (sym (ap length own) ∙ units_long (eliding_by was.memory p.eliding) p h) room;
}

pub reads_roomed : (was now : Kept) → now ≡ with_patch_rooms was now → (contents : Contents) (array : Array) → ReadsAs contents was.memory array → ReadsAs contents now.memory array
reads_roomed was now rest contents array r =
    subst (λ (k : Kept). ReadsAs contents k.memory array) (sym rest) (record { sound = sound_as was.memory (with_patch_rooms was now).memory refl refl refl r.sound; reads = r.reads })
