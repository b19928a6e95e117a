-- What a plan says of memory.
use Rattle.array_memory.proofs.Prelude.{◌≡◌, ℕ, ◌+◌, ◌-◌, ◌<◌, ◌≤◌, min, Bool, List, [], ◌∷◌, ◌++◌, length, map, refl, sym, ap, ◌∙◌, arith, inl, subst, Option, Contains, object_key, medium_key, address_key, segment_key, elision_key, never, Ascends, SEGMENT_SECTORS, Place, Location, AddressFact, SegmentFact, ElisionFact, NextNumbers, NUMBER_LIMIT, Layers, AreBelow, IsFlushed, IsLayered, facts_of, patch_facts, all_contained, all_below, below_at, rises_below, ascends-cons, ascends-nil, ascends_map, Memory, IsSound, facts, all_segments, of_map, IsTableFlushed, repointed, AreLayered, places_from, place_in, IsPlanned, segments_from, Plan, after_plan, next_with, placed_addresses, units_of, HasSameLayers, IsPlacingOf, IsPlanFor, IsSameMemory}
use Rattle.std.specs.Int.{div_ceil}
use Rattle.pur_base.specs.declared.facts.AnyFact.TheVariants as any
use Rattle.pyramid.proofs.PlaceLemmas.{flush_layered, instead_layered}
use Rattle.segment_table.proofs.AddedLemmas.{rising_with}
use Rattle.table_plan.proofs.SegmentsLemmas.{IsNewSegment, is_new_segment}
use Rattle.array_memory.specs.declared.plan.Placing.{Placing}

-- ---- sectors have places

module _ (m : Memory) (p : Placing) (s : IsSound m) (h : IsPlacingOf m p) where
  abbrev Places : List (Option Location)
  Places = places_from m.next.segment 0 p.flags.items

  pub placed_ascend : Ascends address_key (placed_addresses m p)
  placed_ascend = ascends_map address_key (λ (f : AddressFact). f.seq.0) never (repointed (place_in Places)) (λ f. refl) (patch_facts p.newest) h.made.ascends

-- ---- the new segments

-- the first of them
abbrev First : ℕ → ℕ → ℕ → List Place → SegmentFact
First first number sectors u = record { segment = record { 0 = first }; places = u; placed = min sectors SEGMENT_SECTORS; seq = record { 0 = number } }

abbrev Rest : ℕ → ℕ → ℕ → List (List Place) → List SegmentFact
Rest first number sectors units = segments_from (first + 1) (number + 1) (sectors - min sectors SEGMENT_SECTORS) units

pub ids_rise : (first number sectors : ℕ) (units : List (List Place)) → Ascends segment_key (segments_from first number sectors units)
ids_rise first number sectors [] = ascends-nil segment_key
ids_rise first number sectors (u ∷ units) = ascends-cons segment_key (First first number sectors u) (Rest first number sectors units)
    (all_contained (λ e. segment_key (First first number sectors u) < segment_key e) (Rest first number sectors units)
    (λ e c. let i = (is_new_segment (first + 1) (number + 1) (sectors - min sectors SEGMENT_SECTORS) units e c).id in omega (arith, i)))
    (ids_rise (first + 1) (number + 1) (sectors - min sectors SEGMENT_SECTORS) units)

pub numbers_rise : (first number sectors : ℕ) (units : List (List Place)) → Ascends (λ (d : SegmentFact). d.seq.0) (segments_from first number sectors units)
numbers_rise first number sectors [] = ascends-nil (λ (d : SegmentFact). d.seq.0)
numbers_rise first number sectors (u ∷ units) = ascends-cons (λ (d : SegmentFact). d.seq.0) (First first number sectors u) (Rest first number sectors units)
    (all_contained (λ (e : SegmentFact). number < e.seq.0) (Rest first number sectors units)
    (λ e c. let i = (is_new_segment (first + 1) (number + 1) (sectors - min sectors SEGMENT_SECTORS) units e c).seq in omega (arith, i)))
    (numbers_rise (first + 1) (number + 1) (sectors - min sectors SEGMENT_SECTORS) units)

pub long_map : {A B : Type 0} (f : A → B) (xs : List A) → length (map f xs) ≡ length xs
long_map f [] = refl
long_map f (x ∷ xs) = let inner = long_map f xs in omega (arith, inner)

-- ---- a plan

flushed_self : {F : Type 0} (key number : F → ℕ) (fs : List F) → Ascends key fs → IsFlushed key number fs fs
flushed_self key number fs up = record { ascends = up; source = λ f c. c; dropped = λ f c. inl c; newest = λ k. refl }

module _ (m : Memory) (p : Plan) (h : IsPlanFor m p) where
  abbrev Order : ℕ
  Order = length p.placing.order.items

  abbrev Made : List SegmentFact
  Made = segments_from m.next.segment m.next.sequence Order (units_of p)

  pub units_long : length (units_of p) ≡ length p.segments.items
  units_long = long_map (λ (d : SegmentFact). d.places) p.segments.items

  pub new_segment : (d : SegmentFact) → Contains p.segments.items d → IsNewSegment m.next.segment m.next.sequence Order (units_of p) d
  new_segment d c = is_new_segment m.next.segment m.next.sequence Order (units_of p) d (subst (λ l. Contains l d) h.segments c)

  pub new_id : (d : SegmentFact) → Contains p.segments.items d → m.next.segment ≤ d.segment.0
  new_id d c = let i = (new_segment d c).id in omega (arith, i)

  pub new_ids_rise : Ascends segment_key p.segments.items
  new_ids_rise = subst (λ l. Ascends segment_key l) (sym h.segments) (ids_rise m.next.segment m.next.sequence Order (units_of p))

  pub new_numbers_rise : Ascends (λ (d : SegmentFact). d.seq.0) p.segments.items
  new_numbers_rise = subst (λ l. Ascends (λ (d : SegmentFact). d.seq.0) l) (sym h.segments) (numbers_rise m.next.segment m.next.sequence Order (units_of p))

  pub segments_newer : AreBelow (λ (d : SegmentFact). d.seq.0) (facts m.tables).segments p.segments.items
  segments_newer = all_below (λ (d : SegmentFact). d.seq.0) (facts m.tables).segments p.segments.items (λ f g c d.
      let less : f.seq.0 < m.next.sequence = h.sound.numbers.below (any.Segment f) (all_segments (facts m.tables) f c) in
      let i = (new_segment g d).seq in
      omega (arith, less, i))

  -- the new patches are behind all others
  pub addresses_ascend : Ascends address_key (patch_facts p.addresses)
  addresses_ascend = subst (λ l. Ascends address_key l) (sym h.addresses) (placed_ascend m p.placing h.sound h.placing)

  pub addresses_newer : AreBelow (λ (f : AddressFact). f.seq.0) (facts_of m.tables.addresses.patches) (patch_facts p.addresses)
  addresses_newer = all_below (λ (f : AddressFact). f.seq.0) (facts_of m.tables.addresses.patches) (patch_facts p.addresses) (λ f g c d.
      let w = of_map (repointed (place_in (places_from m.next.segment 0 p.placing.flags.items))) (patch_facts p.placing.newest) g (subst (λ l. Contains l g) h.addresses d) in
      let less = below_at (λ (f : AddressFact). f.seq.0) (facts_of m.tables.addresses.patches) m.tables.addresses.unflushed f w.0
      (rises_below (λ (f : AddressFact). f.seq.0) m.tables.addresses.patches m.tables.addresses.unflushed h.layered.addresses.rises) c (h.placing.made.source w.0 w.1) in
      let same : g.seq.0 ≡ w.0.seq.0 = ap (λ (x : AddressFact). x.seq.0) w.2 in
      omega (arith, less, same))

  pub segment_facts_newer : AreBelow (λ (d : SegmentFact). d.seq.0) (facts_of m.tables.segments.patches) (patch_facts p.segment_facts)
  segment_facts_newer = rising_with m.tables.segments.patches m.tables.segments.unflushed p.segments.items (patch_facts p.segment_facts)
      (rises_below (λ (d : SegmentFact). d.seq.0) m.tables.segments.patches m.tables.segments.unflushed h.layered.segments.rises) segments_newer h.segment_facts.source

  pub elisions_newer : AreBelow (λ (f : ElisionFact). f.seq.0) (facts_of m.tables.elisions.patches) (patch_facts p.elisions)
  elisions_newer = all_below (λ (f : ElisionFact). f.seq.0) (facts_of m.tables.elisions.patches) (patch_facts p.elisions) (λ f g c d.
      below_at (λ (x : ElisionFact). x.seq.0) (facts_of m.tables.elisions.patches) m.tables.elisions.unflushed f g h.elisions_rise c (h.elisions.source g d))

  layered : AreLayered (after_plan m p).tables
  layered = record {
    objects = flush_layered object_key (λ f. f.seq.0) m.tables.objects.patches m.tables.objects.unflushed p.objects h.layered.objects h.objects;
    mediums = flush_layered medium_key (λ f. f.seq.0) m.tables.mediums.patches m.tables.mediums.unflushed p.mediums h.layered.mediums h.mediums;
    addresses = instead_layered address_key (λ f. f.seq.0) m.tables.addresses.patches m.tables.addresses.unflushed p.addresses h.layered.addresses addresses_ascend addresses_newer;
    segments = instead_layered segment_key (λ f. f.seq.0) m.tables.segments.patches m.tables.segments.unflushed p.segment_facts h.layered.segments h.segment_facts.ascends segment_facts_newer;
    elisions = instead_layered elision_key (λ f. f.seq.0) m.tables.elisions.patches [] p.elisions h.layered.elisions h.elisions.ascends elisions_newer;
  }

  -- memory as it will be is memory after a checkpoint
  pub planned : IsPlanned m (after_plan m p) p.placing.flags.items (patch_facts p.placing.newest) (units_of p)
  planned = record {
    made = h.placing.made;
    count = h.placing.count;
    named = h.placing.named;
    wanted = ap (λ (l : List ℕ). div_ceil (length l) SEGMENT_SECTORS) (sym h.placing.order) ∙ h.wanted ∙ sym units_long;
    places = h.units;
    left = (let l = h.left.0 in omega (arith, l, units_long), let l = h.left.1 in omega (arith, l, units_long));
    addresses = record {
      patch = p.addresses;
      made = subst (λ l. IsFlushed address_key (λ f. f.seq.0) (placed_addresses m p.placing) l) (sym h.addresses) (flushed_self address_key (λ f. f.seq.0) (placed_addresses m p.placing) (placed_ascend m p.placing h.sound h.placing));
      patches = refl;
      unflushed = refl;
    };
    segments = record {
      patch = p.segment_facts;
      made = subst (λ (l : List ℕ). IsFlushed segment_key (λ f. f.seq.0) (m.tables.segments.unflushed ++ segments_from m.next.segment m.next.sequence (length l) (units_of p)) (patch_facts p.segment_facts)) h.placing.order
          (subst (λ l. IsFlushed segment_key (λ f. f.seq.0) (m.tables.segments.unflushed ++ l) (patch_facts p.segment_facts)) h.segments h.segment_facts);
      patches = refl;
      unflushed = refl;
    };
    objects = record { patch = p.objects; made = h.objects; patches = refl; unflushed = refl };
    mediums = record { patch = p.mediums; made = h.mediums; patches = refl; unflushed = refl };
    elisions = record { patch = p.elisions; made = h.elisions; patches = refl; unflushed = refl };
    staged = refl;
    next = h.next ∙ ap (λ n. next_with m.next n p.next.patch_segment) (sym units_long);
    patch_segments = h.patch_segments;
    layered = layered;
  }

-- ---- the same but for room

same_flushed : {F : Type 0} (key number : F → ℕ) (was a b : Layers F) → HasSameLayers a b → IsTableFlushed key number was a → IsTableFlushed key number was b
same_flushed key number was a b same h = record { patch = h.patch; made = h.made; patches = same.patches ∙ h.patches; unflushed = same.unflushed ∙ h.unflushed }

same_layered : {F : Type 0} (key number : F → ℕ) (a b : Layers F) → HasSameLayers a b → IsLayered key number a.patches a.unflushed → IsLayered key number b.patches b.unflushed
same_layered {F} key number a b same h =
    subst (λ (ps : List (List F)). IsLayered key number ps b.unflushed) (sym same.patches) (subst (λ (us : List F). IsLayered key number a.patches us) (sym same.unflushed) h)

pub planned_same : (was a b : Memory) (flags : List Bool) (newest : List AddressFact) (units : List (List Place)) → IsSameMemory a b → IsPlanned was a flags newest units → IsPlanned was b flags newest units
planned_same was a b flags newest units same h = record {
  made = h.made;
  count = h.count;
  named = h.named;
  wanted = h.wanted;
  places = h.places;
  left = h.left;
  addresses = same_flushed address_key (λ f. f.seq.0) _ a.tables.addresses b.tables.addresses same.addresses h.addresses;
  segments = same_flushed segment_key (λ f. f.seq.0) _ a.tables.segments b.tables.segments same.segments h.segments;
  objects = same_flushed object_key (λ f. f.seq.0) was.tables.objects a.tables.objects b.tables.objects same.objects h.objects;
  mediums = same_flushed medium_key (λ f. f.seq.0) was.tables.mediums a.tables.mediums b.tables.mediums same.mediums h.mediums;
  elisions = same_flushed elision_key (λ f. f.seq.0) was.tables.elisions a.tables.elisions b.tables.elisions same.elisions h.elisions;
  staged = same.staged ∙ h.staged;
  next = same.next ∙ h.next ∙ ap (λ k. next_with was.next (length units) k) (ap (λ (n : NextNumbers). n.patch_segment) (sym same.next));
  patch_segments = subst (λ (n : NextNumbers). (was.next.patch_segment ≤ n.patch_segment) × (n.patch_segment < NUMBER_LIMIT)) (sym same.next) h.patch_segments;
  layered = record {
    objects = same_layered object_key (λ f. f.seq.0) a.tables.objects b.tables.objects same.objects h.layered.objects;
    mediums = same_layered medium_key (λ f. f.seq.0) a.tables.mediums b.tables.mediums same.mediums h.layered.mediums;
    addresses = same_layered address_key (λ f. f.seq.0) a.tables.addresses b.tables.addresses same.addresses h.layered.addresses;
    segments = same_layered segment_key (λ f. f.seq.0) a.tables.segments b.tables.segments same.segments h.layered.segments;
    elisions = same_layered elision_key (λ f. f.seq.0) a.tables.elisions b.tables.elisions same.elisions h.layered.elisions;
  };
}

-- it stays one where ids are given to segments of its patches
pub numbered : (m : Memory) (p : Plan) (n : NextNumbers) → n ≡ record p.next { patch_segment = n.patch_segment } → p.next.patch_segment ≤ n.patch_segment → n.patch_segment < NUMBER_LIMIT
    → IsPlanFor m p → IsPlanFor m (record p { next = n })
numbered m p n same more left h = record {
  sound = h.sound;
  stored = h.stored;
  layered = h.layered;
  elisions_rise = h.elisions_rise;
  placing = h.placing;
  wanted = h.wanted;
  segments = h.segments;
  units = h.units;
  left = h.left;
  objects = h.objects;
  mediums = h.mediums;
  addresses = h.addresses;
  segment_facts = h.segment_facts;
  elisions = h.elisions;
  next = same ∙ ap (λ (k : NextNumbers). record k { patch_segment = n.patch_segment }) h.next;
  patch_segments = (let a = h.patch_segments.0 in omega (arith, a, more), left);
}
