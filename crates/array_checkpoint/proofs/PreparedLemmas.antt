-- What a checkpoint prepares: there are numbers and units for all that it writes, and it names what is planned.
use Rattle.array_checkpoint.proofs.Prelude.{◌≡◌, ℕ, ◌+◌, ◌-◌, ◌^◌, ◌<◌, ◌≤◌, Bool, true, false, ◌||◌, List, [], ◌∷◌, ◌++◌, length, refl, sym, ap, subst, ◌∙◌, arith, sum_by, length-append, leb-false, div_ceil, AllByRecursion, sum_by-cons, patches_show, Geometry, Facts, segments, Place, SegmentFact, BootRecord, NextNumbers, AscendFrom, IsBootRecord, AreSegmentsSound, all_facts, IsEliding, Memory, of_each, are_used_up, is_used_up, facts, patches, HasGroups, shelf_of, AreDataSegments, IsMapOf, AreUnitsToTake, flagged_from, Kept, eliding_by, IsElidingOf, next_past, units_of, with_patch_rooms, AreCounts, AreLeftFor, AreUnits, HasRoomForPatches, IsPlacingOf, IsPlanFor, IsPlanOf, Eliding, Plan, Counts, HaveFacts, added_patches, by_tag, segments_for, segments_of, FitRecord, AreNewUnits, Array, is_spent, IsArrayOf, Prepared, IsPreparedFor}
use Rattle.pur_base.specs.Prelude.{FitsBytes}
use Rattle.unit_map.specs.declared.drive.Drive.{Drive}
use Rattle.unit_map.specs.Prelude.{IsGroups}
use Rattle.free_space.proofs.LawLemmas.{groups_of_the_tables}
use Rattle.table_plan.proofs.ElidedLemmas.{items_are_elided}
use Rattle.table_plan.proofs.PlacesLemmas.{few_flagged}
use Rattle.array_memory.specs.declared.plan.Placing.{Placing}
use Rattle.table_planner.proofs.LastingLemmas.{no_more}
use Rattle.array_memory.proofs.PlanLemmas.{long_map}
use Rattle.record_tables.proofs.Room.{some_groups}

-- ---- numbers

none_of : (a b : Bool) → (a || b) ≡ false → (a ≡ false) × (b ≡ false)
none_of true b e = absurd (cc e)
none_of false b e = (refl, e)

below : (n : ℕ) → is_used_up n ≡ false → n < 2 ^ 48 - 2 ^ 24
below n e = leb-false (2 ^ 48 - 2 ^ 24) n e

-- the numbers that an array counts and gives
pub record AreLow (a : Array) : Type 0 where
  pub generation : a.register.record.generation < 2 ^ 48 - 2 ^ 24
  pub flushed : a.register.record.flushed < 2 ^ 48 - 2 ^ 24
  pub segment : a.memory.memory.next.segment < 2 ^ 48 - 2 ^ 24
  pub patch_segment : a.memory.memory.next.patch_segment < 2 ^ 48 - 2 ^ 24
  pub sequence : a.memory.memory.next.sequence < 2 ^ 48 - 2 ^ 24

pub are_low : (a : Array) → is_spent a ≡ false → AreLow a
are_low a e =
    let r = a.register.record in
    let n = a.memory.memory.next in
    let all = none_of (is_used_up r.generation || is_used_up r.flushed) (are_used_up n) e in
    let one = none_of (is_used_up r.generation) (is_used_up r.flushed) all.0 in
    let five = none_of (is_used_up n.object || is_used_up n.medium || is_used_up n.segment || is_used_up n.patch_segment) (is_used_up n.sequence) all.1 in
    let four = none_of (is_used_up n.object || is_used_up n.medium || is_used_up n.segment) (is_used_up n.patch_segment) five.0 in
    record {
      generation = below r.generation one.0;
      flushed = below r.flushed one.1;
      segment = below n.segment (none_of (is_used_up n.object || is_used_up n.medium) (is_used_up n.segment) four.0).1;
      patch_segment = below n.patch_segment four.1;
      sequence = below n.sequence five.1;
    }

pub left_for_six : (a : Array) → is_spent a ≡ false → AreLeftFor (record a.memory.memory.next { sequence = a.memory.memory.next.sequence + 5120 }) 6
left_for_six a e = let l = are_low a e in let s = l.segment in let q = l.sequence in (omega (arith, s), omega (arith, q))

-- ---- few segments

pub few_segments : (sectors : ℕ) → sectors ≤ 4936 → div_ceil sectors 840 ≤ 6
few_segments sectors few = omega (arith, few)

one_segment : (n : ℕ) → n ≤ 6720 → segments_for n ≤ 1
one_segment n few = omega (arith, few)

five : (f : ℕ → ℕ) (a b c d e : ℕ) → f a ≤ 1 → f b ≤ 1 → f c ≤ 1 → f d ≤ 1 → f e ≤ 1 → sum_by f (a ∷ b ∷ c ∷ d ∷ e ∷ []) ≤ 5
five f a b c d e ha hb hc hd he =
    omega (arith, ha, hb, hc, hd, he, sum_by-cons f a (b ∷ c ∷ d ∷ e ∷ []), sum_by-cons f b (c ∷ d ∷ e ∷ []), sum_by-cons f c (d ∷ e ∷ []), sum_by-cons f d (e ∷ []), sum_by-cons f e [])

pub one_each : (c : Counts) → c.objects ≤ 6720 → c.mediums ≤ 6720 → c.addresses ≤ 6720 → c.segments ≤ 6720 → c.elisions ≤ 6720 → (segments_of c ≤ 5) × FitRecord c
one_each c o m a s e = (
  five segments_for c.objects c.mediums c.addresses c.segments c.elisions (one_segment c.objects o) (one_segment c.mediums m) (one_segment c.addresses a) (one_segment c.segments s) (one_segment c.elisions e),
  (omega (arith, o), (omega (arith, m), (omega (arith, a), (omega (arith, s), (omega (arith, e), tt))))),
)

pub few_placed : (m : Memory) (p : Placing) → IsPlacingOf m p → length m.staged ≤ 4936 → div_ceil (length p.order.items) 840 ≤ 6
few_placed m p of few =
    let long : length p.order.items ≡ length (flagged_from 0 p.flags.items) = ap (λ (l : List ℕ). length l) of.order in
    let less = few_flagged 0 p.flags.items in
    let count = of.count in
    few_segments (length p.order.items) (omega (arith, long, less, count, few))

-- ---- units

-- a plan has as many segments as units
pub segments_long : (p : Plan) (units : List (List Place)) → units_of p ≡ units → length p.segments.items ≡ length units
segments_long p units own = sym (long_map (λ (d : SegmentFact). d.places) p.segments.items) ∙ ap length own

fits_from : (slots units least : ℕ) (ps : List Place) → slots ≤ 24 → units ≤ 4096 → AscendFrom slots units least ps → AllByRecursion FitsBytes ps
fits_from slots units least [] s u h = tt
fits_from slots units least (p ∷ ps) s u h =
    let is = h.1 in
    (record { slot = omega (arith, is.slot, s); unit = omega (arith, is.unit, u) }, fits_from slots units (p.slot + 1) ps s u h.2)

-- a fact may name new units
pub are_units : (boot : BootRecord) (fs : Facts) (units : List (List Place)) → IsBootRecord boot → AreNewUnits boot fs units → AreUnits units
are_units boot fs units lawful new = λ u there.
    let is = of_each (AreUnitsToTake boot fs) units u new.each there in
    (is.lawful.nine, fits_from boot.slots boot.units 0 u lawful.slots.1 lawful.units.1 is.lawful.ascending)

-- taking leaves room for the others
pub room_then : (was now : List Drive) (taken more : ℕ) → ((g : ℕ) → IsGroups was g → 12 ≤ g) → ((g h : ℕ) → IsGroups was g → IsGroups now h → g ≤ h + taken) → taken + more ≤ 12
    → (h : ℕ) → IsGroups now h → more ≤ h
room_then was now taken more many left few h is = let w = some_groups was in let most = many w.0 w.1 in let less = left w.0 h w.1 is in omega (arith, most, less, few)

-- ---- the array's

module _ (shelf : Geometry) (a : Array) (is : IsArrayOf shelf a) where
  pub same_shelf : shelf_of a.register.record ≡ shelf
  same_shelf = λ k. record { slots = is.of_shelf.lawful.slots k; units = is.of_shelf.lawful.units k }

  pub data_segments : (ds : List SegmentFact) → segments (facts a.memory.memory.tables) a.memory.memory.next.segment ≡ ds → AreDataSegments a.register.record ds
  data_segments ds said = record {
    tables = facts a.memory.memory.tables;
    visible = ap (λ (n : ℕ). segments (facts a.memory.memory.tables) n) (sym is.segment_ids) ∙ said;
    sound = subst (λ (s : Geometry). AreSegmentsSound s a.register.record (facts a.memory.memory.tables)) (sym same_shelf) is.segments;
  }

  -- what the map of the record and these segments says
  module _ (ds : List SegmentFact) (said : segments (facts a.memory.memory.tables) a.memory.memory.next.segment ≡ ds) (boot : BootRecord) (own : boot ≡ a.register.record) (map : List Drive)
      (of : (fs : Facts) → segments fs boot.next.segment ≡ ds → IsMapOf boot fs map) where
    of_record : (fs : Facts) → segments fs a.register.record.next.segment ≡ ds → IsMapOf a.register.record fs map
    of_record = subst (λ (b : BootRecord). (fs : Facts) → segments fs b.next.segment ≡ ds → IsMapOf b fs map) own of

    pub map_of_facts : IsMapOf a.register.record (facts a.memory.memory.tables) map
    map_of_facts = of_record (facts a.memory.memory.tables) (ap (λ (n : ℕ). segments (facts a.memory.memory.tables) n) (sym is.segment_ids) ∙ said)

    -- its groups are those that the array has
    pub has_groups : (g : ℕ) → IsGroups map g → HasGroups a.register.record (patches a.memory.memory.tables) g
    has_groups g groups =
        let t = a.memory.memory.tables in
        let n = a.register.record.next.segment in
        let shown = of_record (all_facts (patches t)) (patches_show t n is.room.no_segments is.room.only_objects ∙ ap (λ (i : ℕ). segments (facts t) i) (sym is.segment_ids) ∙ said) in
        (groups_of_the_tables a.register.record (all_facts (patches t)) map g shown).0 groups

    pub many_groups : ((g : ℕ) → HasGroups a.register.record (patches a.memory.memory.tables) g → 12 ≤ g) → (g : ℕ) → IsGroups map g → 12 ≤ g
    many_groups many g groups = many g (has_groups g groups)

  -- the new patches have few facts
  pub few_facts : a.log.count ≤ 64 → (now : Kept) → now ≡ with_patch_rooms a.memory now → (p : Plan) → IsPlanOf now p → length p.segments.items ≤ 6 → (c : Counts) → AreCounts p c → (segments_of c ≤ 5) × FitRecord c
  few_facts logged now rest p plan few c counted =
      let m = now.memory in
      let w = a.memory.memory in
      let e = p.eliding in
      let no = no_more (eliding_by m e) p plan.plan in
      let objects : length m.tables.objects.unflushed ≡ length w.tables.objects.unflushed = ap (λ (k : Kept). length k.memory.tables.objects.unflushed) rest in
      let mediums : length m.tables.mediums.unflushed ≡ length w.tables.mediums.unflushed = ap (λ (k : Kept). length k.memory.tables.mediums.unflushed) rest in
      let addresses : length m.tables.addresses.unflushed ≡ length w.tables.addresses.unflushed = ap (λ (k : Kept). length k.memory.tables.addresses.unflushed) rest in
      let segs : length m.tables.segments.unflushed ≡ 0 = ap (λ (k : Kept). length k.memory.tables.segments.unflushed) rest ∙ ap length is.room.no_segments in
      let elisions : length m.tables.elisions.unflushed ≡ length w.tables.elisions.unflushed = ap (λ (k : Kept). length k.memory.tables.elisions.unflushed) rest in
      let many = (items_are_elided m e.mediums.items e.segments.items e.facts.items plan.eliding.made).1 in
      let mediums_few = plan.eliding.unreached.few in
      let segments_few = plan.eliding.unused.few in
      let taken = is.room.taken in
      let rested = is.rested in
      one_each c
      (omega (arith, counted.objects, no.objects, objects, taken.objects, logged))
      (omega (arith, counted.mediums, no.mediums, mediums, taken.mediums, rested.0, logged))
      (omega (arith, counted.addresses, no.addresses, addresses, taken.addresses, rested.0, logged))
      (omega (arith, counted.segments, no.segments, segs, few))
      (omega (arith, counted.elisions, no.elisions, elisions, taken.elisions, logged, many, mediums_few, segments_few, length-append m.tables.elisions.unflushed e.facts.items))

-- ---- what is prepared

-- the plan, with ids for the segments of its patches
module _ (p q : Plan) (rest : q ≡ record p { next = q.next }) where
  pub same_counts : (c : Counts) → AreCounts p c → AreCounts q c
  same_counts c h = subst (λ (x : Plan). AreCounts x c) (sym rest) (record { objects = h.objects; mediums = h.mediums; addresses = h.addresses; segments = h.segments; elisions = h.elisions })

  pub same_have : HaveFacts p → HaveFacts q
  same_have h = subst (λ (x : Plan). HaveFacts x) (sym rest) (record { objects = h.objects; mediums = h.mediums; addresses = h.addresses; segments = h.segments; elisions = h.elisions })

  pub same_long : length q.segments.items ≡ length p.segments.items
  same_long = ap (λ (x : Plan). length x.segments.items) rest

  pub same_units : units_of q ≡ units_of p
  same_units = ap units_of rest

  same_eliding : q.eliding ≡ p.eliding
  same_eliding = ap (λ (x : Plan). x.eliding) rest

  pub same_plan : (k : Kept) → IsPlanOf k p → IsPlanFor (eliding_by k.memory q.eliding) q → IsPlanOf k q
  same_plan k h plan = record {
    eliding = subst (λ (e : Eliding). IsElidingOf k e) (sym same_eliding) h.eliding;
    keeps = subst (λ (e : Eliding). IsEliding k.memory (eliding_by k.memory e) e.facts.items) (sym same_eliding) h.keeps;
    plan = plan;
    room = subst (λ (n : ℕ). HasRoomForPatches k n) (sym same_long) h.room;
  }

-- all of it, for the array as it is then
pub prepared : (a : Array) (p q : Plan) (c : Counts) (units : List (List Place)) (r : Prepared) → IsPlanOf a.memory p → HaveFacts p → AreCounts p c → FitRecord c → segments_of c ≡ length units
    → AreNewUnits a.register.record (facts a.memory.memory.tables) (units_of p ++ units)
    → q ≡ record p { next = q.next } → q.next ≡ record p.next { patch_segment = p.next.patch_segment + length units } → IsPlanFor (eliding_by a.memory.memory q.eliding) q
    → p.next ≡ next_past (eliding_by a.memory.memory p.eliding).next (length p.segments.items)
    → length p.segments.items ≤ 6 → length units ≤ 5
    → r.plan ≡ q → r.added ≡ added_patches c p.next.patch_segment units → r.tables.patches ≡ by_tag a.register.record.patches r.added → r.tables.next ≡ q.next → r.tables.flushed ≡ a.register.record.flushed + a.log.count
    → IsPreparedFor a r
prepared a p q c units r plan some counted fit wanted free rest next numbered first few_data few_patches own added all named flushed = record {
  plan = subst (λ (x : Plan). IsPlanOf a.memory x) (sym own) (same_plan p q rest a.memory plan numbered);
  some = subst (λ (x : Plan). HaveFacts x) (sym own) (same_have p q rest some);
  counts = c;
  counted = subst (λ (x : Plan). AreCounts x c) (sym own) (same_counts p q rest c counted);
  fit = fit;
  units = units;
  wanted = wanted;
  free = subst (λ (us : List (List Place)). AreNewUnits a.register.record (facts a.memory.memory.tables) (us ++ units)) (sym (ap units_of own ∙ same_units p q rest)) free;
  added = added ∙ ap (λ (n : NextNumbers). added_patches c n.patch_segment units) first;
  patches = all;
  next = named ∙ sym (ap (λ (x : Plan). x.next) own);
  next_is = ap (λ (x : Plan). x.next) own ∙ next ∙ ap (λ (n : NextNumbers). record n { patch_segment = n.patch_segment + length units }) first
      ∙ ap (λ (x : Plan). record (next_past (eliding_by a.memory.memory x.eliding).next (length x.segments.items)) { patch_segment = a.memory.memory.next.patch_segment + length units }) (sym (own ∙ rest));
  flushed = flushed;
  few_data = (let e = ap (λ (x : Plan). length x.segments.items) own in let s = same_long p q rest in omega (arith, e, s, few_data));
  few_patches = few_patches;
}

-- for an array that differs from one in its memory, which differs in room alone
module _ (shelf : Geometry) (a : Array) (is : IsArrayOf shelf a) (spent : is_spent a ≡ false) (logged : a.log.count ≤ 64) (k : Kept) (rest : k ≡ with_patch_rooms a.memory k) where
  module _ (p : Plan) (plan : IsPlanOf k p) (few : length p.segments.items ≤ 6) (next : p.next ≡ next_past (eliding_by a.memory.memory p.eliding).next (length p.segments.items)) (c : Counts) (counted : AreCounts p c) where
    pub fit_counts : (segments_of c ≤ 5) × FitRecord c
    fit_counts = few_facts shelf a is logged k rest p plan few c counted

    pub low_ids : (n : ℕ) → n ≡ segments_of c → p.next.patch_segment + n < 2 ^ 48
    low_ids n e =
        let f = fit_counts.0 in
        let l = (are_low a spent).patch_segment in
        let same : p.next.patch_segment ≡ a.memory.memory.next.patch_segment = ap (λ (x : NextNumbers). x.patch_segment) next in
        omega (arith, f, l, same, e)

    pub room_for_patches : (was now : List Drive) → ((g : ℕ) → IsGroups was g → 12 ≤ g) → ((g h : ℕ) → IsGroups was g → IsGroups now h → g ≤ h + length p.segments.items) → (h : ℕ) → IsGroups now h → segments_of c ≤ h
    room_for_patches was now many left h groups = let f = fit_counts.0 in room_then was now (length p.segments.items) (segments_of c) many left (omega (arith, f, few)) h groups

    pub all_prepared : (q : Plan) (units : List (List Place)) (r : Prepared) → HaveFacts p → segments_of c ≡ length units
        → AreNewUnits a.register.record (facts a.memory.memory.tables) (units_of p ++ units)
        → q ≡ record p { next = q.next } → q.next ≡ record p.next { patch_segment = p.next.patch_segment + length units } → IsPlanFor (eliding_by k.memory q.eliding) q
        → r.plan ≡ q → r.added ≡ added_patches c p.next.patch_segment units → r.tables.patches ≡ by_tag a.register.record.patches r.added → r.tables.next ≡ q.next → r.tables.flushed ≡ a.register.record.flushed + a.log.count
        → IsPreparedFor (record a { memory = k }) r
    all_prepared q units r some wanted free same numbers planned own added all named flushed =
        prepared (record a { memory = k }) p q c units r plan some counted fit_counts.1 wanted
        (subst (λ (fs : Facts). AreNewUnits a.register.record fs (units_of p ++ units)) (sym (ap (λ (x : Kept). facts x.memory.tables) rest)) free)
        same numbers planned
        (next ∙ ap (λ (x : Kept). next_past (eliding_by x.memory p.eliding).next (length p.segments.items)) (sym rest))
        few (let f = fit_counts.0 in omega (arith, f, wanted))
        own added all named flushed
