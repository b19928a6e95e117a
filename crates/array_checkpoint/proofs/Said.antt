-- What facts say once a plan was made of memory: of segments that were there, of new ones, and of addresses.
use Rattle.array_checkpoint.proofs.Prelude.{◌≡◌, ℕ, zero, suc, ◌+◌, ◌<◌, ◌≤◌, Bool, true, false, List, [], ◌∷◌, length, refl, ap, ◌∙◌, arith, inl, inr, Option, Some, None, slice_index_or, Contains, option_map, option_and_then, if◌then◌else◌, eqb-true, and_parts, or_cases, id_of, unless_empty, range, address, Location, Target, Stored, Zero, IsFact, AreDistinct, here, there, id_of_key, all_segments, no_newest, only_newest, placed_target, IsPlacing, IsShrunk, flush_shrinks, object, newest_given, newest_kept, other_target, placing_sound, flagged_from, is_named, places_from, AreStored, IsPlanned, is_staged_at}
use Rattle.memory_spec.specs.Prelude.{segment_key, never, key_of, segment, is_elided, Place, AddressFact, SegmentFact, says_is, facts_of, facts, Memory, Contents, IsSound, each_by_recursion}
use Rattle.pur_base.specs.declared.request.Table.TheVariants as table
use Rattle.pur_base.specs.declared.facts.AnyFact.TheVariants as any
use Rattle.memory_spec.proofs.Created.{not_elided}
use Rattle.memory_spec.proofs.Putting.{address_numbers}
use Rattle.memory_spec.proofs.Repointed.{address_placed}
use Rattle.table_plan.specs.Prelude.{place_of}
use Rattle.table_plan.proofs.Planned.{Added, Contents2, Place_of, Placed, flush, placing}

-- ---- staged sectors

-- one that is named has a fact that names it
pub names_one : (newest : List AddressFact) (index : ℕ) → is_named newest index ≡ true → (g : AddressFact) × Contains newest g × ((at : Location) × (g.target ≡ Stored at) × (at.segment.0 ≡ 0) × (at.index ≡ index))
names_one [] index e = cc
names_one (g ∷ gs) index e = elim (or_cases (is_staged_at index g.target) (is_named gs index) e) [
  | inl one ↦ (g, here g gs, staged g.target refl one)
  | inr rest ↦ (let w = names_one gs index rest in (w.0, there g w.0 gs w.1, w.2))
]
  where
    staged : (t : Target) → g.target ≡ t → is_staged_at index t ≡ true → (at : Location) × (g.target ≡ Stored at) × (at.segment.0 ≡ 0) × (at.index ≡ index)
    staged (Stored at) is e = let p = and_parts _ _ e in (at, is, eqb-true at.segment.0 0 p.0, eqb-true at.index index p.1)
    staged Zero is e = cc

-- each place in their order is that of a flagged index
pub flagged_at : (first n j : ℕ) (flags : List Bool) (k : ℕ) → k < length (flagged_from j flags)
    → (i : ℕ) × (i < length flags) × (slice_index_or flags i false ≡ true) × (slice_index_or (places_from first n flags) i None ≡ Some (place_of first (n + k)))
flagged_at first n j [] k l = absurd (omega (arith, l))
flagged_at first n j (true ∷ flags) zero l = (0, omega arith, refl, ap (λ m. Some (place_of first m)) (omega arith))
flagged_at first n j (true ∷ flags) (suc k) l =
    let w = flagged_at first (n + 1) (j + 1) flags k (omega (arith, l)) in
    let within = w.1 in
    (suc w.0, omega (arith, within), w.2, w.3 ∙ ap (λ m. Some (place_of first m)) (omega arith))
flagged_at first n j (false ∷ flags) k l =
    let w = flagged_at first n (j + 1) flags k l in
    let within = w.1 in
    (suc w.0, omega (arith, within), w.2, w.3)

-- ---- elided segments

-- the id of a visible segment isn't that of staged sectors
pub some_segment_id : (m : Memory) → IsSound m → (id : ℕ) (d : SegmentFact) → segment (facts m.tables) id ≡ Some d → 1 ≤ id
some_segment_id m s id d is =
    let w = says_is segment_key (λ (f : SegmentFact). f.seq.0) never (λ f. Contains (facts m.tables).segments f) (facts m.tables).segments (is_elided (facts m.tables).elisions table.Segment) (key_of id 0) d
    (each_by_recursion (λ f. Contains (facts m.tables).segments f) (facts m.tables).segments (λ f c. c)) is in
    let fact : IsFact (any.Segment d) = s.fit (any.Segment d) (all_segments (facts m.tables) d w.0) in
    let first = fact.lawful.id.0 in
    let key : key_of d.segment.0 0 ≡ key_of id 0 = w.1 in
    omega (arith, first, key)

-- ---- the plan

module _ (contents : Contents) (was now : Memory) (flags : List Bool) (newest : List AddressFact) (units : List (List Place)) (s : IsSound was) (stored : AreStored (facts_of was.tables.addresses.patches))
    (h : IsPlanned was now flags newest units) where
  abbrev New : List SegmentFact
  New = Added contents was now flags newest units s stored h

  abbrev Then : Memory
  Then = Placed contents was now flags newest units s stored h

  abbrev PlaceOf : ℕ → Location
  PlaceOf = Place_of contents was now flags newest units s stored h

  abbrev placed : IsPlacing contents (Contents2 contents was now flags newest units s stored h) was Then PlaceOf New
  placed = placing contents was now flags newest units s stored h

  shrunk : IsShrunk Then now
  shrunk = flush_shrinks Then now (placing_sound contents (Contents2 contents was now flags newest units s stored h) was Then PlaceOf New s placed) (flush contents was now flags newest units s stored h)

  same_fact : (d e : SegmentFact) → any.Segment d ≡ any.Segment e → d ≡ e
  same_fact d e i = cc

  older : (d e : SegmentFact) → Contains (facts was.tables).segments d → Contains New e → d.seq.0 < e.seq.0
  older d e c i = let a = s.numbers.below (any.Segment d) (all_segments (facts was.tables) d c) in let b = (placed.new_segments.numbers e i).0 in omega (arith, a, b)

  distinct : AreDistinct (λ (d : SegmentFact). d.seq.0) (facts was.tables).segments
  distinct d e c i n = same_fact d e (s.numbers.distinct (any.Segment d) (any.Segment e) (all_segments (facts was.tables) d c) (all_segments (facts was.tables) e i) n)

  -- what is said of a segment, by its newest fact
  abbrev Said : ℕ → Option SegmentFact → Option SegmentFact
  Said id o = if is_elided (facts was.tables).elisions table.Segment (id_of (key_of id 0)) then None else option_and_then (unless_empty never) o

  -- segments whose ids were given are as they were
  pub planned_segment : (id : ℕ) → id < was.next.segment → segment (facts now.tables) id ≡ segment (facts was.tables) id
  planned_segment id low =
      let none = no_newest segment_key (λ (f : SegmentFact). f.seq.0) New (key_of id 0) (λ f c i.
      let own : key_of f.segment.0 0 ≡ key_of id 0 = i in
      let high = (placed.new_segments.ids f c).0 in
      omega (arith, own, low, high)) in
      shrunk.facts.same_segments id
      ∙ ap (λ o. Said id o)
      (newest_kept segment_key (λ (f : SegmentFact). f.seq.0) (facts was.tables).segments (facts Then.tables).segments New placed.segments older distinct placed.new_segments.one_number (key_of id 0) none)

  -- the new ones are visible
  pub planned_new : (d : SegmentFact) → Contains New d → segment (facts now.tables) d.segment.0 ≡ Some d
  planned_new d c =
      let only = only_newest segment_key (λ (f : SegmentFact). f.seq.0) New (key_of d.segment.0 0) d c refl (λ f i k.
      let key : key_of f.segment.0 0 ≡ key_of d.segment.0 0 = k in
      placed.new_segments.one_id f d i c (omega (arith, key))) in
      shrunk.facts.same_segments d.segment.0
      ∙ ap (λ o. Said d.segment.0 o)
      (newest_given segment_key (λ (f : SegmentFact). f.seq.0) (facts was.tables).segments (facts Then.tables).segments New placed.segments older distinct placed.new_segments.one_number (key_of d.segment.0 0) d only)
      ∙ ap (λ b. if b then None else Some d)
      (ap (λ i. is_elided (facts was.tables).elisions table.Segment i) (id_of_key d.segment.0 0 (omega arith))
      ∙ not_elided was.next (facts was.tables) table.Segment d.segment.0 s.ids (placed.new_segments.ids d c).0)

  -- objects and ranges of mediums are as they were
  pub planned_object : (id : ℕ) → object (facts now.tables) id ≡ object (facts was.tables) id
  planned_object id = shrunk.facts.same.objects id

  pub planned_range : (medium start : ℕ) → range (facts now.tables) medium start ≡ range (facts was.tables) medium start
  planned_range medium start = shrunk.facts.same.ranges medium start

  -- an address of a sector in a segment is as it was
  pub planned_stored : (medium sector : ℕ) (at : Location) → 1 ≤ at.segment.0 → address (facts was.tables) medium sector ≡ Some (Stored at) → address (facts now.tables) medium sector ≡ Some (Stored at)
  planned_stored medium sector at some said =
      shrunk.facts.same.addresses medium sector ∙ address_placed PlaceOf (facts was.tables) (facts Then.tables) placed.addresses (address_numbers was s) placed.elisions medium sector
      ∙ ap (λ o. option_map (placed_target PlaceOf) o) said ∙ ap (λ t. Some t) (other_target PlaceOf at some)
