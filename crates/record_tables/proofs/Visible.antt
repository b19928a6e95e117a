-- The visible segments of memory after a plan: the old ones, and those of the plan.
use Rattle.record_tables.proofs.Prelude.{◌≡◌, ◌⊎◌, ℕ, zero, suc, ◌+◌, ◌-◌, ◌<◌, ◌≤◌, min, List, [], ◌∷◌, ◌++◌, length, refl, sym, ap, ◌∙◌, arith, inl, inr, subst, append_assoc, Option, Some, None, option_and_then, if◌then◌else◌, filter_map, slice_get, Contains, cons_option, range_with_len, cases_lt, Contains-append_cases, filter_map-append, Facts, segment_key, elision_key, never, is_narrower, key_of, id_of, has_key, unless_empty, segment, segments, is_elided, SEGMENT_SECTORS, Place, Table, SegmentFact, says_is, Layers, facts_of, newest_of, AreCovered, later, here, there, id_of_key, newest-append, later_none, facts, Memory, only_newest, no_newest, each_by_recursion, of_each, IsTableFlushed, flushed_within, flushed_says, grows_all, same_some, Plan, after_plan, units_of, IsPlanFor}
use Rattle.pur_base.specs.declared.request.Table.TheVariants as table
use Rattle.pyramid.proofs.CoverLemmas.{cover_put}
use Rattle.pyramid.proofs.ElisionLemmas.{same_ids}
use Rattle.memory_spec.proofs.Created.{not_elided}
use Rattle.table_plan.specs.Prelude.{segments_from}
use Rattle.table_plan.proofs.SegmentsLemmas.{IsNewSegment, is_new_segment}

-- ---- ids, one after another

range_split : (a x y : ℕ) → range_with_len a (x + y) ≡ range_with_len a x ++ range_with_len (a + x) y
range_split a zero y = ap (λ n. range_with_len a n) (let e : 0 + y ≡ y = omega arith in e) ∙ ap (λ n. range_with_len n y) (let e : a ≡ a + 0 = omega arith in e)
range_split a (suc x) y =
    ap (λ n. range_with_len a n) (let e : suc x + y ≡ suc (x + y) = omega arith in e)
    ∙ ap (λ l. a ∷ l) (range_split (a + 1) x y ∙ ap (λ n. range_with_len (a + 1) x ++ range_with_len n y) (let e : a + 1 + x ≡ a + suc x = omega arith in e))

pub same_below : {X : Type 0} (f g : ℕ → Option X) (a n : ℕ) → ((i : ℕ) → a ≤ i → i < a + n → f i ≡ g i) → filter_map f (range_with_len a n) ≡ filter_map g (range_with_len a n)
same_below f g a zero h = refl
same_below f g a (suc n) h =
    ap (λ o. cons_option o (filter_map f (range_with_len (a + 1) n))) (h a (omega arith) (omega arith))
    ∙ ap (λ l. cons_option (g a) l) (same_below f g (a + 1) n (λ i low high. h i (omega (arith, low)) (omega (arith, high))))

-- new segments, each of which is found under its id
all_found : (f : ℕ → Option SegmentFact) (first number sectors : ℕ) (units : List (List Place)) → ((d : SegmentFact) → Contains (segments_from first number sectors units) d → f d.segment.0 ≡ Some d)
    → filter_map f (range_with_len first (length (segments_from first number sectors units))) ≡ segments_from first number sectors units
all_found f first number sectors [] h = refl
all_found f first number sectors (u ∷ units) h =
    let d : SegmentFact = record { segment = record { 0 = first }; places = u; placed = min sectors SEGMENT_SECTORS; seq = record { 0 = number } } in
    let rest : List SegmentFact = segments_from (first + 1) (number + 1) (sectors - min sectors SEGMENT_SECTORS) units in
    ap (λ o. cons_option o (filter_map f (range_with_len (first + 1) (length rest)))) (h d (here d rest))
    ∙ ap (λ l. d ∷ l) (all_found f (first + 1) (number + 1) (sectors - min sectors SEGMENT_SECTORS) units (λ e c. h e (there d e rest c)))

-- ---- after the plan

module _ (m : Memory) (p : Plan) (h : IsPlanFor m p) where
  abbrev Old : Facts
  Old = facts m.tables

  abbrev New : Facts
  New = facts (after_plan m p).tables

  abbrev Added : List SegmentFact
  Added = p.segments.items

  abbrev Number : SegmentFact → ℕ
  Number d = d.seq.0

  -- no more ids are elided, and no fewer
  flush_elisions : IsTableFlushed elision_key (λ f. f.seq.0) m.tables.elisions (after_plan m p).tables.elisions
  flush_elisions = record { patch = p.elisions; made = h.elisions; patches = refl; unflushed = refl }

  elided_same : (t : Table) (id : ℕ) → is_elided New.elisions t id ≡ is_elided Old.elisions t id
  elided_same t id = same_ids Old.elisions New.elisions covered (flushed_within elision_key (λ f. f.seq.0) m.tables.elisions (after_plan m p).tables.elisions flush_elisions) t id
    where
      covered : AreCovered is_narrower Old.elisions New.elisions
      covered = cover_put elision_key (λ f. f.seq.0) is_narrower m.tables.elisions.patches m.tables.elisions.unflushed p.elisions h.elisions (grows_all Old.elisions h.sound.elisions)

  -- the segments before they are flushed
  abbrev With : Layers SegmentFact
  With = record m.tables.segments { unflushed = m.tables.segments.unflushed ++ Added }

  flush_segments : IsTableFlushed segment_key Number With (after_plan m p).tables.segments
  flush_segments = record { patch = p.segment_facts; made = h.segment_facts; patches = refl; unflushed = refl }

  -- what is said of a segment, by its newest fact
  abbrev Said : ℕ → Option SegmentFact → Option SegmentFact
  Said k o = if is_elided Old.elisions table.Segment (id_of k) then None else option_and_then (unless_empty never) o

  said : (id : ℕ) → segment New id ≡ Said (key_of id 0) (later Number (newest_of segment_key Number (key_of id 0) Old.segments) (newest_of segment_key Number (key_of id 0) Added))
  said id =
      let k = key_of id 0 in
      flushed_says segment_key Number With (after_plan m p).tables.segments flush_segments never (is_elided Old.elisions table.Segment) (is_elided New.elisions table.Segment) (elided_same table.Segment) k
      ∙ ap (λ l. Said k (newest_of segment_key Number k l)) (sym (append_assoc (facts_of m.tables.segments.patches) m.tables.segments.unflushed Added))
      ∙ ap (λ o. Said k o) (newest-append Number (has_key segment_key k) Old.segments Added)

  old_id : (d : SegmentFact) → Contains Old.segments d → d.segment.0 < m.next.segment
  old_id d c = of_each (λ (f : SegmentFact). f.segment.0 < m.next.segment) Old.segments d h.sound.ids.segments c

  abbrev Order : ℕ
  Order = length p.placing.order.items

  is_new : (d : SegmentFact) → Contains Added d → IsNewSegment m.next.segment m.next.sequence Order (units_of p) d
  is_new d c = is_new_segment m.next.segment m.next.sequence Order (units_of p) d (subst (λ l. Contains l d) h.segments c)

  new_id : (d : SegmentFact) → Contains Added d → m.next.segment ≤ d.segment.0
  new_id d c = let i = (is_new d c).id in omega (arith, i)

  one_id : (d e : SegmentFact) → Contains Added d → Contains Added e → d.segment.0 ≡ e.segment.0 → d ≡ e
  one_id d e c f same =
      let v = is_new d c in
      let w = is_new e f in
      let a = v.id in
      let b = w.id in
      let at : v.at ≡ w.at = omega (arith, a, b, same) in
      let all : List SegmentFact = segments_from m.next.segment m.next.sequence Order (units_of p) in
      same_some (slice_get all w.at) (subst (λ k. slice_get all k ≡ Some d) at v.same) w.same

  -- an id that was given says what it did
  kept : (id : ℕ) → id < m.next.segment → segment New id ≡ segment Old id
  kept id low =
      let k = key_of id 0 in
      said id ∙ ap (λ o. Said k o)
      (ap (λ o. later Number (newest_of segment_key Number k Old.segments) o)
      (no_newest segment_key Number Added k (λ f c e. let high = new_id f c in let own : key_of f.segment.0 0 ≡ key_of id 0 = e in omega (arith, high, own, low)))
      ∙ later_none Number (newest_of segment_key Number k Old.segments))

  -- a new segment is visible
  found : (d : SegmentFact) → Contains Added d → segment New d.segment.0 ≡ Some d
  found d c =
      let k = key_of d.segment.0 0 in
      let high = new_id d c in
      let none = no_newest segment_key Number Old.segments k (λ f i e. let low = old_id f i in let own : key_of f.segment.0 0 ≡ key_of d.segment.0 0 = e in omega (arith, high, own, low)) in
      let only = only_newest segment_key Number Added k d c refl (λ f i e. let own : key_of f.segment.0 0 ≡ key_of d.segment.0 0 = e in one_id f d i c (omega (arith, own))) in
      let id : id_of (key_of d.segment.0 0) ≡ d.segment.0 = id_of_key d.segment.0 0 (omega arith) in
      said d.segment.0
      ∙ ap (λ o. Said k (later Number o (newest_of segment_key Number k Added))) none
      ∙ ap (λ o. Said k o) only
      ∙ ap (λ b. if b then None else Some d) (ap (λ i. is_elided Old.elisions table.Segment i) id ∙ not_elided m.next Old table.Segment d.segment.0 h.sound.ids high)

  -- a visible segment is an old one or a new one
  pub old_or_new : (id : ℕ) (d : SegmentFact) → segment New id ≡ Some d → (segment Old id ≡ Some d) ⊎ Contains Added d
  old_or_new id d e = elim (cases_lt id m.next.segment) [
    | inl low ↦ inl (sym (kept id low) ∙ e)
    | inr high ↦
        let is = says_is segment_key Number never (λ f. Contains New.segments f) New.segments (is_elided New.elisions table.Segment) (key_of id 0) d (each_by_recursion (λ f. Contains New.segments f) New.segments (λ f c. c)) e in
        let own : key_of d.segment.0 0 ≡ key_of id 0 = is.1 in
        let there = flushed_within segment_key Number With (after_plan m p).tables.segments flush_segments d is.0 in
        elim (Contains-append_cases Old.segments Added d (subst (λ l. Contains l d) (sym (append_assoc (facts_of m.tables.segments.patches) m.tables.segments.unflushed Added)) there)) [
          | inl old ↦ (let low = old_id d old in absurd (omega (arith, low, own, high)))
          | inr new ↦ inr new
        ]
  ]

  -- so these are all
  pub visible : segments New (m.next.segment + length Added) ≡ segments Old m.next.segment ++ Added
  visible =
      let first = m.next.segment in
      let none : 0 + first ≡ first = omega arith in
      ap (λ l. filter_map (segment New) l) (range_split 0 first (length Added))
      ∙ filter_map-append (segment New) (range_with_len 0 first) (range_with_len (0 + first) (length Added))
      ∙ ap (λ l. l ++ filter_map (segment New) (range_with_len (0 + first) (length Added))) (same_below (segment New) (segment Old) 0 first (λ i low high. kept i (omega (arith, high))))
      ∙ ap (λ n. segments Old first ++ filter_map (segment New) (range_with_len n (length Added))) none
      ∙ ap (λ l. segments Old first ++ l) (subst (λ l. filter_map (segment New) (range_with_len first (length l)) ≡ l) (sym h.segments)
      (all_found (segment New) first m.next.sequence Order (units_of p) (λ d c. found d (subst (λ l. Contains l d) (sym h.segments) c))))
