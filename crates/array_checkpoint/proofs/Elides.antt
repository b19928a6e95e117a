-- What a checkpoint elides, told of the patches before it and behind it.
use Rattle.array_checkpoint.proofs.Prelude.{◌≡◌, ◌⊎◌, ◌↔◌, ℕ, ◌<◌, ◌≤◌, Bool, false, List, [], length, refl, sym, ◌∙◌, inl, inr, subst, arith, Some, None, IsSome, IsTrue, Contains, All, both_ways, cases_Bool, object, same_elisions, same_segment, Facts, segment, SegmentFact, all_facts, patch_facts, IsSound, Memory, facts, patches, patches_are_all, some_since, ElidesUnnamed, ElidesUnreached, IsUnnamed, of_object, of_range, said_before, same_objects, object_key, medium_key, is_empty_range, id_of, id_of_key, address, range, Location, Stored, ObjectFact, MediumFact, not_both, says_where, IsPlanned, IsUnused, Plan, ElidingLeaves, HasElided, Kept, eliding_by, after_plan, units_of, IsPlanOf, IsSameMemory}
use Rattle.pur_base.specs.declared.request.Table.TheVariants as table
use Rattle.memory_spec.specs.Prelude.{segment_key, never, key_of, is_elided, Table}
use Rattle.memory_spec.specs.Eliding.{IsReached}
use Rattle.session_spec.specs.declared.limits.TheConstants.{ELIDED_SEGMENTS}
use Rattle.array_checkpoint.proofs.After.{elided_then, is_planned, nothing, whole_then}
use Rattle.array_checkpoint.proofs.ElidedSegments.{gone_where}
use Rattle.array_checkpoint.proofs.Said.{planned_object, planned_range, planned_segment, planned_stored, some_segment_id}

-- objects and ranges that are said by other facts too lead to the same mediums
reached_by : (old new : Facts) (next : ℕ) → ((id : ℕ) → object new id ≡ object old id) → ((m start : ℕ) (r : MediumFact) → range old m start ≡ Some r → range new m start ≡ Some r) → (id : ℕ) → IsReached old next id → IsReached new next id
reached_by old new next same more id (of_object {x = x} c) = of_object (subst (λ l. Contains l x) (sym (same_objects old new same next)) c)
reached_by old new next same more id (of_range {medium = m} {r = r} c there) = of_range (reached_by old new next same more m c) (more m r.start r there)

module _ (leaves : ElidingLeaves) (k : Kept) (p : Plan) (of : IsPlanOf k p) (s : IsSound k.memory) (n : Memory) (same : IsSameMemory (after_plan k.memory p) n) where
  abbrev m : Memory
  m = k.memory

  -- memory once they are elided
  abbrev Then : Memory
  Then = eliding_by m p.eliding

  abbrev Mediums : List ℕ
  Mediums = p.eliding.mediums.items

  abbrev Ids : List ℕ
  Ids = p.eliding.segments.items

  is : IsPlanned Then n p.placing.flags.items (patch_facts p.placing.newest) (units_of p)
  is = is_planned m p of.keeps of.plan n same

  left : HasElided m Then Mediums Ids
  left = (leaves k p.eliding s of.eliding).0

  -- an id is elided where it was to be
  same_elided : (t : Table) (id : ℕ) → is_elided (facts n.tables).elisions t id ≡ is_elided (facts Then.tables).elisions t id
  same_elided = elided_then m p of.keeps of.plan n same

  elided_by : (t : Table) (P : ℕ → Type 0) → ((id : ℕ) → IsTrue (is_elided (facts Then.tables).elisions t id) ↔ P id) → (id : ℕ) → IsTrue (is_elided (facts n.tables).elisions t id) ↔ P id
  elided_by t P so id = subst (λ (b : Bool). IsTrue b ↔ P id) (sym (same_elided t id)) (so id)

  -- ---- mediums

  object_then : (id : ℕ) → object (facts n.tables) id ≡ object (facts Then.tables) id
  object_then id = planned_object nothing Then n p.placing.flags.items (patch_facts p.placing.newest) (units_of p) of.plan.sound of.plan.stored is id

  range_then : (medium start : ℕ) → range (facts n.tables) medium start ≡ range (facts Then.tables) medium start
  range_then medium start = planned_range nothing Then n p.placing.flags.items (patch_facts p.placing.newest) (units_of p) of.plan.sound of.plan.stored is medium start

  -- what is reached behind it was reached before
  reached_then : (id : ℕ) → IsReached (facts Then.tables) m.next.object id → IsReached (facts n.tables) m.next.object id
  reached_then id c = reached_by (facts Then.tables) (facts n.tables) m.next.object object_then (λ medium start r there. range_then medium start ∙ there) id c

  reached_before : (id : ℕ) → IsReached (facts n.tables) m.next.object id → IsReached (facts m.tables) m.next.object id
  reached_before id c = reached_by (facts n.tables) (facts m.tables) m.next.object
      (λ i. sym (object_then i ∙ says_where object_key (λ (f : ObjectFact). f.seq.0) never (facts m.tables).objects (is_elided (facts m.tables).elisions table.Object) (is_elided (facts Then.tables).elisions table.Object) (key_of i 0) (left.too.objects (id_of (key_of i 0)))))
      (λ medium start r there. said_before medium_key (λ (f : MediumFact). f.seq.0) is_empty_range (facts m.tables).mediums (is_elided (facts m.tables).elisions table.Medium) (is_elided (facts Then.tables).elisions table.Medium) (key_of medium start) r
      (not_elided_before (id_of (key_of medium start))) (sym (range_then medium start) ∙ there)) id c
    where
      not_elided_before : (i : ℕ) → is_elided (facts Then.tables).elisions table.Medium i ≡ false → is_elided (facts m.tables).elisions table.Medium i ≡ false
      not_elided_before i whole = elim (cases_Bool (is_elided (facts m.tables).elisions table.Medium i)) [
        | inl old ↦ absurd (both_ways (is_elided (facts Then.tables).elisions table.Medium i) whole ((left.too.mediums i).1 (inl old)))
        | inr none ↦ none
      ]

  mediums_elided : ElidesUnreached (facts m.tables) (facts n.tables) m.next Mediums
  mediums_elided = record {
    ascending = of.eliding.unreached.ascending;
    few = of.eliding.unreached.few;
    unreached = λ id c r. (of.eliding.unreached.each id c).3 (reached_before id r);
    ranges = elided_by table.Medium _ left.too.mediums;
    addresses = elided_by table.Address _ left.too.addresses;
    lowest = λ id some low whole out. left.mediums_left id some low (sym (same_elided table.Medium id) ∙ whole) (λ r. out (reached_then id r));
  }

  -- ---- segments

  gone : (id : ℕ) → Contains Ids id → segment (facts n.tables) id ≡ None
  gone id c = gone_where (facts n.tables) id (same_elided table.Segment id ∙ (left.too.segments id).1 (inr c))

  alike : (id : ℕ) → ¬ (Contains Ids id) → is_elided (facts Then.tables).elisions table.Segment id ≡ is_elided (facts m.tables).elisions table.Segment id
  alike id out = elim (cases_Bool (is_elided (facts Then.tables).elisions table.Segment id)) [
    | inl is ↦ elim ((left.too.segments id).0 is) [ inl old ↦ is ∙ sym old | inr c ↦ absurd (out c) ]
    | inr whole ↦ elim (cases_Bool (is_elided (facts m.tables).elisions table.Segment id)) [
      | inl old ↦ absurd (both_ways (is_elided (facts Then.tables).elisions table.Segment id) whole ((left.too.segments id).1 (inl old)))
      | inr none ↦ whole ∙ sym none
    ]
  ]

  others : (id : ℕ) → id < m.next.segment → ¬ (Contains Ids id) → segment (facts n.tables) id ≡ segment (facts m.tables) id
  others id low out =
      planned_segment nothing Then n p.placing.flags.items (patch_facts p.placing.newest) (units_of p) of.plan.sound of.plan.stored is id low
      ∙ says_where segment_key (λ (f : SegmentFact). f.seq.0) never (facts m.tables).segments (is_elided (facts m.tables).elisions table.Segment) (is_elided (facts Then.tables).elisions table.Segment) (key_of id 0)
      (subst (λ i. is_elided (facts Then.tables).elisions table.Segment i ≡ is_elided (facts m.tables).elisions table.Segment i) (sym (id_of_key id 0 (omega arith))) (alike id out))

  -- what a visible address named, one names still
  still_named : (medium sector : ℕ) (at : Location) → 1 ≤ at.segment.0 → address (facts Then.tables) medium sector ≡ Some (Stored at) → address (facts n.tables) medium sector ≡ Some (Stored at)
  still_named medium sector at some said =
      planned_stored nothing Then n p.placing.flags.items (patch_facts p.placing.newest) (units_of p) of.plan.sound of.plan.stored is medium sector at some said

  lowest : (id : ℕ) (d : SegmentFact) → id < m.next.segment → segment (facts n.tables) id ≡ Some d → IsUnnamed (facts n.tables) id → (length Ids ≡ ELIDED_SEGMENTS) × ((i : ℕ) → Contains Ids i → i < id)
  lowest id d low seen none =
      let out : ¬ (Contains Ids id) = λ c. not_both (segment (facts n.tables) id) seen (gone id c) in
      let there : segment (facts m.tables) id ≡ Some d = sym (others id low out) ∙ seen in
      let unused : IsUnused (facts m.tables) (facts Then.tables) id = record {
        fact = d;
        visible = there;
        unnamed = λ medium sector at said is. none medium sector at (still_named medium sector at (subst (λ i. 1 ≤ i) (sym is) (some_segment_id m s id d there)) said) is;
      } in
      elim (of.eliding.unused.others id unused) [ inl c ↦ absurd (out c) | inr behind ↦ behind ]

  segments_elided : ElidesUnnamed (facts m.tables) (facts n.tables) m.next.segment Ids
  segments_elided = record {
    ascending = of.eliding.unused.ascending;
    few = of.eliding.unused.few;
    visible = λ id c. let u = of.eliding.unused.each id c in subst (λ o. IsSome o) (sym u.visible) refl;
    gone = gone;
    others = others;
    lowest = λ id low some none. let w = some_since (segment (facts n.tables) id) some in lowest id w.0 low w.1 none;
  }

  -- ---- of patches

  -- no segments were beside the patches, and of elisions those of objects alone, and nothing is behind it
  module _ (no_segments : m.tables.segments.unflushed ≡ []) (only_objects : All (λ e. e.table ≡ table.Object) m.tables.elisions.unflushed) where
    abbrev Old : Facts
    Old = all_facts (patches m.tables)

    behind : all_facts (patches n.tables) ≡ facts n.tables
    behind = patches_are_all n (whole_then m p of.keeps of.plan n same)

    pub patches_elided : ElidesUnnamed Old (all_facts (patches n.tables)) m.next.segment Ids
    patches_elided =
        let before = same_segment m.tables no_segments only_objects in
        subst (λ (f : Facts). ElidesUnnamed Old f m.next.segment Ids) (sym behind) (record {
          ascending = segments_elided.ascending;
          few = segments_elided.few;
          visible = λ id c. subst (λ o. IsSome o) (sym (before id)) (segments_elided.visible id c);
          gone = gone;
          others = λ id low out. others id low out ∙ sym (before id);
          lowest = segments_elided.lowest;
        })

    pub patches_unreached : ElidesUnreached Old (all_facts (patches n.tables)) m.next Mediums
    patches_unreached =
        let ranges = same_elisions m.tables only_objects table.Medium (λ e. cc) in
        let addresses = same_elisions m.tables only_objects table.Address (λ e. cc) in
        subst (λ (f : Facts). ElidesUnreached Old f m.next Mediums) (sym behind) (record {
          ascending = mediums_elided.ascending;
          few = mediums_elided.few;
          unreached = mediums_elided.unreached;
          ranges = λ id. subst (λ (b : Bool). IsTrue (is_elided (facts n.tables).elisions table.Medium id) ↔ (IsTrue b ⊎ Contains Mediums id)) (sym (ranges id)) (mediums_elided.ranges id);
          addresses = λ id. subst (λ (b : Bool). IsTrue (is_elided (facts n.tables).elisions table.Address id) ↔ (IsTrue b ⊎ Contains Mediums id)) (sym (addresses id)) (mediums_elided.addresses id);
          lowest = mediums_elided.lowest;
        })
