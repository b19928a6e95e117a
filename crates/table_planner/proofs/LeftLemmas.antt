-- What a checkpoint elides, and what it leaves to the next one.
use Rattle.table_planner.proofs.Prelude.{◌≡◌, ℕ, ◌+◌, ◌*◌, ◌^◌, ◌<◌, ◌≤◌, true, false, length, refl, sym, ◌∙◌, arith, inl, inr, subst, Some, None, Contains, both_ways, cases_Bool, false_from_ne_true, medium_key, object_key, segment_key, never, is_empty_range, key_of, id_of, id_of_key, objects, segment, is_elided, SegmentFact, IsFact, says_where, not_both, Memory, IsSound, facts, all_mediums, range_is, IsReached, of_object, of_range, said_before, same_objects, IsUnused, AreElidedToo, ELIDED_MEDIUMS, ELIDED_SEGMENTS, eliding_by, ElidingLeaves, HasElided, IsElidingOf, Kept, Eliding}
use Rattle.pur_base.specs.declared.request.Table.TheVariants as table
use Rattle.pur_base.specs.declared.facts.AnyFact.TheVariants as any
use Rattle.table_plan.proofs.ElidedLemmas.{items_are_elided}

module _ (k : Kept) (e : Eliding) (s : IsSound k.memory) (h : IsElidingOf k e) where
  abbrev Was : Memory
  Was = k.memory

  abbrev Now : Memory
  Now = eliding_by k.memory e

  all : AreElidedToo (facts Was.tables) (facts Now.tables) e.mediums.items e.segments.items × (length e.facts.items ≡ 2 * length e.mediums.items + length e.segments.items)
  all = items_are_elided k.memory e.mediums.items e.segments.items e.facts.items h.made

  too : AreElidedToo (facts Was.tables) (facts Now.tables) e.mediums.items e.segments.items
  too = all.0

  -- what is not elided then was not before
  medium_before : (id : ℕ) → is_elided (facts Now.tables).elisions table.Medium id ≡ false → is_elided (facts Was.tables).elisions table.Medium id ≡ false
  medium_before id whole = false_from_ne_true (is_elided (facts Was.tables).elisions table.Medium id) (λ is. both_ways (is_elided (facts Now.tables).elisions table.Medium id) whole ((too.mediums id).1 (inl is)))

  segment_before : (id : ℕ) → is_elided (facts Now.tables).elisions table.Segment id ≡ false → is_elided (facts Was.tables).elisions table.Segment id ≡ false
  segment_before id whole = false_from_ne_true (is_elided (facts Was.tables).elisions table.Segment id) (λ is. both_ways (is_elided (facts Now.tables).elisions table.Segment id) whole ((too.segments id).1 (inl is)))

  -- a medium that was reached is elided where it was
  reached_elided : (id : ℕ) → IsReached (facts Was.tables) Was.next.object id → is_elided (facts Now.tables).elisions table.Medium id ≡ is_elided (facts Was.tables).elisions table.Medium id
  reached_elided id reached = elim (cases_Bool (is_elided (facts Now.tables).elisions table.Medium id)) [
    | inl is ↦ elim ((too.mediums id).0 is) [ inl old ↦ is ∙ sym old | inr c ↦ absurd ((h.unreached.each id c).3 reached) ]
    | inr whole ↦ whole ∙ sym (medium_before id whole)
  ]

  visible : objects (facts Now.tables) Was.next.object ≡ objects (facts Was.tables) Was.next.object
  visible = same_objects (facts Was.tables) (facts Now.tables)
      (λ id. says_where object_key (λ f. f.seq.0) never (facts Was.tables).objects (is_elided (facts Was.tables).elisions table.Object) (is_elided (facts Now.tables).elisions table.Object) (key_of id 0) (too.objects (id_of (key_of id 0))))
      Was.next.object

  -- what was reached still is
  reached_still : (id : ℕ) → IsReached (facts Was.tables) Was.next.object id → IsReached (facts Now.tables) Was.next.object id
  reached_still id (of_object {x = x} c) = of_object (subst (λ l. Contains l x) (sym visible) c)
  reached_still id (of_range {medium = m} {r = r} c there) =
      let w = range_is (facts Was.tables) m r.start r there in
      let fact : IsFact (any.Medium r) = s.fit (any.Medium r) (all_mediums (facts Was.tables) r w.0) in
      let small : r.start < 2 ^ 64 = fact.fits in
      let same : is_elided (facts Now.tables).elisions table.Medium (id_of (key_of m r.start)) ≡ is_elided (facts Was.tables).elisions table.Medium (id_of (key_of m r.start)) =
      subst (λ i. is_elided (facts Now.tables).elisions table.Medium i ≡ is_elided (facts Was.tables).elisions table.Medium i) (sym (id_of_key m r.start small)) (reached_elided m c) in
      of_range (reached_still m c)
      (says_where medium_key (λ f. f.seq.0) is_empty_range (facts Was.tables).mediums (is_elided (facts Was.tables).elisions table.Medium) (is_elided (facts Now.tables).elisions table.Medium) (key_of m r.start) same ∙ there)

  mediums_left : (id : ℕ) → 1 ≤ id → id < Was.next.medium → is_elided (facts Now.tables).elisions table.Medium id ≡ false → ¬ (IsReached (facts Now.tables) Was.next.object id)
      → (length e.mediums.items ≡ ELIDED_MEDIUMS) × ((i : ℕ) → Contains e.mediums.items i → i < id)
  mediums_left id some low whole out = elim (h.unreached.others id some low (medium_before id whole) (λ r. out (reached_still id r))) [
    | inl c ↦ absurd (both_ways (is_elided (facts Now.tables).elisions table.Medium id) whole ((too.mediums id).1 (inr c)))
    | inr behind ↦ behind
  ]

  -- a segment that is visible then was before, and isn't one of these
  segment_said : (id : ℕ) (d : SegmentFact) → segment (facts Now.tables) id ≡ Some d → segment (facts Was.tables) id ≡ Some d
  segment_said id d e = said_before segment_key (λ f. f.seq.0) never (facts Was.tables).segments (is_elided (facts Was.tables).elisions table.Segment) (is_elided (facts Now.tables).elisions table.Segment) (key_of id 0) d
      (segment_before (id_of (key_of id 0))) e

  segments_left : (id : ℕ) → IsUnused (facts Now.tables) (facts Now.tables) id → (length e.segments.items ≡ ELIDED_SEGMENTS) × ((i : ℕ) → Contains e.segments.items i → i < id)
  segments_left id u = elim (h.unused.others id (record { fact = u.fact; visible = segment_said id u.fact u.visible; unnamed = u.unnamed })) [
    | inl c ↦ absurd (not_both (segment (facts Now.tables) id) u.visible (gone id c))
    | inr behind ↦ behind
  ]
    where
      gone : (i : ℕ) → Contains e.segments.items i → segment (facts Now.tables) i ≡ None
      gone i c =
          let is : is_elided (facts Now.tables).elisions table.Segment (id_of (key_of i 0)) ≡ true =
          subst (λ j. is_elided (facts Now.tables).elisions table.Segment j ≡ true) (sym (id_of_key i 0 (omega arith))) ((too.segments i).1 (inr c)) in
          rw is refl

  pub has_elided : HasElided Was Now e.mediums.items e.segments.items × (length e.facts.items ≡ 2 * length e.mediums.items + length e.segments.items)
  has_elided = (record { too = too; mediums_left = mediums_left; segments_left = segments_left }, all.1)

pub eliding_leaves : ElidingLeaves
eliding_leaves k e s h = has_elided k e s h
