-- What is kept when a plan is done.
use Rattle.array_memory.proofs.Prelude.{◌≡◌, ℕ, ◌<◌, Bool, false, List, [], sym, ap, ◌∙◌, arith, inl, subst, IsTrue, None, option_and_then, if◌then◌else◌, All, Contains, object_key, segment_key, never, id_of, unless_empty, says, is_elided, is_within, AreElidedRanges, Table, Place, AddressFact, SegmentFact, ElisionFact, AreDistinct, newest_of, IsShown, within_elided, all_contained, said_found, Memory, IsSound, facts, all_segments, of_each, ElidedRanges, ranges_of, IsPlanned, eliding_by, IsElidingOf, Kept, IsKept, Plan, IsPlanFor, sound_ranges, sound_sizes}
use Rattle.pur_base.specs.declared.request.Table.TheVariants as table
use Rattle.pur_base.specs.declared.facts.AnyFact.TheVariants as any
use Rattle.memory_spec.proofs.Created.{not_elided}
use Rattle.table_plan.proofs.ElidedLemmas.{items_are_elided}
use Rattle.table_plan.proofs.Planned.{planned_sound, planned_elided}
use Rattle.array_memory.proofs.PlanLemmas.{new_id}

-- ---- segments

segment_there : (k : Kept) → IsKept k → (d : SegmentFact) → Contains k.segments d → Contains (facts k.memory.tables).segments d
segment_there k h d c =
    (said_found segment_key (λ (f : SegmentFact). f.seq.0) never (facts k.memory.tables).segments (is_elided (facts k.memory.tables).elisions table.Segment) (segment_key d) d (h.segments.said d c)).0

-- new ids are above those of visible segments
pub new_behind : (k : Kept) (p : Plan) → IsKept k → IsPlanFor (eliding_by k.memory p.eliding) p → (d e : SegmentFact) → Contains k.segments d → Contains p.segments.items e → d.segment.0 < e.segment.0
new_behind k p h plan d e a b =
    let low = of_each (λ (f : SegmentFact). f.segment.0 < k.memory.next.segment) (facts k.memory.tables).segments d h.ids.segments (segment_there k h d a) in
    let high = new_id (eliding_by k.memory p.eliding) p plan e b in
    omega (arith, low, high)

same_segment : (f g : SegmentFact) → any.Segment f ≡ any.Segment g → f ≡ g
same_segment f g e = cc

pub segments_distinct : (k : Kept) → IsKept k → AreDistinct (λ (d : SegmentFact). d.seq.0) (facts k.memory.tables).segments
segments_distinct k h f g c d e = same_segment f g (h.numbers.distinct (any.Segment f) (any.Segment g) (all_segments (facts k.memory.tables) f c) (all_segments (facts k.memory.tables) g d) e)

-- what was elided still is
pub still_within : (k : Kept) (p : Plan) → IsElidingOf k p.eliding → (id : ℕ) → IsTrue (is_elided (facts k.memory.tables).elisions table.Segment id) → IsTrue (is_within (ranges_of p.eliding.elided table.Segment) id)
still_within k p e id is = ((e.elided table.Segment (λ x. cc)).same id).0 (((items_are_elided k.memory p.eliding.mediums.items p.eliding.segments.items p.eliding.facts.items e.made).0.segments id).1 (inl is))

-- none of the new segments is elided
pub new_visible : (k : Kept) (p : Plan) → IsElidingOf k p.eliding → IsPlanFor (eliding_by k.memory p.eliding) p → All (λ (d : SegmentFact). is_within (ranges_of p.eliding.elided table.Segment) d.segment.0 ≡ false) p.segments.items
new_visible k p e plan = all_contained (λ (d : SegmentFact). is_within (ranges_of p.eliding.elided table.Segment) d.segment.0 ≡ false) p.segments.items
    (λ d c.
    let m = eliding_by k.memory p.eliding in
    sym (within_elided (facts m.tables).elisions table.Segment (ranges_of p.eliding.elided table.Segment) d.segment.0 (e.elided table.Segment (λ is. cc)))
    ∙ not_elided m.next (facts m.tables) table.Segment d.segment.0 plan.sound.ids (new_id m p plan d c))

-- ---- which ids are elided

shown_where : {F : Type 0} (key number : F → ℕ) (empty : F → Bool) (fs : List F) (before after : ℕ → Bool) (shown : List F) → ((id : ℕ) → after id ≡ before id)
    → IsShown key number empty fs before shown → IsShown key number empty fs after shown
shown_where {F} key number empty fs before after shown same h = record {
  ascends = h.ascends;
  said = λ f c. alike (key f) ∙ h.said f c;
  all = λ f l s. h.all f l (sym (alike (key f)) ∙ s);
}
  where
    alike : (k : ℕ) → says key number empty fs after k ≡ says key number empty fs before k
    alike k = ap (λ b. if b then None else option_and_then (unless_empty empty) (newest_of key number k fs)) (same (id_of k))

pub ranges_where : (old new : List ElisionFact) (t : Table) (rs : List (ℕ × ℕ)) → ((id : ℕ) → is_elided new t id ≡ is_elided old t id) → AreElidedRanges old t rs → AreElidedRanges new t rs
ranges_where old new t rs same r = record { same = λ id. (λ x. (r.same id).0 (sym (same id) ∙ x), λ x. same id ∙ (r.same id).1 x); whole = r.whole; apart = r.apart }

module _ (k n : Kept) (p : Plan) (newest : List AddressFact) (flags : List Bool) (units : List (List Place)) (h : IsKept k) (e : IsElidingOf k p.eliding)
    (plan : IsPlanFor (eliding_by k.memory p.eliding) p) (planned : IsPlanned (eliding_by k.memory p.eliding) n.memory flags newest units) where
  abbrev Elided : Memory
  Elided = eliding_by k.memory p.eliding

  same_elided : (t : Table) (id : ℕ) → is_elided (facts n.memory.tables).elisions t id ≡ is_elided (facts Elided.tables).elisions t id
  same_elided t id = planned_elided (λ a b. []) Elided n.memory flags newest units plan.sound plan.stored planned t id

  sound : IsSound n.memory
  sound = planned_sound (λ a b. []) Elided n.memory flags newest units plan.sound plan.stored planned

  objects_elided : (id : ℕ) → is_elided (facts n.memory.tables).elisions table.Object id ≡ is_elided (facts k.memory.tables).elisions table.Object id
  objects_elided id = same_elided table.Object id ∙ (items_are_elided k.memory p.eliding.mediums.items p.eliding.segments.items p.eliding.facts.items e.made).0.objects id

  segments_within : (id : ℕ) → is_elided (facts n.memory.tables).elisions table.Segment id ≡ is_within (ranges_of p.eliding.elided table.Segment) id
  segments_within id = same_elided table.Segment id ∙ within_elided (facts Elided.tables).elisions table.Segment (ranges_of p.eliding.elided table.Segment) id (e.elided table.Segment (λ is. cc))

  pub finished_kept : n.elided ≡ p.eliding.elided
      → IsShown object_key (λ f. f.seq.0) never (facts n.memory.tables).objects (is_elided (facts k.memory.tables).elisions table.Object) n.objects
      → IsShown segment_key (λ f. f.seq.0) never (facts n.memory.tables).segments (is_within (ranges_of p.eliding.elided table.Segment)) n.segments → IsKept n
  finished_kept elided objects segments = record {
    objects = shown_where object_key (λ f. f.seq.0) never (facts n.memory.tables).objects (is_elided (facts k.memory.tables).elisions table.Object) (is_elided (facts n.memory.tables).elisions table.Object) n.objects objects_elided objects;
    segments = shown_where segment_key (λ f. f.seq.0) never (facts n.memory.tables).segments (is_within (ranges_of p.eliding.elided table.Segment)) (is_elided (facts n.memory.tables).elisions table.Segment) n.segments segments_within segments;
    elided = λ t ne. subst (λ (x : ElidedRanges). AreElidedRanges (facts n.memory.tables).elisions t (ranges_of x t)) (sym elided) (ranges_where (facts Elided.tables).elisions (facts n.memory.tables).elisions t (ranges_of p.eliding.elided t) (same_elided t) (e.elided t ne));
    next = sound.next;
    ids = sound.ids;
    numbers = sound.numbers;
    sizes = sound_sizes n.memory sound;
    ranges = sound_ranges n.memory sound;
  }
