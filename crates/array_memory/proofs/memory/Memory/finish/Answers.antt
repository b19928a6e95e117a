use Rattle.array_memory.proofs.Prelude.{ℕ, ◌-◌, ◌++◌, IsTrue, not, refl, sym, ap, ◌∙◌, subst, vec_len, vec_capacity, Contains, is_elided, is_within, SegmentFact, Layers, AreDistinct, facts_in, patch_facts, patches_of, of_filter, Memory, ranges_of, AreVisible, number, IsPlanned, eliding_by, IsElidingOf, Kept, kept_of, after_plan, units_of, IsPlanFor, IsSameMemory}
use Rattle.pur_base.specs.declared.request.Table.TheVariants as table
use Rattle.array_memory.proofs.Seen.{seen}
use Rattle.array_memory.proofs.PlanLemmas.{addresses_ascend, addresses_newer, elisions_newer, new_ids_rise, new_numbers_rise, segments_newer, planned, planned_same}
use Rattle.array_memory.proofs.FinishLemmas.{new_behind, new_visible, segments_distinct, still_within, finished_kept}
use Rattle.array_memory.proofs.memory.Memory.finish.Goals as goal

pub put_instead-requires-clause-ascends : goal.put_instead-requires-clause-ascends
put_instead-requires-clause-ascends c =
    let plan = rw (← c.self.view_is) at c.requires.plan in
    addresses_ascend (eliding_by (seen c.self.inside).memory c.args.plan.eliding) c.args.plan plan

pub put_instead-requires-clause-rising : goal.put_instead-requires-clause-rising
put_instead-requires-clause-rising c =
    let plan = rw (← c.self.view_is) at c.requires.plan in
    addresses_newer (eliding_by (seen c.self.inside).memory c.args.plan.eliding) c.args.plan plan

pub put_instead-requires-2-clause-rising : goal.put_instead-requires-2-clause-rising
put_instead-requires-2-clause-rising c =
    let plan = rw (← c.self.view_is) at c.requires.plan in
    elisions_newer (eliding_by (seen c.self.inside).memory c.args.plan.eliding) c.args.plan plan

pub put_with-requires-clause-ascends : goal.put_with-requires-clause-ascends
put_with-requires-clause-ascends c =
    let plan = rw (← c.self.view_is) at c.requires.plan in
    rw c.deref.ensures.value (new_ids_rise (eliding_by (seen c.self.inside).memory c.args.plan.eliding) c.args.plan plan)

pub put_with-requires-clause-last : goal.put_with-requires-clause-last
put_with-requires-clause-last c =
    let plan = rw (← c.self.view_is) at c.requires.plan in
    rw c.deref.ensures.value (λ d e a b. new_behind (seen c.self.inside) c.args.plan c.self.invariant plan d e
    (of_filter (λ (x : SegmentFact). not (is_within c.ranges-2.result.now x.segment.0)) c.self.inside.segments.visible d (subst (λ l. Contains l d) c.remove_elided.ensures.visible a)) b)

pub put_with-requires-clause-newer : goal.put_with-requires-clause-newer
put_with-requires-clause-newer c =
    let plan = rw (← c.self.view_is) at c.requires.plan in
    rw (c.deref.ensures.value, c.remove_elided.ensures.facts) (segments_newer (eliding_by (seen c.self.inside).memory c.args.plan.eliding) c.args.plan plan)

now : goal.After-drop-plan → Kept
now c = kept_of c.put_flushed.new.self c.put_flushed-2.new.self c.put_instead.new.self c.put_with.new.self c.put_instead-2.new.self c.args.plan.eliding.elided c.clear.new.self.items
    (vec_capacity c.clear.new.self - vec_len c.clear.new.self) c.args.plan.next

abbrev Elided : goal.After-drop-plan → Memory
Elided c = eliding_by (seen c.self.inside).memory c.args.plan.eliding

plan_of : (c : goal.After-drop-plan) → IsPlanFor (Elided c) c.args.plan
plan_of c = rw (← c.self.view_is) at c.requires.plan

eliding_of : (c : goal.After-drop-plan) → IsElidingOf (seen c.self.inside) c.args.plan.eliding
eliding_of c = rw (← c.self.view_is) at c.requires.eliding

same : (c : goal.After-drop-plan) → IsSameMemory (after_plan (seen c.self.inside).memory c.args.plan) (now c).memory
unfolding now
same c = record {
  objects = record { patches = c.put_flushed.ensures.patches; unflushed = c.put_flushed.ensures.unflushed };
  mediums = record { patches = c.put_flushed-2.ensures.patches; unflushed = c.put_flushed-2.ensures.unflushed };
  addresses = record { patches = c.put_instead.ensures.patches; unflushed = c.put_instead.ensures.unflushed };
  segments = record {
    patches = c.put_with.ensures.patches ∙ ap (λ (l : Layers SegmentFact). l.patches ++ patches_of c.args.plan.segment_facts) c.remove_elided.ensures.facts;
    unflushed = c.put_with.ensures.unflushed;
  };
  elisions = record { patches = c.put_instead-2.ensures.patches; unflushed = c.put_instead-2.ensures.unflushed };
  staged = c.clear.ensures.items;
  next = refl;
}

is_planned : (c : goal.After-drop-plan) → IsPlanned (Elided c) (now c).memory c.args.plan.placing.flags.items (patch_facts c.args.plan.placing.newest) (units_of c.args.plan)
is_planned c = planned_same (Elided c) (after_plan (Elided c) c.args.plan) (now c).memory c.args.plan.placing.flags.items (patch_facts c.args.plan.placing.newest) (units_of c.args.plan)
    (same c) (planned (Elided c) c.args.plan (plan_of c))

pub invariant_of-self : goal.invariant_of-self
unfolding now
invariant_of-self c =
    let k : Kept = seen c.self.inside in
    let p = c.args.plan in
    let objects = c.put_flushed.ensures.says (is_elided (facts_in c.self.inside.elisions) table.Object) c.self.invariant.objects in
    let more = subst (λ rs. (id : ℕ) → IsTrue (is_elided (facts_in c.self.inside.elisions) table.Segment id) → IsTrue (is_within rs id)) (sym c.ranges-2.ensures.value) (still_within k p (eliding_of c)) in
    let left = subst (λ rs. AreVisible (is_within rs) c.remove_elided.new.self) c.ranges-2.ensures.value (c.remove_elided.ensures.says (is_elided (facts_in c.self.inside.elisions) table.Segment) more c.self.invariant.segments) in
    let distinct = subst (λ (l : Layers SegmentFact). AreDistinct number (facts_in l)) (sym c.remove_elided.ensures.facts) (segments_distinct k c.self.invariant) in
    let says = rw c.deref.ensures.value at c.put_with.ensures.says in
    let segments = says (is_within (ranges_of p.eliding.elided table.Segment)) distinct (new_numbers_rise (Elided c) p (plan_of c)) (new_visible k p (eliding_of c) (plan_of c)) left in
    finished_kept k (now c) p (patch_facts p.placing.newest) p.placing.flags.items (units_of p) c.self.invariant (eliding_of c) (plan_of c) (is_planned c) refl objects segments

pub returns-clause-planned : goal.returns-clause-planned
unfolding now
returns-clause-planned c = rw (← c.self.view_is) (is_planned c)
