use Rattle.table_planner.proofs.Prelude.{rules, ◌≡◌, ◌+◌, ◌<◌, length, ap, ◌∙◌, arith, map, common_steps, AreLayered, NextNumbers, SegmentFact, NUMBER_LIMIT, Plan, eliding_by, next_past}
use Rattle.table_planner.proofs.ElidingLemmas.{elided_sound, elisions_rise, layered_without, placing_then}
use Rattle.table_planner.proofs.PlanLemmas.{made_for, segments_units}
use Rattle.table_planner.proofs.planning.planned.Goals as goal

plan : goal.After-next_past → Plan
plan c = record {
  eliding = c.args.eliding;
  placing = c.args.placing;
  segments = c.in_ok-made.made.segments;
  objects = c.in_ok-made.made.patches.objects;
  mediums = c.in_ok-made.made.patches.mediums;
  addresses = c.in_ok-made.made.patches.addresses;
  segment_facts = c.in_ok-made.made.patches.segments;
  elisions = c.in_ok-made.made.patches.elisions;
  next = c.next_past.result;
  witnesses = c.in_ok-made.made.witnesses;
}

facts_long : (c : goal.After-next_past) → c.len.result ≡ length c.args.eliding.facts.items
facts_long c = first_of (search rules, grind (arith, common_steps))

pub returns-clause-plan : goal.returns-clause-plan
unfolding plan
returns-clause-plan c =
    let k = c.args.memory.now in
    let e = c.args.eliding in
    let r = c.requires in
    let numbers = r.left.1 in
    let few : k.memory.next.sequence + length e.facts.items < NUMBER_LIMIT = omega (arith, numbers) in
    let made = c.in_ok-made.ensures in
    let l = c.layered.ensures in
    let layers : AreLayered k.memory.tables = record { objects = l.objects; mediums = l.mediums; addresses = l.addresses; segments = l.segments; elisions = l.elisions } in
    made_for (eliding_by k.memory e) (plan c) c.args.units.now (elided_sound k e r.sound r.eliding few) r.stored (layered_without k.memory e layers) (elisions_rise k e r.sound r.eliding few layers)
    (placing_then k.memory e c.args.placing r.placing) r.wanted r.places r.left
    made.segments made.patches.objects made.patches.mediums made.patches.addresses made.patches.segments made.patches.elisions
    (c.next_past.ensures ∙ ap (λ (n : NextNumbers). next_past (record n { sequence = n.sequence + c.len.result }) (length c.args.units.now)) c.next.ensures
    ∙ ap (λ n. next_past (record k.memory.next { sequence = k.memory.next.sequence + n }) (length c.args.units.now)) (facts_long c))

pub returns-clause-units : goal.returns-clause-units
returns-clause-units c =
    let next = c.args.memory.now.memory.next in
    ap (λ l. map (λ (d : SegmentFact). d.places) l) c.in_ok-made.ensures.segments
    ∙ segments_units next.segment (next.sequence + length c.args.eliding.facts.items) (length c.args.placing.order.items) c.args.units.now
