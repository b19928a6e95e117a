use Rattle.array_checkpoint.proofs.Prelude.{◌≡◌, ℕ, ◌≤◌, List, [], length, sym, ap, subst, ◌∙◌, arith, div_ceil, Place, Eliding, eliding_by, next_past, AreUnits, IsMapAfter}
use Rattle.table_plan.proofs.ElidedLemmas.{items_are_elided}
use Rattle.record_tables.proofs.Taking.{none_is_taken}
use Rattle.array_checkpoint.proofs.PreparedLemmas.{are_units, few_placed, segments_long}
use Rattle.array_checkpoint.proofs.preparing.plan.Goals as goal

pub take_units-requires : goal.take_units-requires
take_units-requires c = record {
  enough = λ g is.
      let order = c.in_ok-placing.placing.order in
      let long : length order.items ≡ c.len.result = omega (arith, c.len.ensures, order.ok.0) in
      let few : div_ceil c.len.result 840 ≤ 6 = subst (λ (n : ℕ). div_ceil n 840 ≤ 6) long (few_placed c.args.memory.now.memory c.in_ok-placing.placing c.in_ok-placing.ensures c.requires.few) in
      let room = c.requires.groups g is in
      omega (arith, few, room, c.segments_for.ensures);
}

pub plan-requires-clause-places : goal.plan-requires-clause-places
plan-requires-clause-places c =
    let (boot, facts, lawful, map) = c.requires.of in
    subst (λ (us : List (List Place)). AreUnits us) (sym c.deref.ensures.value) (are_units boot facts c.in_ok-units.units.items lawful (c.in_ok-units.ensures.units boot facts map))

pub plan-requires-clause-left : goal.plan-requires-clause-left
plan-requires-clause-left c =
    let order = c.in_ok-placing.placing.order in
    let long : length order.items ≡ c.len.result = omega (arith, c.len.ensures, order.ok.0) in
    let few : div_ceil c.len.result 840 ≤ 6 = subst (λ (n : ℕ). div_ceil n 840 ≤ 6) long (few_placed c.args.memory.now.memory c.in_ok-placing.placing c.in_ok-placing.ensures c.requires.few) in
    let most : length c.in_ok-units.units.items ≤ 6 = omega (arith, few, c.segments_for.ensures, c.in_ok-units.ensures.count) in
    let same : length c.deref.result.now ≤ 6 = subst (λ (us : List (List Place)). length us ≤ 6) (sym c.deref.ensures.value) most in
    let e = c.in_ok-eliding.eliding in
    let many = (items_are_elided c.args.memory.now.memory e.mediums.items e.segments.items e.facts.items c.in_ok-eliding.ensures.made).1 in
    let mediums = c.in_ok-eliding.ensures.unreached.few in
    let segments = c.in_ok-eliding.ensures.unused.few in
    (omega (arith, same, c.requires.left.0), omega (arith, same, c.requires.left.1, many, mediums, segments))

pub returns-clause-few : goal.returns-clause-few
returns-clause-few c =
    let order = c.in_ok-placing.placing.order in
    let long : length order.items ≡ c.len.result = omega (arith, c.len.ensures, order.ok.0) in
    let few : div_ceil c.len.result 840 ≤ 6 = subst (λ (n : ℕ). div_ceil n 840 ≤ 6) long (few_placed c.args.memory.now.memory c.in_ok-placing.placing c.in_ok-placing.ensures c.requires.few) in
    let most : length c.in_ok-units.units.items ≤ 6 = omega (arith, few, c.segments_for.ensures, c.in_ok-units.ensures.count) in
    let same : length c.deref.result.now ≤ 6 = subst (λ (us : List (List Place)). length us ≤ 6) (sym c.deref.ensures.value) most in
    let all = segments_long c.in_ok-plan.plan c.deref.result.now c.in_ok-plan.ensures.units in
    omega (arith, all, same)

pub returns-clause-next : goal.returns-clause-next
returns-clause-next c =
    let m = c.args.memory.now.memory in
    let p = c.in_ok-plan.plan in
    c.in_ok-plan.ensures.next ∙ ap (λ (n : ℕ). next_past (eliding_by m c.in_ok-eliding.eliding).next n) (sym (segments_long p c.deref.result.now c.in_ok-plan.ensures.units))
    ∙ ap (λ (e : Eliding). next_past (eliding_by m e).next (length p.segments.items)) (sym c.in_ok-plan.ensures.eliding)

pub returns-clause-units : goal.returns-clause-units
returns-clause-units c = λ boot facts is.
    subst (λ (us : List (List Place)). IsMapAfter boot facts us c.take_units.new.map) (sym c.deref.ensures.value ∙ sym c.in_ok-plan.ensures.units) (c.in_ok-units.ensures.more boot facts [] (none_is_taken boot facts c.args.map.now is))
