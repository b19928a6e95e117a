use Rattle.table_planner.proofs.Prelude.{sym, subst, arith, IsEliding, Eliding, eliding_by, IsElidingOf, IsPlanFor}
use Rattle.table_planner.proofs.ElidingLemmas.{keeps}
use Rattle.table_planner.proofs.PlanLemmas.{plan_of, planned_on, reads_roomed}
use Rattle.table_planner.proofs.planning.plan.Goals as goal

pub returns-in_err-reserve_for_plan-clause-reads : goal.returns-in_err-reserve_for_plan-clause-reads
returns-in_err-reserve_for_plan-clause-reads c = reads_roomed c.args.memory.now c.reserve_for_plan.new.self c.reserve_for_plan.ensures.rest

pub returns-clause-plan : goal.returns-clause-plan
returns-clause-plan c =
    let was = c.args.memory.now in
    let p = c.in_ok-plan.plan in
    let same = sym c.in_ok-plan.ensures.eliding in
    let numbers = c.requires.left.1 in
    plan_of was c.reserve_for_plan.new.self p c.args.units.now c.reserve_for_plan.ensures.rest
    (subst (λ (e : Eliding). IsElidingOf was e) same c.requires.eliding)
    (subst (λ (e : Eliding). IsEliding was.memory (eliding_by was.memory e) e.facts.items) same (keeps was c.args.eliding c.requires.sound c.requires.eliding (omega (arith, numbers))))
    (subst (λ (e : Eliding). IsPlanFor (eliding_by was.memory e) p) same c.in_ok-plan.ensures.plan)
    c.in_ok-plan.ensures.units c.in_ok-reserve_for_plan.ensures.room

pub returns-clause-planned : goal.returns-clause-planned
returns-clause-planned c = planned_on (eliding_by c.args.memory.now.memory c.args.eliding) c.in_ok-plan.plan c.args.units.now c.in_ok-plan.ensures.plan c.in_ok-plan.ensures.units

pub returns-clause-reads : goal.returns-clause-reads
returns-clause-reads c = reads_roomed c.args.memory.now c.reserve_for_plan.new.self c.reserve_for_plan.ensures.rest
