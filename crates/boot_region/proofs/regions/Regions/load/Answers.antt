use Rattle.boot_region.proofs.Prelude.{rules, arith, length, ◌≡◌, ◌∙◌, sym, subst, LoadFault, IsFaultOf, slot_in}
use Rattle.boot_region.proofs.LoadingLemmas.{held_by, spent_by, fault_of_body, if_err}
use Rattle.boot_region.proofs.regions.Regions.load.Goals as goal

pub returns-in-None-clause-err : goal.returns-in-None-clause-err
returns-in-None-clause-err c shelf drives units = c.in-None.ensures.none shelf drives

pub returns-in_err-record-clause-err : goal.returns-in_err-record-clause-err
returns-in_err-record-clause-err c = if_err c.from_residual.result _ _ c.from_residual.ensures.1 (λ e is shelf drives units.
    let slots : c.len-slots.result ≡ length c.args.self.now.answered.items = search rules in
    subst (λ (f : LoadFault). IsFaultOf shelf c.args.self.now.bytes.items c.args.self.now.answered.items f) (sym is)
    (fault_of_body shelf c.args.self.now.bytes.items c.args.self.now.answered.items (slot_in c.in-Some.found.0) c.in-Some.found.1.now _ c.args.units c.in_err-record.field-0.0 (omega (arith, slots, drives)) (sym units)
    (c.in-Some.ensures.some shelf drives) c.in_err-record.ensures.exact))

pub returns-then-record-ge-GENERATION_LIMIT-clause-err : goal.returns-then-record-ge-GENERATION_LIMIT-clause-err
returns-then-record-ge-GENERATION_LIMIT-clause-err c shelf drives units =
    let slots : c.len-slots.result ≡ length c.args.self.now.answered.items = search rules in
    spent_by shelf c.args.self.now.bytes.items c.args.self.now.answered.items (slot_in c.in-Some.found.0) c.in-Some.found.1.now c.in_ok-record.record
    c.in_ok-record.ensures.lawful (omega (arith, c.in_ok-record.ensures.shelf.0, slots, drives)) (c.in_ok-record.ensures.shelf.1 ∙ sym units) (c.in-Some.ensures.some shelf drives) c.in_ok-record.ensures.spelled
    (omega (arith, c.if-record-ge-GENERATION_LIMIT.true))

pub returns-then-count_set-slots-clause-err : goal.returns-then-count_set-slots-clause-err
returns-then-count_set-slots-clause-err c shelf drives units =
    let slots : c.len-slots.result ≡ length c.args.self.now.answered.items = search rules in
    record {
      slot = slot_in c.in-Some.found.0;
      boot = c.in_ok-record.record;
      held = held_by shelf c.args.self.now.bytes.items c.args.self.now.answered.items (slot_in c.in-Some.found.0) c.in-Some.found.1.now c.in_ok-record.record c.holding-drives.result
          c.in_ok-record.ensures.lawful (omega (arith, c.in_ok-record.ensures.shelf.0, slots, drives)) (c.in_ok-record.ensures.shelf.1 ∙ sym units) (c.in-Some.ensures.some shelf drives) c.in_ok-record.ensures.spelled c.holding-drives.ensures;
      too_few = omega (arith, c.count_set.ensures.value, c.if-count_set-slots.true, slots, drives);
    }

pub returns-clause-ok : goal.returns-clause-ok
returns-clause-ok c shelf drives units =
    let slots : c.len-slots.result ≡ length c.args.self.now.answered.items = search rules in
    record {
      held = held_by shelf c.args.self.now.bytes.items c.args.self.now.answered.items (slot_in c.in-Some.found.0) c.in-Some.found.1.now c.in_ok-record.record c.holding-drives.result
          c.in_ok-record.ensures.lawful (omega (arith, c.in_ok-record.ensures.shelf.0, slots, drives)) (c.in_ok-record.ensures.shelf.1 ∙ sym units) (c.in-Some.ensures.some shelf drives) c.in_ok-record.ensures.spelled c.holding-drives.ensures;
      room = omega (arith, c.if-record-ge-GENERATION_LIMIT.false);
      enough = omega (arith, c.count_set.ensures.value, c.if-count_set-slots.false, slots, drives);
    }
