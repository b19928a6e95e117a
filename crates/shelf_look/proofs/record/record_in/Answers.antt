use Rattle.shelf_look.proofs.Prelude.{rules, arith, length, refl, inl, inr, ◌≡◌, ◌∙◌, sym, slot_in}
use Rattle.boot_region.proofs.LoadingLemmas.{held_by}
use Rattle.shelf_look.proofs.Records.{bad_body}
use Rattle.shelf_look.proofs.record.record_in.Goals as goal

pub returns-in_default : goal.returns-in_default
returns-in_default c shelf drives units = inl (c.in_default.ensures.none shelf drives)

pub returns-in-Ok : goal.returns-in-Ok
returns-in-Ok c shelf drives units =
    let slots : c.len-slots.result ≡ length c.args.regions.now.answered.items = search rules in
    record {
      boot = c.in-Ok.record;
      held = held_by shelf c.args.regions.now.bytes.items c.args.regions.now.answered.items (slot_in c.in-Some.slot) c.in-Some.body.now c.in-Ok.record c.holding.result
          c.in-Ok.ensures.lawful (omega (arith, c.in-Ok.ensures.shelf.0, slots, drives)) (c.in-Ok.ensures.shelf.1 ∙ sym units) (c.in-Some.ensures.some shelf drives) c.in-Ok.ensures.spelled c.holding.ensures;
      generation = refl;
      flushed = refl;
      members = refl;
    }

pub returns-in-Err-Bad : goal.returns-in-Err-Bad
returns-in-Err-Bad c shelf drives units =
    let slots : c.len-slots.result ≡ length c.args.regions.now.answered.items = search rules in
    inr (bad_body shelf c.args.regions.now.bytes.items c.args.regions.now.answered.items (slot_in c.in-Some.slot) c.in-Some.body.now _ c.args.units c.in-Err-Bad.field-0 c.in-Err-Bad.field-0-0 c.in-Err-Bad.field-0-is
    (omega (arith, slots, drives)) (sym units) (c.in-Some.ensures.some shelf drives) c.in-Err-Bad.ensures.exact)
