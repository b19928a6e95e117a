use Rattle.shelf_init.proofs.Prelude.{◌≢◌, ◌<◌, length, arith, below_more, get_or-set_other, get_or-set_same, length-set}
use Rattle.shelf_init.proofs.FirstLemmas.{drives_are}
use Rattle.shelf_init.proofs.record.all_drives.Goals as goal

pub loop-slot-preserved : goal.loop-slot-preserved
loop-slot-preserved c =
    let inv = c.loop-slot.invariant in
    let slot = c.loop-slot.slot in
    let lt : slot < length c.loop-slot.drives = omega (arith, inv.size, c.loop-slot-test.true, c.requires) in
    record {
      size = rw length-set inv.size;
      set = below_more _ _ (λ i h. let ne : i ≢ slot = omega arith in rw get_or-set_other (inv.set i h)) (rw get_or-set_same);
      unset = λ i h. let ne : i ≢ slot = omega arith in rw get_or-set_other (inv.unset i (omega (arith, h)));
    }

pub returns : goal.returns
returns c = drives_are c.args.slots c.loop-slot.drives c.requires c.loop-slot.invariant.size (λ i lt. c.loop-slot.invariant.set i (omega (arith, lt, c.loop-slot-test.false))) (λ i ge. c.loop-slot.invariant.unset i (omega (arith, ge, c.loop-slot.auto.slot-end, c.loop-slot-test.false)))
