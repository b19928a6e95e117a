use Rattle.unit_map.proofs.Prelude.{SLOTS_MAX, fresh}
use Rattle.unit_map.proofs.NewLemmas.{drives-more, drives-made, drives-few}
use Rattle.unit_map.proofs.map.UnitMap.new.Goals as goal

pub loop-slot-preserved : goal.loop-slot-preserved
loop-slot-preserved c = drives-more c.loop-slot._slot c.new.result (fresh c.args.units) c.loop-slot.drives.items c.push.new.self.items c.new.ensures c.loop-slot.invariant c.in_ok-push.ensures.items

pub invariant_of-result : goal.invariant_of-result
invariant_of-result c = drives-few c.loop-slot._slot c.args.slots SLOTS_MAX _ c.loop-slot.drives.items c.loop-slot.auto._slot-end c.requires.slots_high c.loop-slot.invariant

pub returns : goal.returns
returns c = drives-made c.loop-slot._slot c.args.slots _ c.loop-slot.drives.items c.loop-slot.auto._slot-end c.loop-slot-test.false c.loop-slot.invariant
