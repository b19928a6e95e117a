use Rattle.boot_region.proofs.Prelude.{arith, slot_in}
use Rattle.boot_region.proofs.RegionLemmas.{holding_in, not_holding}
use Rattle.boot_region.proofs.regions.Regions.holds.Goals as goal

pub returns-in-Some : goal.returns-in-Some
returns-in-Some c =
    holding_in c.args.self.now.bytes.items c.args.self.now.answered.items (slot_in c.args.slot) c.args.body.now c.in-Some.region.now c.args.drive _ _ c.eq.result c.in-Some.ensures.value c.body-at.ensures (omega arith) c.eq.ensures

pub returns-in-None : goal.returns-in-None
returns-in-None c = not_holding c.args.self.now.bytes.items c.args.self.now.answered.items (slot_in c.args.slot) c.args.body.now c.args.drive c.in-None.ensures.value
