use Rattle.boot_region.proofs.Prelude.{arith, slot_in}
use Rattle.boot_region.proofs.RegionLemmas.{shown_is}
use Rattle.boot_region.proofs.regions.body_shown.Goals as goal

pub returns-clause-value : goal.returns-clause-value
returns-clause-value c = shown_is (slot_in c.args.slot) c.args.region.now c.gate.result c.body-at.result _ c.gate.ensures c.body-at.ensures (omega arith) c.if-region-gate-ne1.false
