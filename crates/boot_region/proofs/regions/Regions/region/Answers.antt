use Rattle.boot_region.proofs.Prelude.{false, sym, ◌∙◌, arith, get_or_default}
use Rattle.boot_region.proofs.RegionLemmas.{region_is}
use Rattle.boot_region.proofs.regions.Regions.region.Goals as goal

pub returns-then-index-clause-value : goal.returns-then-index-clause-value
returns-then-index-clause-value c =
    region_is _ c.args.self.now.bytes.items c.args.self.now.answered.items c.args.drive _ _ c.deref.ensures.value (omega arith) (omega arith)
    (get_or_default c.args.self.now.answered.items c.args.drive false c.index.result.now c.requires ∙ sym c.index.ensures ∙ c.if-index.true)
