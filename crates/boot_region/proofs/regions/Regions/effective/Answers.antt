use Rattle.boot_region.proofs.Prelude.{A, B, slot_in}
use Rattle.boot_region.proofs.RegionLemmas.{newer_of_both, only_one, none_of_both}
use Rattle.boot_region.proofs.regions.Regions.effective.Goals as goal

pub returns-in-Some-Some-clause-some : goal.returns-in-Some-Some-clause-some
returns-in-Some-Some-clause-some c =
    newer_of_both c.args.self.now.bytes.items c.args.self.now.answered.items c.in-Some-Some.a.now c.in-Some-Some.b.now (slot_in c.newer.result.0) c.newer.result.1.now
    c.in-Some-Some.ensures.some c.in-Some-Some.ensures'.some c.newer.ensures

pub returns-in-Some-None-clause-some : goal.returns-in-Some-None-clause-some
returns-in-Some-None-clause-some c =
    only_one c.args.self.now.bytes.items c.args.self.now.answered.items A c.in-Some-None.a.now c.in-Some-None.ensures.some c.in-Some-None.ensures'.none

pub returns-in-None-Some-clause-some : goal.returns-in-None-Some-clause-some
returns-in-None-Some-clause-some c =
    only_one c.args.self.now.bytes.items c.args.self.now.answered.items B c.in-None-Some.b.now c.in-None-Some.ensures'.some c.in-None-Some.ensures.none

pub returns-in-None-None-clause-none : goal.returns-in-None-None-clause-none
returns-in-None-None-clause-none c =
    none_of_both c.args.self.now.bytes.items c.args.self.now.answered.items c.in-None-None.ensures.none c.in-None-None.ensures'.none
