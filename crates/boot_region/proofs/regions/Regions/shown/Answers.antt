use Rattle.boot_region.proofs.Prelude.{slot_in}
use Rattle.boot_region.proofs.RegionLemmas.{vote_in, no_vote}
use Rattle.boot_region.proofs.regions.Regions.shown.Goals as goal

pub returns-in-Some-clause-value : goal.returns-in-Some-clause-value
returns-in-Some-clause-value c =
    vote_in c.args.self.now.bytes.items c.args.self.now.answered.items (slot_in c.args.slot) c.args.drive c.in-Some.region.now _ c.in-Some.ensures.value c.body_shown.ensures.value

pub returns-in-None-clause-value : goal.returns-in-None-clause-value
returns-in-None-clause-value c =
    no_vote c.args.self.now.bytes.items c.args.self.now.answered.items (slot_in c.args.slot) c.args.drive c.in-None.ensures.value
