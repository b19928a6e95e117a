use Rattle.boot_region.proofs.Prelude.{◌≡◌, length, rules, slot_in}
use Rattle.boot_region.proofs.RegionLemmas.{half_is_passed}
use Rattle.boot_region.proofs.regions.Regions.is_decided_by.Goals as goal

pub returns : goal.returns
returns c =
    let drives : c.len.result ≡ length c.args.self.now.answered.items = search rules in
    half_is_passed c.args.self.now.bytes.items c.args.self.now.answered.items (slot_in c.args.slot) c.args.body.now c.len.result c.votes_for.result drives c.votes_for.ensures.count
