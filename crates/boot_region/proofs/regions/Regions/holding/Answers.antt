use Rattle.boot_region.proofs.Prelude.{rules, arith, length, ◌≡◌, ◌∙◌, inl, inr, false, slice_index_or, cases_lt, slot_in}
use Rattle.boot_region.proofs.RegionLemmas.{none_behind}
use Rattle.boot_region.proofs.regions.Regions.holding.Goals as goal

pub returns : goal.returns
returns c i =
    let drives : c.len-drive-end.result ≡ length c.args.self.now.answered.items = search rules in
    elim (cases_lt i c.loop-drive.drive) [
      | inl below ↦ c.loop-drive.invariant.passed i below
      | inr behind ↦ c.loop-drive.invariant.ahead i behind
          ∙ none_behind c.args.self.now.bytes.items c.args.self.now.answered.items (slot_in c.args.slot) c.args.body.now i (slice_index_or c.args.named.now i false) (omega (arith, drives, behind, c.loop-drive-test.false))
    ]
