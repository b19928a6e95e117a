use Rattle.boot_region.proofs.Prelude.{slot_in, arith}
use Rattle.boot_region.proofs.RegionLemmas.{decided_is_shown}
use Rattle.boot_region.proofs.regions.Regions.decided.Goals as goal

pub returns-clause-none : goal.returns-clause-none
returns-clause-none c body most =
    let found = decided_is_shown c.args.self.now.bytes.items c.args.self.now.answered.items (slot_in c.args.slot) body most in
    c.loop-drive.invariant found.0 body (omega (arith, found.1, c.loop-drive-test.false, c.len-drive-end.ensures)) found.2 most
