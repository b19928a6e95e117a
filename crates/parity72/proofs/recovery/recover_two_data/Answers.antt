use Rattle.parity72.proofs.Restoring.{restores-turned}
use Rattle.parity72.proofs.recovery.recover_two_data.Goals as goal

pub returns-else-first-second : goal.returns-else-first-second
returns-else-first-second c = restores-turned c.args.second c.args.first c.args.shards.now _ c.recover_pair-else-first-second.ensures
