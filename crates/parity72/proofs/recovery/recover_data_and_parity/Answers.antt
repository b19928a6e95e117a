use Rattle.parity72.proofs.Restoring.{restores-turned}
use Rattle.parity72.proofs.recovery.recover_data_and_parity.Goals as goal

pub returns-then-parity-eq-P_NUMBER : goal.returns-then-parity-eq-P_NUMBER
returns-then-parity-eq-P_NUMBER c = restores-turned c.args.parity c.args.i c.args.shards.now _ c.recover_pair.ensures
