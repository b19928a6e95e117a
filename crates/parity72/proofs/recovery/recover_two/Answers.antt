use Rattle.parity72.proofs.Restoring.{restores-turned, restores-two-parities}
use Rattle.parity72.proofs.recovery.recover_two.Goals as goal

pub returns-then-j-lt-DATA-2 : goal.returns-then-j-lt-DATA-2
returns-then-j-lt-DATA-2 c = restores-turned c.args.j c.args.i c.args.shards.now _ c.recover_data_and_parity-then-j-lt-DATA-2.ensures

pub returns-else-j-lt-DATA-2 : goal.returns-else-j-lt-DATA-2
returns-else-j-lt-DATA-2 c =
    restores-two-parities c.args.i c.args.j c.args.shards.now _ c.if-i-lt-DATA-2.false c.requires.i_in c.if-j-lt-DATA-2.false c.requires.j_in c.requires.apart c.encode_again.ensures
