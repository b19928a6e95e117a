use Rattle.parity72.proofs.Prelude.{◌≢◌, ℕ, ◌-◌, ◌<◌, ◌≤◌, arith}
use Rattle.parity72.proofs.Restoring.{restores-but, restores-two-parities}
use Rattle.parity72.proofs.recovery.recover_parity.Goals as goal

pub returns : goal.returns
returns c =
    let i = c.args.i in
    let old = c.args.shards.now in
    let other : ℕ = 15 - i in
    let from : 7 ≤ other = omega (arith, c.requires.to) in
    let to : other < 9 = omega (arith, c.requires.from) in
    let apart : i ≢ other = λ e. omega (arith, e, c.requires.from, c.requires.to) in
    restores-but i other old c.encode_again.new.shards c.told-shards to apart
    (restores-two-parities i other old c.encode_again.new.shards c.requires.from c.requires.to from to apart c.encode_again.ensures)
