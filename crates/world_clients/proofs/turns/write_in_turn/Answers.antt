use Rattle.world_clients.proofs.Prelude.{◌+◌, ◌≤◌, length, inl, arith, writes_more, then_run, weaker}
use Rattle.world_clients.proofs.InTurn.{first_turn, second_turn}
use Rattle.world_clients.proofs.turns.write_in_turn.Goals as goal

pub returns-clause-in_turn : goal.returns-clause-in_turn
returns-clause-in_turn g c h clean =
    let s = g.S.Shelf.shelf c.args.shelf.now in
    let mid = g.S.Shelf.shelf c.write_synced.new.shelf in
    let on = c.write_synced.ensures.continues in
    let done = c.in_ok-write_synced.ensures in
    let wrote = done.writes h in
    let fits : c.args.at + length c.args.first.now ≤ length (mid.disk c.args.device).bytes =
    omega (arith, c.requires.first_fits.fits, (g.met.S.Shelf.is_shelf c.args.shelf.now).sizes h c.args.device c.requires.first_fits.is_there, (wrote.device c.args.device).size) in
    then_run on
    (weaker (first_turn s c.args.device c.args.at c.args.first.now c.args.then (length c.args.second.now) c.requires.apart clean) wrote.any_moment)
    (weaker (second_turn s mid c.args.device c.args.at c.args.first.now c.args.then (length c.args.second.now) c.requires.apart (done.clean h) fits (done.written h)) (c.write_synced-2.ensures.writes (on.honest h)).any_moment)

pub returns-in_err-write_synced-clause-writes : goal.returns-in_err-write_synced-clause-writes
returns-in_err-write_synced-clause-writes g c h = writes_more (λ d i w. (w.0, inl w.1)) (c.write_synced.ensures.writes h)
