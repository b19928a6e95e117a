use Rattle.takeover.proofs.Prelude.{rules, ◌≡◌, length, take, arith, length-take, gate_place, other_slot, ran_more, slot_in}
use Rattle.takeover.proofs.Fronts.{stays_clean, front_closed, front_one, front_loaded, front_found, front_tells, whole_force}
use Rattle.takeover.proofs.finding.settle_loaded.Goals as goal

pub returns-clause-ran : goal.returns-clause-ran
returns-clause-ran g c = ran_more (front_one c.drives-slots.result c.args.loaded.now.drives) (front_closed c.drives-slots.result c.args.loaded.now.drives (g.S.Shelf.shelf c.args.shelf.now) _) c.settle.ensures.ran

pub returns-clause-clean : goal.returns-clause-clean
returns-clause-clean g c h d clean =
    stays_clean (g.S.Shelf.shelf c.args.shelf.now) (g.S.Shelf.shelf c.settle.new.shelf) (take c.drives-slots.result c.args.loaded.now.drives) c.settle.new.members (gate_place (slot_in c.args.loaded.now.slot))
    h c.settle.ensures.outcome c.settle.ensures.ran.on.others d clean

pub returns-clause-any_moment : goal.returns-clause-any_moment
returns-clause-any_moment g c h missing arrays loaded = c.settle.ensures.any_moment h missing c.args.loaded.now.record arrays (front_loaded c.drives-slots.result loaded)

pub returns-clause-settled : goal.returns-clause-settled
returns-clause-settled g c h missing arrays loaded found below later tells =
    let n = c.drives-slots.result in
    let a = g.S.Shelf.shelf c.args.shelf.now in
    let is_shelf = g.met.S.Shelf.is_shelf c.args.shelf.now in
    let flags : length c.args.loaded.now.drives ≡ 24 = search rules in
    let long : length c.settle.new.members ≡ length (take n c.args.loaded.now.drives) = search rules in
    whole_force c.settle.new.members _ (g.S.Shelf.shelf c.settle.new.shelf) later (other_slot (slot_in c.args.loaded.now.slot)) c.args.loaded.now.record
    (λ i m. omega (arith, below i m, long, length-take n c.args.loaded.now.drives, flags, is_shelf.drives.1, c.drives-slots.ensures))
    (c.settle.ensures.settled h missing c.args.loaded.now.record arrays (front_loaded n loaded) (front_found n (omega (arith, c.drives-slots.ensures)) found) later (front_tells n tells))
