use Rattle.segment_io.proofs.Recovering.{agrees, are_lost, are_shown, has_tried}
use Rattle.segment_io.proofs.gathering.read_stripe.Goals as goal

pub returns-in_default-clause-lost : goal.returns-in_default-clause-lost
returns-in_default-clause-lost g c = are_lost (g.S.Shelf.shelf c.args.shelf.now) (g.S.Shelf.shelf c.gather.new.shelf) c.args.places.now c.args.stripe c.args.unknown.now c.gather.new.unknown c.gather.new.shards c.drives_of.result.drives
    c.gather.ensures.read c.in_default.ensures.three c.drives_of.ensures.each c.drives_of.ensures.no_other

pub returns-clause-read : goal.returns-clause-read
returns-clause-read g c h whole on = c.recover.ensures.restored whole on.codeword
    (agrees (g.S.Shelf.shelf c.args.shelf.now) (g.S.Shelf.shelf c.gather.new.shelf) c.args.places.now c.args.stripe c.args.unknown.now c.gather.new.unknown c.gather.new.shards whole c.in-Some.numbers.items h c.gather.ensures.read c.in-Some.ensures.all on)

pub returns-clause-shown : goal.returns-clause-shown
returns-clause-shown g c h = are_shown (g.S.Shelf.shelf c.args.shelf.now) (g.S.Shelf.shelf c.gather.new.shelf) c.args.places.now c.args.stripe c.args.unknown.now c.gather.new.unknown c.gather.new.shards c.recover.new.shards c.in-Some.numbers.items h c.gather.ensures.read c.in-Some.ensures.all c.recover.ensures.kept

pub returns-in_default-clause-tried : goal.returns-in_default-clause-tried
returns-in_default-clause-tried g c = has_tried (g.S.Shelf.shelf c.args.shelf.now) (g.S.Shelf.shelf c.gather.new.shelf) c.args.places.now c.args.stripe c.args.unknown.now c.gather.new.unknown c.gather.new.shards c.gather.ensures.read

pub returns-clause-tried : goal.returns-clause-tried
returns-clause-tried g c = has_tried (g.S.Shelf.shelf c.args.shelf.now) (g.S.Shelf.shelf c.gather.new.shelf) c.args.places.now c.args.stripe c.args.unknown.now c.gather.new.unknown c.gather.new.shards c.gather.ensures.read
