use Rattle.target_io.proofs.Prelude.{◌≡◌, ◌*◌, length, take, drop, length-take-le, on_ok_weaker, IfErr-weaker, facts}
use Rattle.target_io.proofs.InSegment.{run_read, run_lost}
use Rattle.target_io.proofs.segments.read_segment.Goals as goal

pub returns-clause-sectors : goal.returns-clause-sectors
returns-clause-sectors g c h =
    let at = c.args.at in
    let run = c.requires.run in
    let size = 512 * c.args.count in
    let whole : length (take size c.args.out.now) ≡ size = length-take-le size c.args.out.now c.requires.size in
    on_ok_weaker c.read_sectors.result (λ read contents view. run_read (g.S.Shelf.shelf c.args.shelf.now) (facts c.args.memory.now.memory.tables) c.args.missing.now contents view at.segment.0 at.index c.args.count run.which c.in-Some.places (take size c.args.out.now) c.read_sectors.new.into (drop size c.args.out.now)
    c.requires.places run.there run.placed whole c.in-Some.ensures.some read c.read_sectors.auto.into)
    (c.read_sectors.ensures.sectors h)

pub returns-clause-lost : goal.returns-clause-lost
returns-clause-lost g c = IfErr-weaker c.read_sectors.result _ _
    (λ lost are. run_lost (g.S.Shelf.shelf c.args.shelf.now) (g.S.Shelf.shelf c.read_sectors.new.shelf) (facts c.args.memory.now.memory.tables) c.args.missing.now lost.drives c.args.at.segment.0 c.in-Some.places c.requires.places c.in-Some.ensures.some are)
    c.read_sectors.ensures.lost
