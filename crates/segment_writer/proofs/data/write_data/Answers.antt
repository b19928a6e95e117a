use Rattle.segment_writer.proofs.DataLayout.{have_stripes}
use Rattle.segment_writer.proofs.Prelude.{on_ok_weaker}
use Rattle.segment_writer.proofs.DataShown.{shown_after}
use Rattle.segment_writer.proofs.data.write_data.Goals as goal

pub write_all-requires-clause-have_stripes : goal.write_all-requires-clause-have_stripes
write_all-requires-clause-have_stripes g c = have_stripes c.args.segments.now c.args.generation c.args.order.now c.requires.placed.filled

pub returns-clause-stand : goal.returns-clause-stand
returns-clause-stand g c h =
    on_ok_weaker c.write_all.result (λ written stop view may shows. shown_after (g.S.Shelf.shelf c.args.shelf.now) (g.S.Shelf.shelf c.write_all.new.shelf) c.args.segments.now c.args.generation c.write_all.new.lost.drives c.args.staged.now c.args.order.now stop view
    c.requires.placed written may shows) (c.write_all.ensures.written h)
