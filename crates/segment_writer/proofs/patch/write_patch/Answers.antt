use Rattle.segment_writer.proofs.Prelude.{map, on_ok_weaker}
use Rattle.segment_writer.proofs.PatchLayout.{may_be_headed, may_be_spelled, have_stripes}
use Rattle.segment_writer.proofs.PatchShown.{shown_after}
use Rattle.segment_writer.proofs.patch.write_patch.Goals as goal

pub write_all-requires-clause-headed : goal.write_all-requires-clause-headed
write_all-requires-clause-headed g c = may_be_headed (g.S.Shelf.shelf c.args.shelf.now) c.args.patch.now c.args.generation c.requires.headed

pub write_all-requires-clause-have_stripes : goal.write_all-requires-clause-have_stripes
write_all-requires-clause-have_stripes g c =
    let facts = map g.F.TableFact.any c.args.facts.now in
    have_stripes c.args.patch.now c.args.generation facts (may_be_spelled (g.S.Shelf.shelf c.args.shelf.now) c.args.patch.now facts c.requires.stored)

pub returns-clause-stand : goal.returns-clause-stand
returns-clause-stand g c h =
    on_ok_weaker c.write_all.result (λ written stop view may shows. shown_after (g.S.Shelf.shelf c.args.shelf.now) (g.S.Shelf.shelf c.write_all.new.shelf) c.args.patch.now c.args.generation c.write_all.new.lost.drives (map g.F.TableFact.any c.args.facts.now) stop view
    c.requires.stored written may shows) (c.write_all.ensures.written h)
