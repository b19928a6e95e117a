use Rattle.segment_writer.proofs.Prelude.{map}
use Rattle.segment_writer.proofs.PatchLayout.{may_be_headed, may_be_spelled, have_stripes}
use Rattle.segment_writer.proofs.patch.append_patch.Goals as goal

pub append_all-requires-clause-headed : goal.append_all-requires-clause-headed
append_all-requires-clause-headed g c = may_be_headed (g.S.Shelf.shelf c.args.shelf.now) c.args.patch.now 0 c.requires.headed

pub append_all-requires-clause-have_stripes : goal.append_all-requires-clause-have_stripes
append_all-requires-clause-have_stripes g c =
    let facts = map g.F.TableFact.any c.args.facts.now in
    have_stripes c.args.patch.now 0 facts (may_be_spelled (g.S.Shelf.shelf c.args.shelf.now) c.args.patch.now facts c.requires.stored)
