use Rattle.shelf_look.proofs.Reading.{counted_elapses, counted_others, risen}
use Rattle.shelf_look.proofs.Prelude.{none_read}
use Rattle.shelf_look.proofs.only.ReadOnlyShelf.write.Goals as goal

pub returns-clause-time : goal.returns-clause-time
returns-clause-time g c = counted_elapses c.args.self.now.drives c.args.self.now.units c.args.self.now.tallies c.count_write.new.self c.args.device c.count_write.ensures.others c.count_write.ensures.faults (risen _ _ c.count_write.ensures.write_faults)

pub returns-clause-others : goal.returns-clause-others
returns-clause-others g c = counted_others c.args.self.now.drives c.args.self.now.units c.args.self.now.tallies c.count_write.new.self c.args.device c.count_write.ensures.others

pub returns-clause-rest : goal.returns-clause-rest
returns-clause-rest g c = record { on = none_read (g.S.Shelf.shelf c.args.self.now.inner) (g.met.S.Shelf.is_shelf c.args.self.now.inner); rest = g.met.S.Shelf.shelf_rest_stays.reflexive c.args.self.now.inner }
