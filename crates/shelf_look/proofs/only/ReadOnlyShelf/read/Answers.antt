use Rattle.shelf_look.proofs.Prelude.{arith, untold_elapses}
use Rattle.shelf_look.proofs.Reading.{counted_elapses, counted_others, one_read}
use Rattle.shelf_look.proofs.only.ReadOnlyShelf.read.Goals as goal

pub returns-in-Ok-clause-time : goal.returns-in-Ok-clause-time
returns-in-Ok-clause-time g c = untold_elapses c.args.self.now.drives c.args.self.now.units c.args.self.now.tallies c.args.self.now.tallies (λ d. omega arith) (λ d. omega arith)

pub returns-in-Ok-clause-rest : goal.returns-in-Ok-clause-rest
returns-in-Ok-clause-rest g c = record {
  on = one_read (g.S.Shelf.shelf c.args.self.now.inner) (g.S.Shelf.shelf c.read.new.self) c.args.device (g.met.S.Shelf.is_shelf c.args.self.now.inner) c.read.ensures.time c.read.ensures.others c.read.ensures.device c.read.ensures.counts;
  rest = c.read.ensures.rest;
}

pub returns-in-Err-clause-time : goal.returns-in-Err-clause-time
returns-in-Err-clause-time g c = counted_elapses c.args.self.now.drives c.args.self.now.units c.args.self.now.tallies c.count_read.new.self c.args.device c.count_read.ensures.others c.count_read.ensures.faults (omega (arith, c.count_read.ensures.stays))

pub returns-in-Err-clause-others : goal.returns-in-Err-clause-others
returns-in-Err-clause-others g c = counted_others c.args.self.now.drives c.args.self.now.units c.args.self.now.tallies c.count_read.new.self c.args.device c.count_read.ensures.others

pub returns-in-Err-clause-rest : goal.returns-in-Err-clause-rest
returns-in-Err-clause-rest g c = record {
  on = one_read (g.S.Shelf.shelf c.args.self.now.inner) (g.S.Shelf.shelf c.read.new.self) c.args.device (g.met.S.Shelf.is_shelf c.args.self.now.inner) c.read.ensures.time c.read.ensures.others c.read.ensures.device c.read.ensures.counts;
  rest = c.read.ensures.rest;
}
