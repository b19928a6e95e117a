use Rattle.nvram_log.proofs.Looking.{reads_then}
use Rattle.nvram_log.proofs.read.read_both.Goals as goal

pub returns-in_err-second-clause-reads : goal.returns-in_err-second-clause-reads
returns-in_err-second-clause-reads g c = reads_then g.met.S.Shelf.shelf_rest_stays c.read_device.ensures.reads c.read_device-2.ensures.reads

pub returns-clause-reads : goal.returns-clause-reads
returns-clause-reads g c = reads_then g.met.S.Shelf.shelf_rest_stays c.read_device.ensures.reads c.read_device-2.ensures.reads
