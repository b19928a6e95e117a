use Rattle.nvram_log.proofs.Prelude.{nvram}
use Rattle.nvram_log.proofs.Looking.{reads_once}
use Rattle.nvram_log.proofs.reading.read_at.Goals as goal

pub returns-clause-reads : goal.returns-clause-reads
returns-clause-reads g c =
    reads_once (nvram c.args.device.0) tt (g.met.S.Shelf.is_shelf c.args.shelf.now) c.read.ensures.time c.read.ensures.others c.read.ensures.rest c.read.ensures.device c.read.ensures.counts.write_faults
