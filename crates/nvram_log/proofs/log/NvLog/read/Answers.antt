use Rattle.nvram_log.proofs.Viewed.{read_from, seen_from}
use Rattle.nvram_log.proofs.log.NvLog.read.Goals as goal

pub returns-clause-log : goal.returns-clause-log
returns-clause-log g c = read_from c.in_ok-reads.ensures.read c.in_ok-log_of.ensures.log

pub returns-clause-seen : goal.returns-clause-seen
returns-clause-seen g c = seen_from c.in_ok-reads.ensures.read c.in_ok-log_of.ensures.log
