use Rattle.storage_bench.proofs.RunLemmas.{flush_below}
use Rattle.storage_bench.proofs.tables.flush.Goals as goal

pub returns : goal.returns
returns c =
    rw (c.put_flushed.ensures.patches, c.put_flushed.ensures.unflushed, c.in_ok-patch.ensures.patches)
    (flush_below c.args.table.now.patches c.args.table.now.unflushed c.in_ok-patch.patch c.args.next c.in_ok-patch.ensures.patch.source c.requires)
