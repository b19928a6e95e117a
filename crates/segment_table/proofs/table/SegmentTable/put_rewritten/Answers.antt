use Rattle.segment_table.proofs.table.SegmentTable.put_rewritten.Goals as goal

pub put_rewritten-requires-clause-source : goal.put_rewritten-requires-clause-source
put_rewritten-requires-clause-source c = rw (← c.self.view_is) at c.requires.source
