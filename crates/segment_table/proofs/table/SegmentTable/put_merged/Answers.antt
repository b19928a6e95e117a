use Rattle.segment_table.proofs.table.SegmentTable.put_merged.Goals as goal

pub put_merged-requires-clause-source : goal.put_merged-requires-clause-source
put_merged-requires-clause-source c = rw (← c.self.view_is) at c.requires.source
