use Rattle.pur_base.specs.declared.request.Table.TheVariants as table
use Rattle.segment_table.proofs.Prelude.{is_elided}
use Rattle.segment_table.proofs.SegmentLemmas.{by_ids}
use Rattle.segment_table.proofs.laws.laws_of_segments.Goals as goal

pub returns : goal.returns
returns c = λ facts next t same small below visible. by_ids facts.segments (is_elided facts.elisions table.Segment) next t.visible small below (rw same visible)
