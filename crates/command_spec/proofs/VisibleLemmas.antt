-- The visible segments beside the facts that they come from.
use Rattle.command_spec.proofs.Prelude.{◌≡◌, ◌<◌, sym, arith, segments, is_elided, SegmentFact, all_contained, facts, of_each, Kept, IsKept}
use Rattle.pur_base.specs.declared.request.Table.TheVariants as table
use Rattle.segment_table.proofs.SegmentLemmas.{by_ids}

pub visible_segments_are : (k : Kept) → IsKept k → segments (facts k.memory.tables) k.memory.next.segment ≡ k.segments
visible_segments_are k h =
    sym (by_ids (facts k.memory.tables).segments (is_elided (facts k.memory.tables).elisions table.Segment) k.memory.next.segment k.segments (omega (arith, h.next.segment.1))
    (all_contained (λ (f : SegmentFact). f.segment.0 < k.memory.next.segment) (facts k.memory.tables).segments
    (λ f c. of_each (λ (d : SegmentFact). d.segment.0 < k.memory.next.segment) (facts k.memory.tables).segments f h.ids.segments c)) h.segments)
