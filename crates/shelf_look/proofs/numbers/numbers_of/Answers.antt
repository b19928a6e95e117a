use Rattle.shelf_look.proofs.Prelude.{◌∙◌, sym, ap, arith, refl, List, length, sum_by, SegmentFact, all_facts, facts, patches, set_count}
use Rattle.shelf_look.proofs.Counting.{few_segments}
use Rattle.shelf_look.proofs.Making.{data_segments, shown_by_patches}
use Rattle.shelf_look.proofs.numbers.numbers_of.Goals as goal

pub groups_left-requires-clause-sound : goal.groups_left-requires-clause-sound
groups_left-requires-clause-sound c =
    let o = c.args.opening.now in
    data_segments c.requires.0 o.loaded.record o.memory c.requires.1.lawful c.requires.1.memory _ c.segments-segments.ensures.said

-- there are no more segments than ids that were given
pub placed_in-requires : goal.placed_in-requires
placed_in-requires c =
    let m = c.args.opening.now.memory.memory in
    omega (arith, ap length c.segments-segments.ensures.said, few_segments (facts m.tables) m.next.segment, c.requires.1.lawful.lawful.next.segment, ap (λ n. n.segment) c.requires.1.memory.next)

pub returns : goal.returns
returns c =
    let o = c.args.opening.now in
    let said = c.segments-segments.ensures.said in
    let shown = shown_by_patches c.requires.0 o.loaded.record o.memory c.requires.1.lawful c.requires.1.memory ∙ said in
    record {
      generation = refl;
      drives = c.set_flags.ensures;
      holding = c.set_flags-2.ensures;
      nvrams = c.set_flags-3.ensures;
      answering = c.set_flags-4.ensures ∙ ap set_count c.members.ensures;
      groups = c.groups_left.ensures (all_facts (patches o.memory.memory.tables)) shown;
      segments = ap (λ (l : List SegmentFact). length l) (sym said);
      placed = c.placed_in.ensures ∙ ap (λ (l : List SegmentFact). sum_by (λ d. d.placed) l) (sym said);
      patch_segments = c.segments_of.ensures;
      free_slots = omega (arith, c.free_slots.ensures);
    }
