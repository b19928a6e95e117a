use Rattle.table_soundness.proofs.Prelude.{ap, sym, subst, segment_key, never, is_elided, facts_of, IsShown, facts_in}
use Rattle.pur_base.specs.declared.request.Table.TheVariants as table
use Rattle.pyramid.proofs.SpanLemmas.{for_ok}
use Rattle.table_soundness.proofs.own.segments_hold.Goals as goal

pub are_segments_sound-requires-clause-facts : goal.are_segments_sound-requires-clause-facts
are_segments_sound-requires-clause-facts c = rw c.deref.ensures.value c.requires.facts.segments

pub returns : goal.returns
returns c =
    let t = c.args.tables.now in
    let seen = subst (λ xs. IsShown segment_key (λ f. f.seq.0) never (facts_of t.segments.items) (is_elided (facts_of t.elisions.items) table.Segment) xs) (sym c.deref-2.ensures.value) c.requires.visible.segments in
    for_ok c.are_segments_sound.result _ _ c.are_segments_sound.ensures (λ b h. h (facts_in t) (ap facts_of (sym c.deref.ensures.value)) seen)
