use Rattle.table_soundness.proofs.Prelude.{ap, sym, subst, medium_key, object_key, is_empty_range, never, is_elided, facts_of, IsShown, facts_in}
use Rattle.pur_base.specs.declared.request.Table.TheVariants as table
use Rattle.pyramid.proofs.SpanLemmas.{for_ok}
use Rattle.table_soundness.proofs.FaultLemmas.{shown_ranges, small_objects, small_starts}
use Rattle.table_soundness.proofs.own.mediums_hold.Goals as goal

pub are_mediums_sound-requires-clause-ascends : goal.are_mediums_sound-requires-clause-ascends
are_mediums_sound-requires-clause-ascends c = rw c.deref-2.ensures.value c.requires.visible.mediums.ascends

pub are_mediums_sound-requires-clause-ranges : goal.are_mediums_sound-requires-clause-ranges
are_mediums_sound-requires-clause-ranges c =
    let t = c.args.tables.now in
    rw c.deref-2.ensures.value (shown_ranges (facts_of t.mediums.items) (is_elided (facts_of t.elisions.items) table.Medium) c.args.visible.now.mediums.items c.requires.facts.mediums c.requires.visible.mediums)

pub are_mediums_sound-requires-clause-facts : goal.are_mediums_sound-requires-clause-facts
are_mediums_sound-requires-clause-facts c = rw c.deref.ensures.value (small_starts (facts_of c.args.tables.now.mediums.items) c.requires.facts.mediums)

pub returns : goal.returns
returns c =
    let t = c.args.tables.now in
    let seen = subst (λ xs. IsShown medium_key (λ f. f.seq.0) is_empty_range (facts_of t.mediums.items) (is_elided (facts_of t.elisions.items) table.Medium) xs) (sym c.deref-2.ensures.value) c.requires.visible.mediums in
    let seen_objects = subst (λ xs. IsShown object_key (λ f. f.seq.0) never (facts_of t.objects.items) (is_elided (facts_of t.elisions.items) table.Object) xs) (sym c.deref-3.ensures.value) c.requires.visible.objects in
    for_ok c.are_mediums_sound.result _ _ c.are_mediums_sound.ensures (λ b h. h (facts_in t) (ap facts_of (sym c.deref.ensures.value)) (small_objects (facts_of t.objects.items) c.requires.facts.objects) seen seen_objects)
