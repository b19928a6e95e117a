use Rattle.table_soundness.proofs.Prelude.{ap, sym, subst, arith, object_key, never, is_elided, facts_of, IsShown, facts_in}
use Rattle.pur_base.specs.declared.request.Table.TheVariants as table
use Rattle.pyramid.proofs.SpanLemmas.{for_ok}
use Rattle.table_soundness.proofs.own.objects_hold.Goals as goal

pub are_objects_sound-requires : goal.are_objects_sound-requires
are_objects_sound-requires c = let n = c.requires.boot.next.object.1 in omega (arith, n)

pub returns : goal.returns
returns c =
    let t = c.args.tables.now in
    let seen = subst (λ xs. IsShown object_key (λ f. f.seq.0) never (facts_of t.objects.items) (is_elided (facts_of t.elisions.items) table.Object) xs) (sym c.deref-2.ensures.value) c.requires.visible.objects in
    for_ok c.are_objects_sound.result _ _ c.are_objects_sound.ensures (λ b h. h (facts_in t) (ap facts_of (sym c.deref.ensures.value)) c.requires.elided seen)
