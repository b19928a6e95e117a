use Rattle.table_soundness.proofs.Prelude.{sym, subst, AreObjectsListed}
use Rattle.pyramid.proofs.SpanLemmas.{for_ok}
use Rattle.table_soundness.proofs.ObjectLemmas.{objects_from_list, objects_to_list}
use Rattle.table_soundness.proofs.objects.are_objects_sound.Goals as goal

pub returns : goal.returns
returns c =
    let next = c.args.next.now in
    let ranges = c.args.elided.now in
    let shown = c.args.shown.now in
    for_ok c.are_objects_listed.result _ _ c.are_objects_listed.ensures (λ b h facts same elided visible. (
      λ yes. objects_from_list next ranges facts shown c.requires elided visible (subst (λ fs. AreObjectsListed next ranges fs shown) (sym same) (h.0 yes)),
      λ right. h.1 (subst (λ fs. AreObjectsListed next ranges fs shown) same (objects_to_list next ranges facts shown c.requires elided visible right)),
    ))
