use Rattle.table_soundness.proofs.Prelude.{◌≤◌, ◌^◌, sym, subst, arith, All, AreMediumsListed}
use Rattle.pyramid.proofs.SpanLemmas.{for_ok}
use Rattle.table_soundness.specs.Mediums.{IsSmall}
use Rattle.table_soundness.proofs.MediumLemmas.{mediums_from_list, mediums_to_list}
use Rattle.table_soundness.proofs.mediums.are_mediums_sound.Goals as goal

pub returns : goal.returns
returns c =
    let next = c.args.next_medium in
    let shown = c.args.shown.now in
    let objects = c.args.objects.now in
    let bound : next ≤ 2 ^ 64 = omega arith in
    for_ok c.are_mediums_listed.result _ _ c.are_mediums_listed.ensures (λ b h facts same few seen seen_objects.
    let small = subst (λ fs. All IsSmall fs) (sym same) c.requires.facts in (
      λ yes. mediums_from_list next facts shown objects bound small c.requires.ranges few seen seen_objects (subst (λ fs. AreMediumsListed next fs shown objects) (sym same) (h.0 yes)),
      λ right. h.1 (subst (λ fs. AreMediumsListed next fs shown objects) same (mediums_to_list next facts shown objects bound small c.requires.ranges few seen seen_objects right)),
    ))
