use Rattle.table_soundness.proofs.Prelude.{◌≤◌, ◌^◌, sym, subst, arith, All, AreAddressesListed, IsSmall}
use Rattle.table_soundness.proofs.AddressLemmas.{addresses_from_list, addresses_to_list}
use Rattle.table_soundness.proofs.addresses.are_addresses_sound.Goals as goal

pub returns : goal.returns
returns c = λ facts same few few_segments seen seen_objects seen_segments.
    let next = c.args.next_medium in
    let shown = c.args.shown.now in
    let objects = c.args.objects.now in
    let segments = c.args.segments.now in
    let bound : next ≤ 2 ^ 64 = omega arith in
    let small = subst (λ fs. All IsSmall fs) (sym same) c.requires.facts in
    let h = c.are_addresses_listed.ensures in (
      λ yes. addresses_from_list next facts shown objects segments bound small few few_segments seen seen_objects seen_segments (subst (λ fs. AreAddressesListed next fs shown objects segments) (sym same) (h.0 yes)),
      λ right. h.1 (subst (λ fs. AreAddressesListed next fs shown objects segments) same (addresses_to_list next facts shown objects segments bound small few few_segments seen seen_objects seen_segments right)),
    )
