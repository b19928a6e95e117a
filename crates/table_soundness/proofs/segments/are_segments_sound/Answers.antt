use Rattle.table_soundness.proofs.Prelude.{◌≡◌, ◌≤◌, length, sym, subst, arith, All, Geometry, SEGMENT_SHARDS, IsFact, facts_of, All-weaker, AreSegmentsListed}
use Rattle.pur_base.specs.declared.facts.AnyFact.TheVariants as any
use Rattle.pyramid.proofs.SpanLemmas.{for_ok}
use Rattle.table_soundness.proofs.SegmentLemmas.{segments_from_list, segments_to_list}
use Rattle.table_soundness.proofs.segments.are_segments_sound.Goals as goal

pub returns : goal.returns
returns c =
    let shelf : Geometry = record { slots = c.args.slots; units = c.args.units } in
    let boot = c.args.boot.now in
    let shown = c.args.shown.now in
    let fs = facts_of c.args.patches.now in
    let small : c.args.units ≤ 65536 = omega arith in
    let nine : All (λ f. length f.places ≡ SEGMENT_SHARDS) fs = All-weaker (λ f. IsFact (any.Segment f)) (λ f. length f.places ≡ SEGMENT_SHARDS) (λ f x. x.fits.0) fs c.requires.facts in
    for_ok c.are_segments_listed.result _ _ c.are_segments_listed.ensures (λ b h facts same visible. (
      λ yes. segments_from_list shelf boot facts shown small c.requires.boot (subst (λ gs. All (λ f. length f.places ≡ SEGMENT_SHARDS) gs) (sym same) nine) visible (subst (λ gs. AreSegmentsListed shelf boot gs shown) (sym same) (h.0 yes)),
      λ right. h.1 (subst (λ gs. AreSegmentsListed shelf boot gs shown) same (segments_to_list shelf boot facts shown small c.requires.boot (subst (λ gs. All (λ f. length f.places ≡ SEGMENT_SHARDS) gs) (sym same) nine) visible right)),
    ))
