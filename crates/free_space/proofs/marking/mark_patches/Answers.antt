use Rattle.free_space.proofs.Prelude.{false, List, sym, ap, subst, ◌∙◌, arith, Patch, PatchSegment, with_units, CanMark, patch_units, patches_units}
use Rattle.free_space.proofs.Loops.{next_can, next_marked}
use Rattle.free_space.proofs.marking.mark_patches.Goals as goal

pub mark_patch-requires : goal.mark_patch-requires
mark_patch-requires c =
    let patches = c.args.patches.now in
    let patch = c.at-patch.result in
    subst (λ (ss : List PatchSegment). CanMark c.loop-index.map (patch_units ss)) (sym c.as_slice.ensures)
    (next_can (λ (p : Patch). patch_units p.segments) patches c.loop-index.index patch patch c.args.map.now c.loop-index.map (patches_units patches) (omega (arith, c.loop-index-test.true, c.len-index-end.ensures)) (sym c.at-patch.ensures) c.loop-index.invariant)

pub loop-index-preserved : goal.loop-index-preserved
loop-index-preserved c =
    let patches = c.args.patches.now in
    let patch = c.at-patch.result in
    next_marked (λ (p : Patch). patch_units p.segments) patches c.loop-index.index patch patch c.args.map.now c.loop-index.map c.mark_patch.new.map (patches_units patches) (omega (arith, c.loop-index-test.true, c.len-index-end.ensures)) (sym c.at-patch.ensures) c.loop-index.invariant
    (c.mark_patch.ensures ∙ ap (λ (ss : List PatchSegment). with_units false c.loop-index.map (patch_units ss)) c.as_slice.ensures)
