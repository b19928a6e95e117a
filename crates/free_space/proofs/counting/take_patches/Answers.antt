use Rattle.free_space.proofs.Prelude.{List, sym, subst, arith, Patch, PatchSegment, patch_units, patches_units, HasUnits, LosesUnits}
use Rattle.free_space.proofs.Taking.{next_has, next_taken, taking_none, all_taken}
use Rattle.free_space.proofs.counting.take_patches.Goals as goal

pub loop-index-init : goal.loop-index-init
loop-index-init c = taking_none c.args.free.now (patches_units c.args.patches.now) c.requires

pub take_patch-requires : goal.take_patch-requires
take_patch-requires c =
    let patches = c.args.patches.now in
    let patch = c.at-patch.result in
    subst (λ (ss : List PatchSegment). HasUnits c.loop-index.free (patch_units ss)) (sym c.as_slice.ensures)
    (next_has (λ (p : Patch). patch_units p.segments) patches c.loop-index.index patch patch c.args.free.now c.loop-index.free (patches_units patches) (omega (arith, c.loop-index-test.true, c.len-index-end.ensures)) (sym c.at-patch.ensures) c.loop-index.invariant)

pub loop-index-preserved : goal.loop-index-preserved
loop-index-preserved c =
    let patches = c.args.patches.now in
    let patch = c.at-patch.result in
    next_taken (λ (p : Patch). patch_units p.segments) patches c.loop-index.index patch patch c.args.free.now c.loop-index.free c.take_patch.new.free (patches_units patches) (omega (arith, c.loop-index-test.true, c.len-index-end.ensures)) (sym c.at-patch.ensures) c.loop-index.invariant
    (subst (λ (ss : List PatchSegment). LosesUnits c.loop-index.free c.take_patch.new.free (patch_units ss)) c.as_slice.ensures c.take_patch.ensures)

pub returns : goal.returns
returns c = all_taken (λ (p : Patch). patch_units p.segments) c.args.patches.now c.loop-index.index c.args.free.now c.loop-index.free (patches_units c.args.patches.now) (omega (arith, c.loop-index-test.false, c.len-index-end.ensures)) c.loop-index.invariant
