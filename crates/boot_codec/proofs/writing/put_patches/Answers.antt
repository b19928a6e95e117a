use Rattle.boot_codec.proofs.Prelude.{◌<◌, length, ap, arith, length-flat_map-take, patch_bytes}
use Rattle.boot_codec.proofs.writing.put_patches.Goals as goal

pub put_patch-end-requires-clause-room : goal.put_patch-end-requires-clause-room
put_patch-end-requires-clause-room c =
    let p = c.at.result in
    let more : c.loop-i.i < length c.args.patches.now = omega arith in
    omega (arith, c.loop-i.invariant.end, length-flat_map-take patch_bytes c.args.patches.now c.loop-i.i p more, ap (λ x. length (patch_bytes x)) c.at.ensures)
