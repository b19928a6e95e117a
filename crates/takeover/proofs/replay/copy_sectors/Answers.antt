use Rattle.takeover.proofs.Prelude.{◌*◌, [], sym, ◌∙◌, ap, arith, ext_get_or, bytes_at}
use Rattle.takeover.proofs.Applying.{part_of}
use Rattle.takeover.proofs.replay.copy_sectors.Goals as goal

pub returns : goal.returns
returns c sectors long each is =
    let inv = c.loop-i.invariant in
    ext_get_or [] c.loop-i.into sectors (inv.size ∙ sym long)
    (λ k lt. inv.copied k (omega (arith, lt, inv.size, c.loop-i-test.false)) ∙ ap (bytes_at (512 * k) 512) is ∙ part_of sectors k (omega (arith, lt, inv.size, long)) each)
