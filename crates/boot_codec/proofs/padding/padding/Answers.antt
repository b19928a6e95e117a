use Rattle.boot_codec.proofs.Prelude.{◌≡◌, take, sym, ap, ◌∙◌, arith, zeros, padding}
use Rattle.boot_codec.proofs.PaddingLemmas.{padding_block}
use Rattle.boot_codec.proofs.padding.padding.Goals as goal

pub loop-preserved : goal.loop-preserved
loop-preserved c =
    let rest = c.loop.rest.now in
    let zero : take 512 rest ≡ zeros 512 = sym c.split_at.ensures.front ∙ c.is_zero.ensures c.if-not-is_zero.false ∙ ap zeros c.split_at.ensures.front_len in
    (omega (arith, c.split_at.ensures.back_len, c.loop.invariant.0), ap padding c.split_at.ensures.back ∙ padding_block 512 rest zero ∙ c.loop.invariant.1)
