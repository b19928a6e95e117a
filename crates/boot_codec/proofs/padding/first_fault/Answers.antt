use Rattle.boot_codec.proofs.Prelude.{◌≡◌, ◌-◌, [], length, take, drop, sym, ap, ◌∙◌, refl, arith, length-drop, take_all, drop_all, padding}
use Rattle.boot_codec.proofs.PaddingLemmas.{padding_goes_on, padding_fails, padding_of_zeros}
use Rattle.boot_codec.proofs.padding.first_fault.Goals as goal

pub returns-then-bytes-i-ne0 : goal.returns-then-bytes-i-ne0
returns-then-bytes-i-ne0 c =
    let bytes = c.args.bytes.now in
    let i = c.loop-i.i in
    let rest : take (length bytes - i) (drop i bytes) ≡ drop i bytes = take_all _ _ (omega (arith, length-drop i bytes)) in
    rw (c.fault_at.ensures, rest) (sym c.loop-i.invariant ∙ padding_fails bytes i c.loop-i-test.true c.if-bytes-i-ne0.true)

pub loop-i-preserved : goal.loop-i-preserved
loop-i-preserved c = padding_goes_on c.args.bytes.now c.loop-i.i c.loop-i-test.true c.if-bytes-i-ne0.false ∙ c.loop-i.invariant

pub returns : goal.returns
returns c = sym c.loop-i.invariant ∙ ap padding (drop_all c.loop-i.i c.args.bytes.now c.loop-i-test.false) ∙ padding_of_zeros [] refl
