use Rattle.parity72.proofs.Prelude.{◌≡◌, ℕ, suc, ◌+◌, ap, sym, ◌∙◌, refl, arith, doubled, power_of_two}
use Rattle.parity72.proofs.bytes.power_of_two.Goals as goal

power_of_two-next : (n : ℕ) → power_of_two (n + 1) ≡ doubled (power_of_two n)
unfolding power_of_two
power_of_two-next n = let e : n + 1 ≡ suc n = omega arith in ap power_of_two e

pub loop-k-init : goal.loop-k-init
unfolding power_of_two
loop-k-init c = refl

pub loop-k-preserved : goal.loop-k-preserved
loop-k-preserved c = c.double-power.ensures ∙ ap doubled c.loop-k.invariant ∙ sym (power_of_two-next c.loop-k._k)
