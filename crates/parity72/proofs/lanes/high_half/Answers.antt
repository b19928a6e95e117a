use Rattle.parity72.proofs.Prelude.{◌≡◌, ℕ, ◌<◌, ◌%◌, ◌/◌, ◌^◌, get_or, replicate, ap, ◌∙◌, arith, w8, Each1-get_or, get_or-replicate}
use mir.Val.{Fits}
use Rattle.parity72.proofs.LaneFacts.{len-rep, zip-at}
use Rattle.parity72.proofs.lanes.high_half.Goals as goal

small_rest : (x : ℕ) → x < 256 → x / 16 % 16 ≡ x / 16
small_rest x lt = omega arith

pub returns-clause-long : goal.returns-clause-long
returns-clause-long c = c.low_half.ensures.long

pub returns-clause-each : goal.returns-clause-each
returns-clause-each c k lt =
    let v = c.args.lanes in
    c.low_half.ensures.each k lt
    ∙ ap (λ t. t % 16)
    (zip-at (λ a b. a / 2 ^ b) 64 v (replicate 64 4) c.fits-lanes.0 (len-rep 64 4) k lt
    ∙ ap (λ b. get_or v k 0 / 2 ^ b) (get_or-replicate 64 k 4 0 lt))
    ∙ small_rest (get_or v k 0) (Each1-get_or (Fits w8) v k 0 (omega (arith, c.fits-lanes.0)) c.fits-lanes.1).fits
