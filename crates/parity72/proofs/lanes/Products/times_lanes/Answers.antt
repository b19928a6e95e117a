use Rattle.parity72.proofs.Prelude.{◌≡◌, ℕ, ◌+◌, ◌*◌, ◌/◌, ◌%◌, ◌<◌, get_or, length, refl, ap, ◌∙◌, arith, w8, bit_xor, swz_l, SwzOk-from_below, length-swz_l, get_or-swz_l_below, Each1-get_or, times}
use Rattle.parity72.proofs.Linear.{times-halves}
use Rattle.parity72.proofs.LaneFacts.{zip-at}
use Rattle.parity72.proofs.lanes.Products.times_lanes.Goals as goal

pub swizzle : goal.swizzle
swizzle c = SwzOk-from_below w8 16 4 64 0 c.low_half-low.result refl (omega (arith, c.low_half-low.ensures.long)) c.low_half-low.ensures.small

pub swizzle-2 : goal.swizzle-2
swizzle-2 c = SwzOk-from_below w8 16 4 64 0 c.high_half-high.result refl (omega (arith, c.high_half-high.ensures.long)) c.high_half-high.ensures.small

same_row : (q r : ℕ) → r < 16 → (16 * q + r) % 16 ≡ r
same_row q r lt = omega arith

pub returns : goal.returns
returns c k lt =
    let t = c.args.self.now in
    let lows = c.spread-low_table in
    let highs = c.spread-high_table in
    let ls = c.low_half-low.result in
    let hs = c.high_half-high.result in
    let x = get_or c.args.lanes k 0 in
    let row = (0 + k) / 16 in
    let l : get_or ls k 0 ≡ x % 16 = c.low_half-low.ensures.each k lt in
    let h : get_or hs k 0 ≡ x / 16 = c.high_half-high.ensures.each k lt in
    let ll : length ls ≡ 64 = c.low_half-low.ensures.long in
    let lh : length hs ≡ 64 = c.high_half-high.ensures.long in
    let lsmall : get_or ls k 0 < 16 = Each1-get_or (λ j. j < 16) ls k 0 (omega arith) c.low_half-low.ensures.small in
    let hsmall : get_or hs k 0 < 16 = Each1-get_or (λ j. j < 16) hs k 0 (omega arith) c.high_half-high.ensures.small in
    zip-at bit_xor 64 (swz_l w8 16 lows.result 0 ls) (swz_l w8 16 highs.result 0 hs) (length-swz_l w8 16 lows.result 0 ls ∙ ll) (length-swz_l w8 16 highs.result 0 hs ∙ lh) k lt
    ∙ ap (λ t. bit_xor t (get_or (swz_l w8 16 highs.result 0 hs) k 0))
    (get_or-swz_l_below w8 16 lows.result 0 ls k (omega arith) lsmall ∙ lows.ensures (16 * row + get_or ls k 0) (omega arith)
    ∙ ap (λ q. get_or t.low q 0) (same_row row (get_or ls k 0) lsmall) ∙ t.low_products (get_or ls k 0) lsmall ∙ ap (times t.factor) l)
    ∙ ap (bit_xor (times t.factor (x % 16)))
    (get_or-swz_l_below w8 16 highs.result 0 hs k (omega arith) hsmall ∙ highs.ensures (16 * row + get_or hs k 0) (omega arith)
    ∙ ap (λ q. get_or t.high q 0) (same_row row (get_or hs k 0) hsmall) ∙ t.high_products (get_or hs k 0) hsmall ∙ ap (λ r. times t.factor (r * 16)) h)
    ∙ times-halves t.factor x
