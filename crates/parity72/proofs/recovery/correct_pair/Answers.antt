use Rattle.parity72.proofs.Prelude.{◌+◌, ◌*◌, ◌<◌, ◌≡◌, ℕ, length, get_or, refl, ap, sym, ◌∙◌, subst, bit_xor, arith, set, times, power_of_two, shard_of, Fixes, both_of, column_of, filled, second_of, weight_of, weighted, with_pair}
use Rattle.parity72.proofs.Sums.{weights-positive}
use Rattle.parity72.proofs.Corrections.{IsPutAt, put-at, fixes-two, fixes-none, fixes-next}
use Rattle.parity72.proofs.Restoring.{restores-pair}
use Rattle.parity72.proofs.recovery.correct_pair.Goals as goal

pub div-by-requires : goal.div-by-requires
div-by-requires c =
    let is : bit_xor c.weight_of.result c.power_of_two.result ≡ bit_xor (weight_of c.args.a) (power_of_two c.args.b) =
    ap (λ x. bit_xor x c.power_of_two.result) c.weight_of.ensures ∙ ap (bit_xor (weight_of c.args.a)) c.power_of_two.ensures in
    subst (λ n. 0 < n) (sym is) (weights-positive c.args.a c.args.b c.requires.b_in c.requires.apart)

pub loop-block-init : goal.loop-block-init
loop-block-init c = fixes-none (with_pair c.args.a c.args.b c.div-by.result) c.args.shards.now

pub loop-block-preserved : goal.loop-block-preserved
loop-block-preserved c =
    let now = c.loop-block.shards in
    let m = c.loop-block.block in
    let at = m * 64 in
    let a = c.args.a in
    let b = c.args.b in
    let by = c.div-by.result in
    let nine : length now ≡ 9 = c.loop-block.invariant.same_count ∙ c.told-shards in
    let x : ℕ → ℕ = λ k. second_of a b by (column_of now k) in
    let y : ℕ → ℕ = λ k. bit_xor (both_of a b (column_of now k)) (second_of a b by (column_of now k)) in
    let s = c.put_lanes.new.into in
    let t = c.put_lanes-in-loop-block.new.into in
    let second_is : (k : ℕ) → k < 64 → get_or c.times_lanes-second.result k 0 ≡ x (at + k) =
    λ k lt. c.times_lanes-second.ensures k lt
    ∙ ap (λ f. times f (get_or c.add_lanes-syndrome.result k 0)) c.of-products.ensures
    ∙ ap (times by)
    (c.add_lanes-syndrome.ensures k lt
    ∙ ap (λ x. bit_xor x (get_or c.lanes_at.result k 0)) (c.filled_q_at-q.ensures k lt)
    ∙ ap (bit_xor (weighted (filled a b (column_of now (at + k))))) (c.lanes_at.ensures.read k lt)) in
    let puts_b : IsPutAt x (shard_of now b) s at 64 =
    put-at x (shard_of now b) s at 64 c.put_lanes.ensures.below
    (λ k lt. c.put_lanes.ensures.here k lt ∙ second_is k lt) c.put_lanes.ensures.above c.put_lanes.auto.into in
    let puts_a : IsPutAt y (shard_of (set now b s) a) t at 64 =
    put-at y (shard_of (set now b s) a) t at 64 c.put_lanes-in-loop-block.ensures.below
    (λ k lt. c.put_lanes-in-loop-block.ensures.here k lt ∙ c.add_lanes.ensures k lt
    ∙ ap (λ t. bit_xor t (get_or c.times_lanes-second.result k 0)) (c.both_at-both.ensures.sum k lt)
    ∙ ap (bit_xor (both_of a b (column_of now (at + k)))) (second_is k lt))
    c.put_lanes-in-loop-block.ensures.above c.put_lanes-in-loop-block.auto.into in
    fixes-next (with_pair a b by) c.args.shards.now now (set (set now b s) a t) m c.loop-block.invariant
    (fixes-two (with_pair a b by) x y now a b s t at 64 (omega arith) (omega arith) puts_b puts_a c.both_at-both.ensures.sizes (λ i k. refl))

pub returns : goal.returns
returns c =
    let is : bit_xor c.weight_of.result c.power_of_two.result ≡ bit_xor (weight_of c.args.a) (power_of_two c.args.b) =
    ap (λ x. bit_xor x c.power_of_two.result) c.weight_of.ensures ∙ ap (bit_xor (weight_of c.args.a)) c.power_of_two.ensures in
    let end : c.loop-block.block * 64 ≡ 4096 = omega arith in
    restores-pair c.args.a c.args.b c.div-by.result c.args.shards.now c.loop-block.shards c.told-shards
    (omega arith) c.requires.b_in c.requires.apart (omega arith) (sym (ap (times c.div-by.result) is) ∙ c.div-by.ensures.quotient)
    (subst (Fixes (with_pair c.args.a c.args.b c.div-by.result) c.args.shards.now c.loop-block.shards 0) end c.loop-block.invariant)
