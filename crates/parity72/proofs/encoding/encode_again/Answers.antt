use Rattle.parity72.proofs.Prelude.{◌≡◌, ◌+◌, ◌*◌, length, subst, ◌∙◌, arith, set, Encodes}
use Rattle.parity72.proofs.Corrections.{encodes-none, encodes-more}
use Rattle.parity72.proofs.encoding.encode_again.Goals as goal

pub loop-block-init : goal.loop-block-init
loop-block-init c = encodes-none c.args.shards.now

pub loop-block-preserved : goal.loop-block-preserved
loop-block-preserved c =
    let now = c.loop-block.shards in
    let m = c.loop-block.block in
    let end : m * 64 + 64 ≡ (m + 1) * 64 = omega arith in
    let s = c.put_lanes.new.into in
    let t = c.put_lanes-in-loop-block.new.into in
    let nine : length now ≡ 9 = c.loop-block.invariant.same_count ∙ c.told-shards in
    subst (Encodes c.args.shards.now (set (set now 7 s) 8 t)) end
    (encodes-more c.args.shards.now now s t (m * 64) 64 c.told-shards c.loop-block.invariant (λ i lt. c.parities_at.ensures.was_read.sizes i (omega arith) (omega arith))
    (record { below = c.put_lanes.ensures.below; here = λ k lt. c.put_lanes.ensures.here k lt ∙ c.parities_at.ensures.p k lt; same_size = c.put_lanes.auto.into })
    (record { below = c.put_lanes-in-loop-block.ensures.below; here = λ k lt. c.put_lanes-in-loop-block.ensures.here k lt ∙ c.parities_at.ensures.q k lt; same_size = c.put_lanes-in-loop-block.auto.into }))

pub returns : goal.returns
returns c =
    let end : c.loop-block.block * 64 ≡ 4096 = omega arith in
    subst (Encodes c.args.shards.now c.loop-block.shards) end c.loop-block.invariant
