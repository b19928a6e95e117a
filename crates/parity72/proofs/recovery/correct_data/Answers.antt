use Rattle.parity72.proofs.Prelude.{◌≡◌, ◌*◌, ◌<◌, ℕ, length, length-set, ◌∙◌, subst, arith, set, shard_of, Fixes, both_of, column_of, with_data}
use Rattle.parity72.proofs.Corrections.{IsPutAt, put-at, fixes-one, outside-one, sizes-one, fixes-none, fixes-next}
use Rattle.parity72.proofs.Restoring.{restores-data}
use Rattle.parity72.proofs.recovery.correct_data.Goals as goal

pub loop-block-init : goal.loop-block-init
loop-block-init c = fixes-none (with_data c.args.a) c.args.shards.now

pub loop-block-preserved : goal.loop-block-preserved
loop-block-preserved c =
    let a = c.args.a in
    let now = c.loop-block.shards in
    let m = c.loop-block.block in
    let at = m * 64 in
    let s = c.put_lanes.new.into in
    let nine : length now ≡ 9 = c.loop-block.invariant.same_count ∙ c.told-shards in
    let a_in : a < length now = omega arith in
    let x : ℕ → ℕ = λ k. both_of a 8 (column_of now k) in
    let puts : IsPutAt x (shard_of now a) s at 64 =
    put-at x (shard_of now a) s at 64 c.put_lanes.ensures.below
    (λ k lt. c.put_lanes.ensures.here k lt ∙ c.both_at-data.ensures.sum k lt) c.put_lanes.ensures.above c.put_lanes.auto.into in
    fixes-next (with_data a) c.args.shards.now now (set now a s) m c.loop-block.invariant
    (record {
      sizes = λ i lt some. c.both_at-data.ensures.sizes i lt;
      fixed = fixes-one x now a s at 64 a_in puts;
      outside = outside-one x now a s at 64 a_in puts;
      same_count = length-set now a s;
      same_sizes = sizes-one x now a s at 64 a_in puts;
    })

pub returns : goal.returns
returns c =
    let end : c.loop-block.block * 64 ≡ 4096 = omega arith in
    restores-data c.args.a c.args.shards.now c.loop-block.shards c.told-shards c.requires (subst (Fixes (with_data c.args.a) c.args.shards.now c.loop-block.shards 0) end c.loop-block.invariant)
