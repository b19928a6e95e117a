use Rattle.parity72.proofs.Prelude.{◌≡◌, ◌*◌, ℕ, length, refl, ◌∙◌, subst, arith, set, shard_of, Fixes, both_of, column_of, filled, weighted, with_data_and_q}
use Rattle.parity72.proofs.Corrections.{IsPutAt, put-at, fixes-two, fixes-none, fixes-next}
use Rattle.parity72.proofs.Restoring.{restores-data-and-q}
use Rattle.parity72.proofs.recovery.correct_data_and_q.Goals as goal

pub loop-block-init : goal.loop-block-init
loop-block-init c = fixes-none (with_data_and_q c.args.a) c.args.shards.now

pub loop-block-preserved : goal.loop-block-preserved
loop-block-preserved c =
    let a = c.args.a in
    let now = c.loop-block.shards in
    let m = c.loop-block.block in
    let at = m * 64 in
    let s = c.put_lanes.new.into in
    let t = c.put_lanes-in-loop-block.new.into in
    let nine : length now ≡ 9 = c.loop-block.invariant.same_count ∙ c.told-shards in
    let x : ℕ → ℕ = λ k. both_of a 8 (column_of now k) in
    let y : ℕ → ℕ = λ k. weighted (filled a 8 (column_of now k)) in
    let puts_a : IsPutAt x (shard_of now a) s at 64 =
    put-at x (shard_of now a) s at 64 c.put_lanes.ensures.below
    (λ k lt. c.put_lanes.ensures.here k lt ∙ c.both_at-data.ensures.sum k lt) c.put_lanes.ensures.above c.put_lanes.auto.into in
    let puts_q : IsPutAt y (shard_of (set now a s) 8) t at 64 =
    put-at y (shard_of (set now a s) 8) t at 64 c.put_lanes-in-loop-block.ensures.below
    (λ k lt. c.put_lanes-in-loop-block.ensures.here k lt ∙ c.filled_q_at-q.ensures k lt) c.put_lanes-in-loop-block.ensures.above c.put_lanes-in-loop-block.auto.into in
    fixes-next (with_data_and_q a) c.args.shards.now now (set (set now a s) 8 t) m c.loop-block.invariant
    (fixes-two (with_data_and_q a) x y now 8 a s t at 64 (omega arith) (omega arith) puts_a puts_q c.both_at-data.ensures.sizes (λ i k. refl))

pub returns : goal.returns
returns c =
    let end : c.loop-block.block * 64 ≡ 4096 = omega arith in
    restores-data-and-q c.args.a c.args.shards.now c.loop-block.shards c.told-shards c.requires (subst (Fixes (with_data_and_q c.args.a) c.args.shards.now c.loop-block.shards 0) end c.loop-block.invariant)
