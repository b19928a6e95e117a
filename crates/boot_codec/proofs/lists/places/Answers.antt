use Rattle.boot_codec.proofs.Prelude.{◌∙◌, take, arith, length-set, err_from_is_err_and}
use Rattle.boot_codec.proofs.LoopLemmas.{places_go_on, places_end, places_done}
use Rattle.boot_codec.proofs.lists.places.Goals as goal

pub returns-in_err-place : goal.returns-in_err-place
returns-in_err-place c =
    let p = err_from_is_err_and c.from_residual.result c.from_residual.ensures.1 in
    rw (p.1, p.2) (places_end c.in_err-place.field-0.0 c.args.slots c.args.units c.loop-shard.least (take c.loop-shard.shard c.loop-shard.places) 9 c.loop-shard.shard c.loop-shard.rest.now _ c.loop-shard-test.true c.in_err-place.ensures.gives c.loop-shard.invariant.1)

pub loop-shard-preserved : goal.loop-shard-preserved
loop-shard-preserved c = (
  length-set c.loop-shard.places c.loop-shard.shard c.in_ok-place.place ∙ c.loop-shard.invariant.0,
  places_go_on c.args.slots c.args.units c.loop-shard.least c.loop-shard.places 9 c.loop-shard.shard c.loop-shard.rest.now c.in_ok-place.place c.in_ok-place.after.now _ c.loop-shard.invariant.0 c.loop-shard-test.true c.in_ok-place.ensures.gives c.loop-shard.invariant.1,
)

pub returns : goal.returns
returns c = places_done c.args.slots c.args.units c.loop-shard.least c.loop-shard.places 9 c.loop-shard.shard c.loop-shard.rest.now _ c.loop-shard.invariant.0 (omega arith) c.loop-shard.invariant.1
