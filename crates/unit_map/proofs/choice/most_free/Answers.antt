use Rattle.unit_map.proofs.Prelude.{refl, arith, ◌∙◌, true, length-set}
use Rattle.unit_map.proofs.ChoiceLemmas.{choice-none, choice-short}
use Rattle.unit_map.proofs.choice.most_free.Goals as goal

pub loop-shard-init : goal.loop-shard-init
loop-shard-init c = record { size = refl; choice = choice-none c.args.drives.now _ 24 refl }

pub returns-in-None-clause-none : goal.returns-in-None-clause-none
returns-in-None-clause-none c =
    choice-short c.args.drives.now c.loop-shard.chosen c.loop-shard._shard c.loop-shard.invariant.choice c.loop-shard-test.true c.in-None.ensures.none
