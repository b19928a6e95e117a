use Rattle.segment_io.proofs.Prelude.{rules, arith, length, subst, sym, shards_in, IsRunOf, shard_of}
use Rattle.segment_io.proofs.Flat.{data_run, p_run, q_run, single_run}
use Rattle.segment_io.proofs.appending.run_of_shard.Goals as goal

pub returns-then-shard-eq-DATA_SHARDS-clause-units : goal.returns-then-shard-eq-DATA_SHARDS-clause-units
returns-then-shard-eq-DATA_SHARDS-clause-units c =
    subst (IsRunOf (λ number. shard_of (shards_in c.args.stripes.now c.args.p.now c.args.q.now number) c.args.shard) (length c.args.stripes.now)) (sym c.as_flattened.ensures.value)
    (p_run c.args.stripes.now c.args.p.now c.args.q.now c.args.shard c.if-shard-eq-DATA_SHARDS.true c.requires.room.1 c.told-p c.told-stripes)

pub returns-then-shard-gt-DATA_SHARDS-clause-units : goal.returns-then-shard-gt-DATA_SHARDS-clause-units
returns-then-shard-gt-DATA_SHARDS-clause-units c =
    subst (IsRunOf (λ number. shard_of (shards_in c.args.stripes.now c.args.p.now c.args.q.now number) c.args.shard) (length c.args.stripes.now)) (sym c.as_flattened-then-shard-gt-DATA_SHARDS.ensures.value)
    (q_run c.args.stripes.now c.args.p.now c.args.q.now c.args.shard (omega (arith, c.requires.shard, c.if-shard-gt-DATA_SHARDS.true)) c.requires.room.2 c.told-q c.told-stripes)

pub returns-then-count-eq1-clause-units : goal.returns-then-count-eq1-clause-units
returns-then-count-eq1-clause-units c =
    single_run c.args.stripes.now c.args.p.now c.args.q.now c.args.shard (omega (arith, c.if-shard-gt-DATA_SHARDS.false, c.if-shard-eq-DATA_SHARDS.false)) c.if-count-eq1.true (search rules) (c.told-stripes 0 (omega (arith, c.if-count-eq1.true)))

pub returns-clause-units : goal.returns-clause-units
returns-clause-units c =
    subst (IsRunOf (λ number. shard_of (shards_in c.args.stripes.now c.args.p.now c.args.q.now number) c.args.shard) (length c.args.stripes.now)) (sym c.as_flattened-2.ensures.value)
    (data_run c.args.stripes.now c.args.run.now c.args.p.now c.args.q.now c.args.shard (omega (arith, c.if-shard-gt-DATA_SHARDS.false, c.if-shard-eq-DATA_SHARDS.false)) c.requires.room.0 c.told-run c.told-stripes
    (λ k less. c.requires.gathered (omega (arith, less, c.if-count-eq1.false)) (omega (arith, c.if-shard-gt-DATA_SHARDS.false, c.if-shard-eq-DATA_SHARDS.false)) k less))
