use Rattle.segment_io.proofs.Prelude.{◌≡◌, ℕ, true, rules, subst, arith, is_unknown}
use Rattle.segment_io.proofs.Numbers.{no_numbers, known_number, one_number, third_number, apart_numbers}
use Rattle.segment_io.proofs.gathering.at_most_two.Goals as goal

pub loop-shard-init : goal.loop-shard-init
loop-shard-init c = rw c.new-numbers.ensures (no_numbers c.args.unknown.now)

pub loop-shard-preserved-then-not-unknown-shard : goal.loop-shard-preserved-then-not-unknown-shard
loop-shard-preserved-then-not-unknown-shard c = known_number c.args.unknown.now c.loop-shard.numbers.items c.loop-shard.shard c.if-not-unknown-shard.true c.loop-shard.invariant

pub returns-then-is_full-clause-three : goal.returns-then-is_full-clause-three
returns-then-is_full-clause-three c = third_number c.args.unknown.now c.loop-shard.numbers.items c.loop-shard.shard (search rules) c.loop-shard-test.true c.if-not-unknown-shard.false c.loop-shard.invariant

pub loop-shard-preserved : goal.loop-shard-preserved
loop-shard-preserved c = rw c.push.ensures.items (one_number c.args.unknown.now c.loop-shard.numbers.items c.loop-shard.shard c.if-not-unknown-shard.false c.loop-shard.invariant)

pub returns-clause-within : goal.returns-clause-within
returns-clause-within c k d lt = let h = c.loop-shard.invariant.below k d lt in omega (arith, h)

pub returns-clause-distinct : goal.returns-clause-distinct
returns-clause-distinct c = apart_numbers c.args.unknown.now c.loop-shard.numbers.items c.loop-shard.shard c.loop-shard.invariant

pub returns-clause-all : goal.returns-clause-all
returns-clause-all c shard lt = (
  λ is. c.loop-shard.invariant.complete shard (omega (arith, lt, c.loop-shard-test.false)) is,
  λ there. subst (λ (k : ℕ). is_unknown c.args.unknown.now k ≡ true) there.2 (c.loop-shard.invariant.are there.0 shard there.1),
)
