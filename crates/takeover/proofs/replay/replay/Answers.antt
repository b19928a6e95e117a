use Rattle.takeover.proofs.Prelude.{◌≡◌, Bool, true, false, ℕ, subst, arith, rules, IsApplied, IsReplayed}
use Rattle.nvram_log.specs.lemmas.Recalled.{command_at}
use Rattle.takeover.proofs.Applying.{none_done, one_more, stopped, ended}
use Rattle.takeover.proofs.replay.replay.Goals as goal

pub loop-i-init : goal.loop-i-init
loop-i-init c = record { room = search rules; done = λ commands has. none_done c.args.memory.now commands }

-- each command of the log was read
pub apply-requires-clause-read : goal.apply-requires-clause-read
apply-requires-clause-read c =
    let has = c.requires.read in
    let at = command_at c.args.log.now has.0 c.loop-i.i has.1 (omega (arith, c.loop-i-test.true, c.count-i-end.ensures)) in
    let is = c.in-Some.ensures.read has.0 at.0 has.1 at.1 in
    (_, at.0, is.1, is.0)

pub unreachable-requires : goal.unreachable-requires
unreachable-requires c =
    let has = c.requires.read in
    let at = command_at c.args.log.now has.0 c.loop-i.i has.1 (omega (arith, c.loop-i-test.true, c.count-i-end.ensures)) in
    c.in_default.ensures.read has.0 at.0 has.1 at.1

pub returns-then-not-branch-clause-ok : goal.returns-then-not-branch-clause-ok
returns-then-not-branch-clause-ok c commands has =
    let at = command_at c.args.log.now commands c.loop-i.i has (omega (arith, c.loop-i-test.true, c.count-i-end.ensures)) in
    let read = c.in-Some.ensures.read commands at.0 has at.1 in
    let is = c.in_ok-apply.ensures.ok _ at.0 read.1 read.0 in
    let shut : c.in_ok-apply.field-0 ≡ false = search rules in
    stopped c.args.memory.now c.loop-i.memory c.apply.new.memory commands c.loop-i.i at.0 at.1 (c.loop-i.invariant.done commands has)
    (subst (λ (b : Bool). IsApplied c.loop-i.memory at.0 b c.apply.new.memory) shut is)

pub loop-i-preserved : goal.loop-i-preserved
loop-i-preserved c =
    let inv = c.loop-i.invariant in
    let fine : c.in_ok-apply.field-0 ≡ true = search rules in
    record {
      room = search rules;
      done = λ commands has.
          let at = command_at c.args.log.now commands c.loop-i.i has (omega (arith, c.loop-i-test.true, c.count-i-end.ensures)) in
          let read = c.in-Some.ensures.read commands at.0 has at.1 in
          let is = c.in_ok-apply.ensures.ok _ at.0 read.1 read.0 in
          one_more c.args.memory.now c.loop-i.memory c.apply.new.memory commands c.loop-i.i at.0 at.1 (inv.done commands has)
          (subst (λ (b : Bool). IsApplied c.loop-i.memory at.0 b c.apply.new.memory) fine is);
    }

pub returns-clause-ok : goal.returns-clause-ok
returns-clause-ok c commands has =
    let e : c.loop-i.i ≡ c.count.result = omega (arith, c.loop-i-test.false, c.loop-i.auto.i-end, c.count.ensures, c.count-i-end.ensures) in
    subst (λ (n : ℕ). IsReplayed c.args.memory.now commands n c.loop-i.memory) e
    (ended c.args.memory.now c.loop-i.memory commands c.loop-i.i (omega (arith, has.count, e, c.count.ensures)) (c.loop-i.invariant.done commands has))
