use Rattle.request_codec.proofs.Prelude.{ℕ, ◌+◌, ap, ◌∙◌, arith, err_from_is_err_and, asks-then, asks-on, asks-failed, sectors-failed, sectors-overrun}
use Rattle.request_codec.proofs.DataLemmas.{data-more, sectors-cut}
use Rattle.request_codec.proofs.TakenLemmas.{totals-behind}
use Rattle.request_codec.proofs.data.read_data.Goals as goal

pub loop-preserved : goal.loop-preserved
loop-preserved g c =
    let inv = c.loop.invariant in
    let step = rw c.in-Whole.is at c.in_ok-read_sector.ensures.told in
    record {
      count = c.in_ok-read_sector.ensures.len c.in-Whole.is ∙ ap (λ (n : ℕ). n + 1) inv.count;
      capacity = c.in_ok-read_sector.ensures.capacity ∙ inv.capacity;
      told = λ t.
          let told = inv.told t in
          let read = step told.0 in
          let more = data-more _ c.loop.counter c.loop.sectors.items read.1.0 _ _ told.1 told.2 told.3 read.1.1 read.1.2 in
          (read.0, more.long, read.1.3 ∙ more.items, more.rest);
      spent = omega (arith, inv.spent, c.in_ok-read_sector.ensures.budget);
      total = λ t. ((rw c.in-Whole.is at c.in_ok-read_sector.ensures.total) (inv.told t).0).same (λ e. cc) ∙ inv.total t;
      asks = asks-on g.met.S.Source.source_rest_stays inv.asks c.in_ok-read_sector.ensures.asks;
    }

pub returns-in_err-read_sector-clause-failed : goal.returns-in_err-read_sector-clause-failed
returns-in_err-read_sector-clause-failed g c =
    let p = err_from_is_err_and c.from_residual.result c.from_residual.ensures.1 in rw p.1 (λ t.
    let told = c.loop.invariant.told t in
    let part = c.in_err-read_sector.ensures.failed told.0 in
    (part.0, sectors-failed _ _ part.1.rest _ c.loop.counter c.args.count c.loop-test.true told.1 told.3 part.1.split part.1.part))

pub returns-in_err-read_sector-clause-asks : goal.returns-in_err-read_sector-clause-asks
returns-in_err-read_sector-clause-asks g c =
    let p = err_from_is_err_and c.from_residual.result c.from_residual.ensures.1 in rw p.1 (asks-failed (asks-then g.met.S.Source.source_rest_stays c.loop.invariant.asks c.in_err-read_sector.ensures.asks))

pub returns-in-Cut-clause-asks : goal.returns-in-Cut-clause-asks
returns-in-Cut-clause-asks g c = asks-on g.met.S.Source.source_rest_stays c.loop.invariant.asks c.in_ok-read_sector.ensures.asks

pub returns-in-Limit-clause-asks : goal.returns-in-Limit-clause-asks
returns-in-Limit-clause-asks g c = asks-on g.met.S.Source.source_rest_stays c.loop.invariant.asks c.in_ok-read_sector.ensures.asks

pub returns-in-Limit-clause-told : goal.returns-in-Limit-clause-told
returns-in-Limit-clause-told g c = λ t.
    let told = c.loop.invariant.told t in
    let read = (rw c.in-Limit.is at c.in_ok-read_sector.ensures.told) told.0 in
    (read.0, sectors-overrun _ _ read.1.0 _ read.1.1 c.loop.counter c.args.count c.loop-test.true told.1 told.3 read.1.2 read.1.3)

pub returns-in-Cut-clause-told : goal.returns-in-Cut-clause-told
returns-in-Cut-clause-told g c = λ t.
    let told = c.loop.invariant.told t in
    let none = (rw c.in-Cut.is at c.in_ok-read_sector.ensures.told) told.0 in
    (none.0, (sectors-cut _ _ c.loop.counter c.args.count c.loop-test.true told.1 told.3 none.1.0, none.1.1))

pub returns-in-Cut-clause-total : goal.returns-in-Cut-clause-total
returns-in-Cut-clause-total g c = λ t. totals-behind (c.loop.invariant.total t) ((rw c.in-Cut.is at c.in_ok-read_sector.ensures.total) (c.loop.invariant.told t).0)

pub returns-in-Cut-clause-budget : goal.returns-in-Cut-clause-budget
returns-in-Cut-clause-budget g c = omega (arith, c.loop.invariant.spent, c.in_ok-read_sector.ensures.budget)

pub returns-in-Cut-clause-stops : goal.returns-in-Cut-clause-stops
returns-in-Cut-clause-stops g c = rw c.in-Cut.is at c.in_ok-read_sector.ensures.stops

pub returns-in-Limit-clause-total : goal.returns-in-Limit-clause-total
returns-in-Limit-clause-total g c = λ t. totals-behind (c.loop.invariant.total t) ((rw c.in-Limit.is at c.in_ok-read_sector.ensures.total) (c.loop.invariant.told t).0)

pub returns-in-Limit-clause-budget : goal.returns-in-Limit-clause-budget
returns-in-Limit-clause-budget g c = omega (arith, c.loop.invariant.spent, c.in_ok-read_sector.ensures.budget)

pub returns-in-Limit-clause-stops : goal.returns-in-Limit-clause-stops
returns-in-Limit-clause-stops g c = rw c.in-Limit.is at c.in_ok-read_sector.ensures.stops
