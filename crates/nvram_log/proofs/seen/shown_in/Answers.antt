use Rattle.nvram_log.proofs.Prelude.{◌≢◌, ◌<◌, length, arith, below_more, get_or-set_other, get_or-set_same, length-set, ◌∙◌}
use Rattle.nvram_log.proofs.seen.shown_in.Goals as goal

pub loop-i-preserved : goal.loop-i-preserved
loop-i-preserved c =
    let inv = c.loop-i.invariant in
    let i = c.loop-i.i in
    let lt : i < length c.loop-i.shown = omega (arith, inv.size, c.loop-i-test.true) in
    record {
      size = length-set c.loop-i.shown i c.is_there.result ∙ inv.size;
      some = below_more _ _ (λ k less. let ne : k ≢ i = omega (arith, less) in rw get_or-set_other (inv.some k less)) (rw get_or-set_same c.is_there.ensures.some);
      none = below_more _ _ (λ k less. let ne : k ≢ i = omega (arith, less) in rw get_or-set_other (inv.none k less)) (rw get_or-set_same c.is_there.ensures.none);
    }

pub returns-clause-some : goal.returns-clause-some
returns-clause-some c i lt = c.loop-i.invariant.some i (omega (arith, lt, c.loop-i-test.false))

pub returns-clause-none : goal.returns-clause-none
returns-clause-none c i lt = c.loop-i.invariant.none i (omega (arith, lt, c.loop-i-test.false))
