use Rattle.elision.proofs.Prelude.{sym, arith}
use Rattle.elision.proofs.SearchLemmas.{none_begun, last_begun}
use Rattle.elision.proofs.search.is_within.Goals as goal

pub returns-then-begun-eq0 : goal.returns-then-begun-eq0
returns-then-begun-eq0 c = sym (none_begun c.args.ranges.now c.args.id (λ i d l. c.ranges_begun-begun.ensures.later i d (omega (arith, c.if-begun-eq0.true)) l))

pub returns : goal.returns
returns c = last_begun c.args.ranges.now c.args.id c.ranges_begun-begun.result (0, 0) c.requires (omega (arith, c.if-begun-eq0.false)) c.ranges_begun-begun.ensures.within
    c.ranges_begun-begun.ensures.begun c.ranges_begun-begun.ensures.later
