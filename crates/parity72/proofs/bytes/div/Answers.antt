use Rattle.parity72.proofs.Prelude.{ap, sym, ◌∙◌, arith, times}
use Rattle.parity72.proofs.Laws.{times-undone, quotient-only}
use Rattle.parity72.proofs.bytes.div.Goals as goal

pub returns-clause-quotient : goal.returns-clause-quotient
returns-clause-quotient c =
    ap (λ t. times t c.args.b) c.mul.ensures
    ∙ times-undone c.args.a c.inverse.result c.args.b (omega arith) (omega arith) (omega arith) c.inverse.ensures

pub returns-clause-only : goal.returns-clause-only
returns-clause-only c q lt is =
    quotient-only q c.args.a c.inverse.result c.args.b lt (omega arith) (omega arith) c.inverse.ensures is ∙ sym c.mul.ensures
