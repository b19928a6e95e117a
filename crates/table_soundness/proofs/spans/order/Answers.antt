use Rattle.table_soundness.proofs.Prelude.{◌∙◌, ap₂, arith, ordering_then}
use Rattle.table_soundness.proofs.SpanLemmas.{order_is}
use Rattle.table_soundness.proofs.spans.order.Goals as goal

pub returns : goal.returns
returns c =
    c.then-2.ensures ∙ ap₂ ordering_then c.cmp.ensures (c.then.ensures ∙ ap₂ ordering_then c.cmp-2.ensures c.cmp-3.ensures) ∙ order_is c.args.s.now c.args.t.now (omega arith) (omega arith) (omega arith) (omega arith)
