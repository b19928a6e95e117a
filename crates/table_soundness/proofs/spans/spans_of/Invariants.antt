use Rattle.table_soundness.proofs.Prelude.{◌≡◌, map, take, facts_of, span_of}
use Rattle.table_soundness.proofs.spans.spans_of.Given as goal

abbrev pub invariant-loop-patch : goal.invariant-loop-patch
invariant-loop-patch l = l.spans.items ≡ map span_of (facts_of (take l.patch-index l.patches))
