use Rattle.table_soundness.proofs.Prelude.{◌≡◌, ◌++◌, map, take, span_of}
use Rattle.table_soundness.proofs.spans.push_spans.Given as goal

abbrev pub invariant-loop-fact : goal.invariant-loop-fact
invariant-loop-fact l = l.spans.items ≡ l.initial.spans.items ++ map span_of (take l.fact-index l.facts)
