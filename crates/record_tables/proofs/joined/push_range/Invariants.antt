use Rattle.record_tables.proofs.Prelude.{◌≡◌, ◌++◌, take, drop}
use Rattle.record_tables.proofs.joined.push_range.Given as goal

abbrev pub invariant-loop-place : goal.invariant-loop-place
invariant-loop-place l = l.patches ≡ l.initial.patches ++ drop l.start (take l.place l.from)
