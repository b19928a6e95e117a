use Rattle.table_soundness.proofs.Prelude.{ℕ, ◌<◌, get_or, ElisionFact, IsBelow}
use Rattle.table_soundness.proofs.elisions.are_below.Given as goal

abbrev pub invariant-loop-fact : goal.invariant-loop-fact
invariant-loop-fact l = (i : ℕ) (d : ElisionFact) → i < l.fact-index → IsBelow l.next (get_or l.facts i d)
