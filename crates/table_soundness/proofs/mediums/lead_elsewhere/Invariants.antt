use Rattle.table_soundness.proofs.Prelude.{ℕ, ◌<◌, get_or, MediumFact, LeadsElsewhere}
use Rattle.table_soundness.proofs.mediums.lead_elsewhere.Given as goal

abbrev pub invariant-loop-range : goal.invariant-loop-range
invariant-loop-range l = (i : ℕ) (d : MediumFact) → i < l.range-index → LeadsElsewhere l.mediums (get_or l.ranges i d)
