use Rattle.table_soundness.proofs.MediumLemmas.{none_from_true, true_from_none}
use Rattle.table_soundness.proofs.owned.avoids.Goals as goal

pub returns-in-Snapshot : goal.returns-in-Snapshot
returns-in-Snapshot c = (
  λ yes. record { other = λ s k. none_from_true c.has.result yes (c.has.ensures.1 k) },
  λ h. true_from_none c.has.result (λ e. h.other c.in-Snapshot.is (c.has.ensures.0 e)),
)
