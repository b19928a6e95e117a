use Rattle.table_soundness.proofs.MediumLemmas.{none_from_true, true_from_none}
use Rattle.table_soundness.proofs.mediums.leads_elsewhere.Goals as goal

pub returns : goal.returns
returns c = (
  λ yes. record { other = λ k. none_from_true c.has.result yes (c.has.ensures.1 k) },
  λ h. true_from_none c.has.result (λ e. h.other (c.has.ensures.0 e)),
)
