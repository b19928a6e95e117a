use Rattle.parity72.proofs.Prelude.{get_or, ap, ◌∙◌}
use Rattle.parity72.proofs.LaneFacts.{spread-at}
use Rattle.parity72.proofs.lanes.spread.Goals as goal

pub returns : goal.returns
returns c k lt = ap (λ l. get_or l k 0) c.joined.ensures ∙ spread-at c.args.table c.fits-table.0 k lt
