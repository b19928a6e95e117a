use Rattle.session_spec.proofs.HistoryHolds as history
use Rattle.session_spec.proofs.histories.histories_hold.Goals as goal

pub returns : goal.returns
returns g c = history.histories_hold g.S.Shelf.shelf
