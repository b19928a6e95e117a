use Rattle.session_spec.proofs.Fared.{elided_stays}
use Rattle.session_spec.proofs.causes.elided_stays.Goals as goal

pub returns : goal.returns
returns g c since = elided_stays ((g.S.Shelf.shelf c.args._shelf.now).left_since since)
