use Rattle.session_spec.proofs.Fared.{fares_run}
use Rattle.session_spec.proofs.Left.{leaves_after}
use Rattle.session_spec.proofs.causes.replies_are_lawful.Goals as goal

pub returns-clause-runs : goal.returns-clause-runs
returns-clause-runs g c since = fares_run ((g.S.Shelf.shelf c.args._shelf.now).left_since since)

pub returns-clause-after : goal.returns-clause-after
returns-clause-after g c since = leaves_after ((g.S.Shelf.shelf c.args._shelf.now).left_since since)
