use Rattle.session_spec.proofs.Fared.{awake_is_borne, claims_have_causes, halts_have_causes}
use Rattle.session_spec.proofs.causes.claims_have_causes.Goals as goal

pub returns-clause-claims : goal.returns-clause-claims
returns-clause-claims g c since = claims_have_causes ((g.S.Shelf.shelf c.args._shelf.now).left_since since)

pub returns-clause-halts : goal.returns-clause-halts
returns-clause-halts g c since = halts_have_causes ((g.S.Shelf.shelf c.args._shelf.now).left_since since)

pub returns-clause-awake : goal.returns-clause-awake
returns-clause-awake g c since = awake_is_borne ((g.S.Shelf.shelf c.args._shelf.now).left_since since)
