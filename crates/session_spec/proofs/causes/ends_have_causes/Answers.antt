use Rattle.session_spec.proofs.Prelude.{◌∙◌, requests, geometry_of}
use Rattle.session_spec.proofs.Fared.{awake_is_borne, claims_have_causes, halts_have_causes}
use Rattle.session_spec.proofs.causes.ends_have_causes.Goals as goal

pub returns-clause-halted : goal.returns-clause-halted
returns-clause-halted g c told input left o s =
    let old = g.S.Shelf.shelf c.args._old.now in
    let new = g.S.Shelf.shelf c.args._new.now in
    halts_have_causes (new.left_since o.moment) told (geometry_of old) s.first s.last (requests input) s.replies s.run s.opens.awake s.ends.0

pub returns-clause-awake : goal.returns-clause-awake
returns-clause-awake g c told input left ended o s awake =
    let old = g.S.Shelf.shelf c.args._old.now in
    let new = g.S.Shelf.shelf c.args._new.now in
    let since = awake_is_borne (new.left_since o.moment) told (geometry_of old) s.first s.last (requests input) s.replies s.run s.opens.enough awake in
    let members = claims_have_causes (new.left_since o.moment) told (geometry_of old) s.first s.last (requests input) s.replies s.run in
    record { named = λ d is. since.named d is ∙ s.opens.unlost d (members.joins d is); borne = since.borne }

pub returns-clause-unopened : goal.returns-clause-unopened
returns-clause-unopened g c input left ended u missing arrays enters = (u.shut missing arrays enters).cause
