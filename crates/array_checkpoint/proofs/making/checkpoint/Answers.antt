use Rattle.array_checkpoint.proofs.Prelude.{◌≡◌, ◌∙◌, refl, sym, subst, Geometry, Refusal, geometry_of, continues_trans, IsRegisterOf, Array, nothing_behind, held_after, IsFaultOf, IsLike}
use Rattle.boot_region.proofs.LoadingLemmas.{if_err}
use Rattle.array_core.proofs.GoingOn.{calls_then}
use Rattle.array_core.proofs.Written.{calls_of, then_goes, then_halts}
use Rattle.array_checkpoint.proofs.Flushed.{goes_with, has_flushed, next_is_lawful}
use Rattle.array_checkpoint.proofs.Like.{like_is_of}
use Rattle.array_checkpoint.proofs.Joined.{flushed_since, goes_since, halts_since, same_few, same_spent}
use Rattle.array_checkpoint.proofs.PreparedLemmas.{are_low}
use Rattle.array_checkpoint.proofs.making.checkpoint.Goals as goal
use Rattle.register.proofs.Rounds.{same_shelf}

pub write_prepared-requires-clause-is_of : goal.write_prepared-requires-clause-is_of
write_prepared-requires-clause-is_of g c = like_is_of (geometry_of (g.S.Shelf.shelf c.args.shelf.now)) c.args.array.now c.prepare.new.array c.prepare.ensures.like c.requires.is_of

-- ---- once it was written

pub switch-requires-clause-is_of : goal.switch-requires-clause-is_of
switch-requires-clause-is_of g c =
    let mid = c.prepare.new.array in
    subst (λ (s : Geometry). IsRegisterOf s mid.register) (same_shelf c.write_prepared.ensures.ran.on.continues)
    (like_is_of (geometry_of (g.S.Shelf.shelf c.args.shelf.now)) c.args.array.now mid c.prepare.ensures.like c.requires.is_of).of_shelf

pub switch-requires-clause-lawful : goal.switch-requires-clause-lawful
switch-requires-clause-lawful g c =
    let was = c.args.array.now in
    let mid = c.prepare.new.array in
    let size = geometry_of (g.S.Shelf.shelf c.args.shelf.now) in
    let like = c.prepare.ensures.like in
    next_is_lawful size mid c.in_ok-prepared.prepared (like_is_of size was mid like c.requires.is_of) c.in_ok-prepared.ensures.prepared (same_few was mid like 596 c.requires.few) (same_spent was mid like ∙ c.requires.unspent) mid.log.room

pub switch-requires-clause-not_spent : goal.switch-requires-clause-not_spent
switch-requires-clause-not_spent g c = (are_low c.prepare.new.array (same_spent c.args.array.now c.prepare.new.array c.prepare.ensures.like ∙ c.requires.unspent)).generation

-- ---- once the tables are stored

pub returns-clause-continues : goal.returns-clause-continues
returns-clause-continues g c = continues_trans c.write_prepared.ensures.ran.on.continues c.switch.ensures.ran.on.continues

pub returns-clause-rest : goal.returns-clause-rest
returns-clause-rest g c = g.met.S.Shelf.shelf_rest_stays.transitive _ _ _ c.write_prepared.ensures.ran.rest c.switch.ensures.ran.rest

pub returns-clause-moments : goal.returns-clause-moments
returns-clause-moments g c = (calls_then (calls_of c.write_prepared.ensures.ran.on) (calls_of c.switch.ensures.ran.on)).counted

pub returns-clause-goes : goal.returns-clause-goes
returns-clause-goes g c =
    let a = g.S.Shelf.shelf c.args.shelf.now in
    let was = c.args.array.now in
    let mid = c.prepare.new.array in
    let like = c.prepare.ensures.like in
    let plan = c.in_ok-prepared.prepared.plan in
    let now : Array = record { memory = c.finish.new.self; log = c.switch.new.log; register = c.switch.new.register; background = nothing_behind } in
    let x = c.in_ok-switch.ensures.record.changed in
    goes_since was mid like a (g.S.Shelf.shelf c.switch.new.shelf) now
    (then_goes _ mid now (g.met.S.Shelf.is_shelf c.args.shelf.now) (calls_of c.write_prepared.ensures.ran.on) (calls_of c.switch.ensures.ran.on) c.in_ok-lost.ensures.wrote
    (c.in_ok-switch.ensures.faults c.args.shelf.now) (λ honest held. c.in_ok-switch.ensures.stays honest c.args.shelf.now held (held_after mid.memory.memory plan held)) (λ P p. p) x
    (goes_with (geometry_of a) mid c.in_ok-prepared.prepared (like_is_of (geometry_of a) was mid like c.requires.is_of) c.in_ok-prepared.ensures.prepared (same_few was mid like 596 c.requires.few) now x.later c.finish.ensures.memory refl
    (subst (λ (s : Geometry). IsRegisterOf s now.register) (sym (same_shelf (continues_trans c.write_prepared.ensures.ran.on.continues c.switch.ensures.ran.on.continues))) c.switch.ensures.left.of_shelf)
    c.in_ok-switch.ensures.cleared c.finish.ensures.room c.finish.ensures.elided))

pub returns-clause-flushed : goal.returns-clause-flushed
returns-clause-flushed g c =
    let was = c.args.array.now in
    let mid = c.prepare.new.array in
    let like = c.prepare.ensures.like in
    let size = geometry_of (g.S.Shelf.shelf c.args.shelf.now) in
    let now : Array = record { memory = c.finish.new.self; log = c.switch.new.log; register = c.switch.new.register; background = nothing_behind } in
    let x = c.in_ok-switch.ensures.record.changed in
    flushed_since was mid like now
    (has_flushed size mid c.in_ok-prepared.prepared (like_is_of size was mid like c.requires.is_of) c.in_ok-prepared.ensures.prepared (same_few was mid like 596 c.requires.few) now x.later c.finish.ensures.memory refl c.laws_of_elidings.ensures c.in_ok-switch.ensures.cleared.none x.rises c.switch.ensures.left.few)

-- ---- where they could not be stored, or the log not cleared

pub returns-in_err-switch-clause-continues : goal.returns-in_err-switch-clause-continues
returns-in_err-switch-clause-continues g c = continues_trans c.write_prepared.ensures.ran.on.continues c.switch.ensures.ran.on.continues

pub returns-in_err-switch-clause-rest : goal.returns-in_err-switch-clause-rest
returns-in_err-switch-clause-rest g c = g.met.S.Shelf.shelf_rest_stays.transitive _ _ _ c.write_prepared.ensures.ran.rest c.switch.ensures.ran.rest

pub returns-in_err-switch-clause-moments : goal.returns-in_err-switch-clause-moments
returns-in_err-switch-clause-moments g c = (calls_then (calls_of c.write_prepared.ensures.ran.on) (calls_of c.switch.ensures.ran.on)).counted

pub returns-in_err-switch-clause-fault : goal.returns-in_err-switch-clause-fault
returns-in_err-switch-clause-fault g c =
    let a = g.S.Shelf.shelf c.args.shelf.now in
    let n = g.S.Shelf.shelf c.switch.new.shelf in
    let was = c.args.array.now in
    let mid = c.prepare.new.array in
    let like = c.prepare.ensures.like in
    let now : Array = record mid { register = c.switch.new.register; log = c.switch.new.log } in
    if_err c.from_residual-in_err-switch.result _ _ c.from_residual-in_err-switch.ensures.1 (λ e is. subst (λ (f : Refusal). IsFaultOf a n was (IsLike was now × (c.switch.new.shelf ≡ c.args.shelf.now)) f) (sym is) (halts_since was mid like a n
    (then_halts _ mid now (g.met.S.Shelf.is_shelf c.args.shelf.now) (calls_of c.write_prepared.ensures.ran.on) (calls_of c.switch.ensures.ran.on) c.in_ok-lost.ensures.wrote
    (c.in_err-switch.ensures.faults c.args.shelf.now) (λ honest held. c.in_err-switch.ensures.stays honest c.args.shelf.now held (held_after mid.memory.memory c.in_ok-prepared.prepared.plan held)) (like_is_of (geometry_of a) was mid like c.requires.is_of))))

-- ---- where memory was wanted
