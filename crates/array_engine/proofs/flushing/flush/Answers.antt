use Rattle.array_engine.proofs.Prelude.{◌≡◌, Result, IfErr, refl, sym, subst, err_from_is_err_and, Refusal, IsLike, IsFlushFault}
use Rattle.array_engine.proofs.Faults.{fault_in_flush}
use Rattle.array_engine.proofs.flushing.flush.Goals as goal

-- it wasn't made
pub returns-in_err-checkpoint-clause-fault : goal.returns-in_err-checkpoint-clause-fault
returns-in_err-checkpoint-clause-fault g c =
    let old = g.S.Shelf.shelf c.args.shelf.now in
    let new = g.S.Shelf.shelf c.checkpoint.new.shelf in
    let a = c.args.array.now in
    let stays = IsLike a c.checkpoint.new.array × (c.args.room.now ≡ c.args.room.now) × (c.checkpoint.new.shelf ≡ c.args.shelf.now) in
    let q = err_from_is_err_and c.from_residual-in_err-checkpoint.result c.from_residual-in_err-checkpoint.ensures.1 in
    subst (λ (t : Result (Unit {0}) Refusal). IfErr t (λ e. IsFlushFault old new a stays e)) (sym q.1)
    (subst (λ (e : Refusal). IsFlushFault old new a stays e) (sym q.2)
    (fault_in_flush old new a stays (λ x. (x.0, refl, x.1)) c.in_ok-check_checkpoint.ensures.ok c.in_err-checkpoint.field-0.0 c.in_err-checkpoint.ensures.fault))
