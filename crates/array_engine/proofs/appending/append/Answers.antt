use Rattle.array_engine.proofs.Prelude.{◌≡◌, [], ◌∷◌, Result, IfErr, refl, sym, subst, arith, err_from_is_err_and, on_ok_weaker, Refusal, Command, continues_trans, by_faults, Calls, IsFull, IsLike, IsAppendFault}
use Rattle.array_core.proofs.GoingOn.{calls_then, goes_and_halts, goes_then}
use Rattle.array_engine.proofs.Appended.{at_once, behind, both_ok, flush_of, groups_of, unspent_of}
use Rattle.array_engine.proofs.Left.{numbers_behind, numbers_left}
use Rattle.array_engine.proofs.Faults.{fault_in_checkpoint, lost_in_performing}
use Rattle.array_engine.proofs.appending.append.Goals as goal

-- ---- a checkpoint

pub checkpoint-requires-clause-groups : goal.checkpoint-requires-clause-groups
checkpoint-requires-clause-groups g c =
    let full : IsFull c.args.array.now = omega (arith, c.free_slots.ensures, c.if-free_slots-gt0.false) in
    groups_of c.args.array.now (flush_of c.args.array.now c.args.request.now c.in_ok-check_request.ensures.ok full)

pub checkpoint-requires-clause-few : goal.checkpoint-requires-clause-few
checkpoint-requires-clause-few g c =
    let full : IsFull c.args.array.now = omega (arith, c.free_slots.ensures, c.if-free_slots-gt0.false) in
    (flush_of c.args.array.now c.args.request.now c.in_ok-check_request.ensures.ok full).unlimited

-- ---- numbers

pub perform_counted-requires-clause-numbers : goal.perform_counted-requires-clause-numbers
perform_counted-requires-clause-numbers g c = numbers_left c.args.array.now (unspent_of c.args.array.now c.args.request.now c.in_ok-check_request.ensures.ok)

pub perform_counted-requires-2-clause-numbers : goal.perform_counted-requires-2-clause-numbers
perform_counted-requires-2-clause-numbers g c = numbers_behind c.args.array.now c.checkpoint.new.array (unspent_of c.args.array.now c.args.request.now c.in_ok-check_request.ensures.ok) c.in_ok-checkpoint.ensures.flushed

-- ---- at once

pub returns-then-free_slots-gt0-clause-done : goal.returns-then-free_slots-gt0-clause-done
returns-then-free_slots-gt0-clause-done g c =
    let a = c.args.array.now in
    let cmd : Command = record { request = c.args.request.now; sectors = c.args.sectors.now } in
    let free : ¬ (IsFull a) = λ full. omega (arith, full, c.free_slots.ensures, c.if-free_slots-gt0.true) in
    both_ok c.perform_counted.result (at_once (g.S.Shelf.shelf c.args.shelf.now) (g.S.Shelf.shelf c.perform_counted.new.shelf) a c.perform_counted.new.array cmd c.in_ok-check_request.ensures.ok c.requires.is_of.of_shelf free)
    c.perform_counted.ensures.goes c.perform_counted.ensures.logged

pub returns-then-free_slots-gt0-clause-fault : goal.returns-then-free_slots-gt0-clause-fault
returns-then-free_slots-gt0-clause-fault g c =
    let old = g.S.Shelf.shelf c.args.shelf.now in
    let new = g.S.Shelf.shelf c.perform_counted.new.shelf in
    let cmd : Command = record { request = c.args.request.now; sectors = c.args.sectors.now } in
    lost_in_performing old new c.args.array.now _ cmd c.in_ok-check_request.ensures.ok c.perform_counted.result (λ halts. halts) c.perform_counted.ensures.halts

-- ---- no checkpoint was made

pub returns-in_err-checkpoint-clause-fault : goal.returns-in_err-checkpoint-clause-fault
returns-in_err-checkpoint-clause-fault g c =
    let old = g.S.Shelf.shelf c.args.shelf.now in
    let new = g.S.Shelf.shelf c.checkpoint.new.shelf in
    let a = c.args.array.now in
    let cmd : Command = record { request = c.args.request.now; sectors = c.args.sectors.now } in
    let stays = IsLike a c.checkpoint.new.array × (c.args.room.now ≡ c.args.room.now) × (c.checkpoint.new.shelf ≡ c.args.shelf.now) in
    let full : IsFull a = omega (arith, c.free_slots.ensures, c.if-free_slots-gt0.false) in
    let q = err_from_is_err_and c.from_residual-in_err-checkpoint.result c.from_residual-in_err-checkpoint.ensures.1 in
    subst (λ (t : Result (Unit {0}) Refusal). IfErr t (λ e. IsAppendFault old new a stays cmd e)) (sym q.1)
    (subst (λ (e : Refusal). IsAppendFault old new a stays cmd e) (sym q.2)
    (fault_in_checkpoint old new a stays (λ x. (x.0, refl, x.1)) cmd c.in_ok-check_request.ensures.ok c.in_err-checkpoint.field-0.0 full c.in_err-checkpoint.ensures.fault))

-- ---- behind a checkpoint

pub returns-clause-continues : goal.returns-clause-continues
returns-clause-continues g c = continues_trans c.in_ok-checkpoint.ensures.continues c.perform_counted-2.ensures.continues

pub returns-clause-moments : goal.returns-clause-moments
returns-clause-moments g c =
    let done : Calls (g.S.Shelf.shelf c.checkpoint.new.shelf) (g.S.Shelf.shelf c.perform_counted-2.new.shelf) = record { continues = c.perform_counted-2.ensures.continues; counted = c.perform_counted-2.ensures.moments } in
    (calls_then c.in_ok-checkpoint.ensures.goes.ran done).counted

pub returns-clause-done : goal.returns-clause-done
returns-clause-done g c =
    let old = g.S.Shelf.shelf c.args.shelf.now in
    let mid = g.S.Shelf.shelf c.checkpoint.new.shelf in
    let new = g.S.Shelf.shelf c.perform_counted-2.new.shelf in
    let a = c.args.array.now in
    let made = c.in_ok-checkpoint.ensures in
    let cmd : Command = record { request = c.args.request.now; sectors = c.args.sectors.now } in
    let full : IsFull a = omega (arith, c.free_slots.ensures, c.if-free_slots-gt0.false) in
    both_ok c.perform_counted-2.result
    (behind old new a c.perform_counted-2.new.array cmd c.in_ok-check_request.ensures.ok c.requires.is_of.of_shelf mid c.checkpoint.new.array made.continues c.perform_counted-2.ensures.continues full made.goes made.flushed)
    c.perform_counted-2.ensures.goes c.perform_counted-2.ensures.logged

pub returns-clause-goes : goal.returns-clause-goes
returns-clause-goes g c =
    let old = g.S.Shelf.shelf c.args.shelf.now in
    let mid = g.S.Shelf.shelf c.checkpoint.new.shelf in
    let new = g.S.Shelf.shelf c.perform_counted-2.new.shelf in
    let cmd : Command = record { request = c.args.request.now; sectors = c.args.sectors.now } in
    on_ok_weaker c.perform_counted-2.result (goes_then by_faults old mid new c.args.array.now c.checkpoint.new.array c.perform_counted-2.new.array [] (cmd ∷ []) c.in_ok-checkpoint.ensures.goes) c.perform_counted-2.ensures.goes

pub returns-clause-fault : goal.returns-clause-fault
returns-clause-fault g c =
    let old = g.S.Shelf.shelf c.args.shelf.now in
    let mid = g.S.Shelf.shelf c.checkpoint.new.shelf in
    let new = g.S.Shelf.shelf c.perform_counted-2.new.shelf in
    let a = c.args.array.now in
    let cmd : Command = record { request = c.args.request.now; sectors = c.args.sectors.now } in
    lost_in_performing old new a _ cmd c.in_ok-check_request.ensures.ok c.perform_counted-2.result
    (goes_and_halts by_faults old mid new a c.checkpoint.new.array [] (cmd ∷ []) c.in_ok-checkpoint.ensures.goes) c.perform_counted-2.ensures.halts
