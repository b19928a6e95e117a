use Rattle.array_engine.proofs.Prelude.{◌≡◌, [], ◌∷◌, Result, IfErr, sym, subst, err_from_is_err_and, Refusal, Command, by_faults, Halts}
use Rattle.pur_base.specs.declared.reply.Refusal.TheVariants.{Device}
use Rattle.array_engine.proofs.appending.perform_counted.Goals as goal

pub returns-in_err-perform-clause-halts : goal.returns-in_err-perform-clause-halts
returns-in_err-perform-clause-halts g c =
    let old = g.S.Shelf.shelf c.args.shelf.now in
    let new = g.S.Shelf.shelf c.perform.new.shelf in
    let cmd : Command = record { request = c.args.request.now; sectors = c.args.sectors.now } in
    let q = err_from_is_err_and c.from_residual.result c.from_residual.ensures.1 in
    subst (λ (t : Result (Unit {0}) Refusal). IfErr t (λ e. (e ≡ Device) × Halts by_faults old new c.args.array.now (cmd ∷ []))) (sym q.1) (q.2, c.in_err-perform.ensures.halts)
