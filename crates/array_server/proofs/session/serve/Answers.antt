use Rattle.array_server.proofs.Prelude.{◌≡◌, inl, inr, ℕ, List, sym, subst, Bool, false, Status, continues_trans, runs_moments, RisesIf, is_source, is_sink, Unopened, Served, both, Engine, BeginsAt, IsServedFrom}
use Rattle.session_spec.proofs.Resumed.{may_want_memory}
use Rattle.array_server.proofs.Headlines.{engine_of, served, unopened, no_stream, reads_some, was_opened}
use Rattle.array_server.proofs.MadeLemmas.{same-honest}
use Rattle.array_server.proofs.session.serve.Goals as goal

pub returns-in_default-clause-survives : goal.returns-in_default-clause-survives
returns-in_default-clause-survives g c = λ h hs hk. may_want_memory (g.W.Shelf.shelf c.args.world.now) (g.W.Source.source c.args.world.now) (g.W.Sink.sink c.args.world.now) (g.met.W.Shelf.is_shelf c.args.world.now)

pub returns-in-Ok-recover-clause-untouched : goal.returns-in-Ok-recover-clause-untouched
returns-in-Ok-recover-clause-untouched g c none = absurd (was_opened c.answer_all.result c.answer_all.ensures.status none)

pub returns-in-Ok-recover-clause-continues : goal.returns-in-Ok-recover-clause-continues
returns-in-Ok-recover-clause-continues g c = continues_trans c.in-Ok-recover.ensures.ran.on.continues c.answer_all.ensures.continues

pub returns-in-Ok-recover-clause-source : goal.returns-in-Ok-recover-clause-source
returns-in-Ok-recover-clause-source g c =
    let from = g.met.W.World.shelf_keeps_source c.args.world.now c.recover.new.shelf c.in-Ok-recover.ensures.ran.rest in
    subst (λ (n : ℕ). RisesIf (is_source c.answer_all.result) n (g.W.Source.source c.answer_all.new.world).faults) from.faults c.answer_all.ensures.source

pub returns-in-Ok-recover-clause-sink : goal.returns-in-Ok-recover-clause-sink
returns-in-Ok-recover-clause-sink g c =
    let to = g.met.W.World.shelf_keeps_sink c.args.world.now c.recover.new.shelf c.in-Ok-recover.ensures.ran.rest in
    subst (λ (n : ℕ). RisesIf (is_sink c.answer_all.result) n (g.W.Sink.sink c.answer_all.new.world).faults) to.faults c.answer_all.ensures.sink

pub returns-in-Ok-recover-clause-honest_source : goal.returns-in-Ok-recover-clause-honest_source
returns-in-Ok-recover-clause-honest_source g c = both (same-honest (g.met.W.World.shelf_keeps_source c.args.world.now c.recover.new.shelf c.in-Ok-recover.ensures.ran.rest)) c.answer_all.ensures.honest_source

pub returns-in-Ok-recover-clause-honest_sink : goal.returns-in-Ok-recover-clause-honest_sink
returns-in-Ok-recover-clause-honest_sink g c = both (same-honest (g.met.W.World.shelf_keeps_sink c.args.world.now c.recover.new.shelf c.in-Ok-recover.ensures.ran.rest)) c.answer_all.ensures.honest_sink

pub returns-in-Ok-recover-clause-survives : goal.returns-in-Ok-recover-clause-survives
returns-in-Ok-recover-clause-survives g c = λ h hs hk.
    let shelf = g.W.Shelf.shelf in
    let source = g.W.Source.source in
    let old = c.args.world.now in
    let mid = c.recover.new.shelf in
    let new = c.answer_all.new.world in
    let a = c.in-Ok-recover.array in
    let ended = c.answer_all.result in
    let opening = c.in-Ok-recover.ensures in
    let from = g.met.W.World.shelf_keeps_source old mid opening.ran.rest in
    let to = g.met.W.World.shelf_keeps_sink old mid opening.ran.rest in
    let o = opening.opened h in
    let e = c.new-in-Ok-recover.result in
    let is : e ≡ engine_of e a = λ k. record e { array = c.new-in-Ok-recover.ensures.array k; halted = c.new-in-Ok-recover.ensures.awake k } in
    record {
      source_counts = subst (λ (n : ℕ). RisesIf (is_source ended) n (source new).faults) from.faults c.answer_all.ensures.source;
      sink_counts = subst (λ (n : ℕ). RisesIf (is_sink ended) n (g.W.Sink.sink new).faults) to.faults c.answer_all.ensures.sink;
      session = λ unlapsed.
          inr (subst (λ (l : List ℕ). Served (shelf old) (shelf new) l (source new).bytes ended) from.bytes
          (served (shelf old) (shelf mid) (shelf new) a e (source mid).bytes (source new).bytes ended opening.ran.on.continues o (reads_some (shelf old) (shelf mid) a o) opening.is_of.of_shelf opening.named opening.ran.on.continues.later (runs_moments opening.ran.on h)
          (λ told first begins. subst (λ (x : Engine). IsServedFrom told (shelf mid) (shelf new) x (source mid).bytes (source new).bytes ended first) is
          (c.answer_all.ensures.served (opening.ran.on.continues.honest h) (from.honest hs) (to.honest hk) unlapsed told first (subst (λ (x : Engine). BeginsAt told (shelf mid) x first) (sym is) begins)))));
    }

pub returns-clause-survives : goal.returns-clause-survives
returns-clause-survives g c = λ h hs hk.
    let shelf = g.W.Shelf.shelf in
    let source = g.W.Source.source in
    let sink = g.W.Sink.sink in
    let old = c.args.world.now in
    let mid = c.recover.new.shelf in
    let fault = c.in-Err.fault in
    let opening = c.in-Err.ensures in
    let from = g.met.W.World.shelf_keeps_source old mid opening.ran.rest in
    let to = g.met.W.World.shelf_keeps_sink old mid opening.ran.rest in
    let counts = no_stream fault in
    record {
      source_counts = subst (λ (b : Bool). RisesIf b (source old).faults (source mid).faults) (sym (subst (λ (s : Status). is_source s ≡ false) (sym c.status_for.ensures) counts.0)) from.faults;
      sink_counts = subst (λ (b : Bool). RisesIf b (sink old).faults (sink mid).faults) (sym (subst (λ (s : Status). is_sink s ≡ false) (sym c.status_for.ensures) counts.1)) to.faults;
      session = λ unlapsed. inl (subst (λ (l : List ℕ). Unopened (shelf old) (shelf mid) (source old).bytes l c.status_for.result) (sym from.bytes)
          (subst (λ (s : Status). Unopened (shelf old) (shelf mid) (source old).bytes (source old).bytes s) (sym c.status_for.ensures)
          (unopened (shelf old) (shelf mid) fault (source old).bytes (g.met.W.Shelf.is_shelf mid) opening.ran.on.continues (runs_moments opening.ran.on h) (opening.opened h))));
    }
