use Rattle.world_mem.proofs.Prelude.{◌≡◌, [], ◌∷◌, ◌++◌, length, take, rules, refl, Give, view, sourced, same_stream}
use Rattle.world_mem.proofs.Turned.{gives}
use Rattle.world_mem.proofs.streams.MemWorldSink.give.Goals as goal

pub returns-clause-rest : goal.returns-clause-rest
returns-clause-rest c =
    let w = c.args.self.now in
    let gave : c.extend_from_slice.new.self.items ≡ w.output.items ++ take c.min-n.result c.args.from.now = search rules in
    let recorded : c.push.new.self.items ≡ w.calls.items ++ Give (length w.output.items) ∷ [] = search rules in
    record {
      plans = record { device = λ d. refl; takes = refl; gives = c.is_next_named.ensures.same };
      shelf = gives (view w) (take c.min-n.result c.args.from.now) c.extend_from_slice.new.self.items c.push.new.self.items gave recorded;
      source = same_stream (sourced w);
    }
