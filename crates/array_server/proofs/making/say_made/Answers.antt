use Rattle.array_server.proofs.MadeLemmas.{said, said-in-part}
use Rattle.array_server.proofs.making.say_made.Goals as goal

pub returns-in-Ok : goal.returns-in-Ok
returns-in-Ok g c =
    let source = g.met.W.World.give_keeps_source c.args.world.now c.give.new.sink c.in-Ok.ensures.went.rest in
    record {
      status = tt;
      output = λ h. said _ _ (c.in-Ok.ensures.gave h);
      source = source;
      sink = c.in-Ok.ensures.went.counts;
      honest_sink = c.in-Ok.ensures.went.honest;
      output_only = (g.met.W.World.give_keeps_shelf c.args.world.now c.give.new.sink c.in-Ok.ensures.went.rest);
    }

pub returns-in-Err : goal.returns-in-Err
returns-in-Err g c =
    let source = g.met.W.World.give_keeps_source c.args.world.now c.give.new.sink c.in-Err.ensures.went.rest in
    record {
      status = tt;
      output = λ h. said-in-part c.in-Err.field-0 _ _ (c.in-Err.ensures.gave h);
      source = source;
      sink = c.in-Err.ensures.went.counts;
      honest_sink = c.in-Err.ensures.went.honest;
      output_only = (g.met.W.World.give_keeps_shelf c.args.world.now c.give.new.sink c.in-Err.ensures.went.rest);
    }
