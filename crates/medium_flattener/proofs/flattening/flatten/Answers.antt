use Rattle.std.proofs.Common.{[]}
use Rattle.array_core.specs.Prelude.{by_faults}
use Rattle.array_core.proofs.GoingOn.{goes_then}
use Rattle.medium_flattener.proofs.flattening.flatten.Goals as goal

pub returns-clause-goes : goal.returns-clause-goes
returns-clause-goes g c =
    let mid = c.front_with_room.new.array in
    let goes = c.in_ok-front.ensures.goes in
    let new = g.S.Shelf.shelf c.front_with_room.new.shelf in
    goes_then by_faults (g.S.Shelf.shelf c.args.shelf.now) new new c.args.array.now mid c.take.new.array [] [] goes (c.taking_in_goes_on.ensures mid c.take.new.array goes.is_of c.take.ensures.taken)

pub returns-clause-made : goal.returns-clause-made
returns-clause-made g c =
    let goes = c.in_ok-front.ensures.goes in (
      c.in_ok-check.ensures.ok,
      (
        c.medium_of-medium.result.0,
        c.medium_of-medium.ensures.of_name,
        record {
          cleared = c.front_with_room.new.array;
          first = c.in_ok-front.ensures.cleared;
          before = λ contents x reads. let on = goes.reads contents x reads in (on.more, on.reads);
          flat = c.take.ensures.flat;
          patches = c.take.ensures.taken.patches;
          rest = c.take.ensures.taken.rest;
        },
      ),
    )
