use Rattle.segment_io.proofs.Prelude.{◌+◌, sym, ◌∙◌, ap, arith, shard_of, place_of, drive_of, write_unit_at, is_unknown}
use Rattle.segment_io.proofs.InTurn.{nothing}
use Rattle.segment_io.proofs.Writing.{was_written}
use Rattle.segment_io.proofs.Targets.{wanted_still, on_before, written_run}
use Rattle.segment_io.proofs.rebuilding.rebuild_stripe.Goals as goal

pub returns-in-Err-clause-run : goal.returns-in-Err-clause-run
returns-in-Err-clause-run g c =
    let x = c.read_stripe.ensures in
    record {
      continues = x.ran.on.continues;
      tried = x.tried;
      wanted = wanted_still (g.S.Shelf.shelf c.args.shelf.now) (g.S.Shelf.shelf c.read_stripe.new.shelf) c.args.places.now (is_unknown c.args.unknown.now) c.read_stripe.new.unknown c.args.shard c.requires.shard x.tried c.requires.wanted;
      same = λ h d ne. x.looks.same h d;
      writes = λ h. nothing _ (x.ran.on.writes h);
      others = x.ran.on.others;
    }

pub returns-then-is_err-clause-run : goal.returns-then-is_err-clause-run
returns-then-is_err-clause-run g c =
    let x = c.read_stripe.ensures in
    let y = c.write-answer.ensures in
    written_run (g.S.Shelf.shelf c.args.shelf.now) (g.S.Shelf.shelf c.read_stripe.new.shelf) (g.S.Shelf.shelf c.write-answer.new.self) c.args.places.now c.args.shard c.args.stripe (is_unknown c.args.unknown.now) c.read_stripe.new.unknown
    c.requires.places c.requires.shard (g.met.S.Shelf.is_shelf c.read_stripe.new.shelf) x.ran.on.continues x.tried c.requires.wanted x.looks.same x.ran.on.writes x.ran.on.others y.time (omega arith) y.device y.others

pub returns-clause-run : goal.returns-clause-run
returns-clause-run g c =
    let x = c.read_stripe.ensures in
    let y = c.write-answer.ensures in
    written_run (g.S.Shelf.shelf c.args.shelf.now) (g.S.Shelf.shelf c.read_stripe.new.shelf) (g.S.Shelf.shelf c.write-answer.new.self) c.args.places.now c.args.shard c.args.stripe (is_unknown c.args.unknown.now) c.read_stripe.new.unknown
    c.requires.places c.requires.shard (g.met.S.Shelf.is_shelf c.read_stripe.new.shelf) x.ran.on.continues x.tried c.requires.wanted x.looks.same x.ran.on.writes x.ran.on.others y.time (omega arith) y.device y.others

pub returns-clause-rebuilt : goal.returns-clause-rebuilt
returns-clause-rebuilt g c h whole on =
    let x = c.read_stripe.ensures in
    let a = g.S.Shelf.shelf c.args.shelf.now in
    let b = g.S.Shelf.shelf c.read_stripe.new.shelf in
    let n = g.S.Shelf.shelf c.write-answer.new.self in
    let places = c.args.places.now in
    let shards = c.in_default.ensures.read h whole (on_before a b n places c.args.unknown.now c.args.shard c.args.stripe whole c.requires.places c.requires.shard c.requires.wanted c.write-answer.ensures.others on) in
    was_written c.write-answer.result _ (write_unit_at (place_of places c.args.shard) (c.args.stripe + 1)) 4096 (shard_of c.read_stripe.new.shards c.args.shard) (b.disk (drive_of places c.args.shard)) (n.disk (drive_of places c.args.shard)) (omega arith)
    (c.write-answer.ensures.device (x.ran.on.continues.honest h)) (sym c.if-is_err.ensures.value)
    ∙ ap (λ ss. shard_of ss c.args.shard) shards
