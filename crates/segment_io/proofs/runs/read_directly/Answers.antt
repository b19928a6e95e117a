use Rattle.segment_io.proofs.Prelude.{◌≡◌, ◌+◌, ◌/◌, ◌%◌, ◌<◌, ◌≤◌, length, arith, ◌∙◌, false, get_or-set_same, slice_range, length-set, length-between, is_unknown}
use Rattle.segment_io.proofs.Shown.{piece_read}
use Rattle.segment_io.proofs.Tries.{tries_one, part_is, part_known}
use Rattle.segment_io.proofs.runs.read_directly.Goals as goal

pub returns-then-is_unknown-clause-tried : goal.returns-then-is_unknown-clause-tried
returns-then-is_unknown-clause-tried g c =
    let shard = (c.args.offset + c.loop-done.done) / 4096 in
    let x = c.read_part-is_unknown.ensures in
    let tries = tries_one (g.S.Shelf.shelf c.args.shelf.now) (g.S.Shelf.shelf c.loop-done.shelf) (g.S.Shelf.shelf c.read_part-is_unknown.new.shelf) c.args.places.now (is_unknown c.args.unknown.now) c.loop-done.unknown shard c.read_part-is_unknown.result
    c.requires.places (g.met.S.Shelf.is_shelf c.read_part-is_unknown.new.shelf) (omega arith) c.loop-done.invariant.flags c.loop-done.invariant.tries x.ran.on.continues x.read x.looks x.ran.on.writes x.ran.on.others in
    tries.tried

pub returns-then-is_unknown-clause-ran : goal.returns-then-is_unknown-clause-ran
returns-then-is_unknown-clause-ran g c =
    let shard = (c.args.offset + c.loop-done.done) / 4096 in
    let x = c.read_part-is_unknown.ensures in
    let tries = tries_one (g.S.Shelf.shelf c.args.shelf.now) (g.S.Shelf.shelf c.loop-done.shelf) (g.S.Shelf.shelf c.read_part-is_unknown.new.shelf) c.args.places.now (is_unknown c.args.unknown.now) c.loop-done.unknown shard c.read_part-is_unknown.result
    c.requires.places (g.met.S.Shelf.is_shelf c.read_part-is_unknown.new.shelf) (omega arith) c.loop-done.invariant.flags c.loop-done.invariant.tries x.ran.on.continues x.read x.looks x.ran.on.writes x.ran.on.others in
    record { on = record { continues = tries.continues; others = tries.others; writes = tries.writes }; rest = g.met.S.Shelf.shelf_rest_stays.transitive _ _ _ c.loop-done.invariant.rest x.ran.rest }

pub returns-then-is_unknown-clause-some : goal.returns-then-is_unknown-clause-some
returns-then-is_unknown-clause-some g c none =
    let shard = (c.args.offset + c.loop-done.done) / 4096 in
    let flags = c.loop-done.invariant.flags in
    let lt : shard < length c.loop-done.unknown = omega arith in
    (shard, omega arith, get_or-set_same c.loop-done.unknown shard c.read_part-is_unknown.result false lt ∙ c.if-is_unknown.true)

pub loop-done-preserved : goal.loop-done-preserved
loop-done-preserved g c =
    let a = g.S.Shelf.shelf c.args.shelf.now in
    let b = g.S.Shelf.shelf c.loop-done.shelf in
    let n = g.S.Shelf.shelf c.read_part-is_unknown.new.shelf in
    let inv = c.loop-done.invariant in
    let at = c.args.offset + c.loop-done.done in
    let done = c.loop-done.done in
    let size = c.min-size.result in
    let into = c.loop-done.into in
    let part = c.read_part-is_unknown.new.into in
    let shard = at / 4096 in
    let x = c.read_part-is_unknown.ensures in
    let fits : done + size ≤ length into = omega arith in
    let cut : length (slice_range into done (done + size)) ≡ size = omega (arith, length-between into done (done + size) fits) in
    let long : length part ≡ size = omega (arith, cut) in
    let inside : at % 4096 + size ≤ 4096 = omega arith in
    let lt : shard < 9 = omega arith in
    record {
      within = omega arith;
      aligned = omega arith;
      flags = length-set c.loop-done.unknown shard c.read_part-is_unknown.result ∙ inv.flags;
      tries = tries_one a b n c.args.places.now (is_unknown c.args.unknown.now) c.loop-done.unknown shard c.read_part-is_unknown.result
          c.requires.places (g.met.S.Shelf.is_shelf c.read_part-is_unknown.new.shelf) lt inv.flags inv.tries x.ran.on.continues x.read x.looks x.ran.on.writes x.ran.on.others;
      holds = λ h. piece_read a b n c.args.places.now (is_unknown c.args.unknown.now) c.args.stripe c.args.offset done size _ into part (inv.holds h) x.ran.on.continues fits long inside lt
          (part_known a b n c.args.places.now (is_unknown c.args.unknown.now) c.loop-done.unknown shard c.args.stripe (at % 4096) size _ part cut lt inside inv.tries c.if-is_unknown.ensures.read)
          (part_is a b n c.args.places.now (is_unknown c.args.unknown.now) c.loop-done.unknown shard c.args.stripe (at % 4096) size _ part cut lt inside inv.tries c.if-is_unknown.ensures.read h);
      rest = g.met.S.Shelf.shelf_rest_stays.transitive _ _ _ inv.rest x.ran.rest;
    }
