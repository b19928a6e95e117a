use Rattle.target_io.proofs.Prelude.{◌≡◌, ◌-◌, ◌*◌, length, take, drop, arith, length-drop, length-take-le, err_from_is_err_and, facts}
use Rattle.target_io.proofs.Reading.{reads_then, lost_since, still_readable, still_shows}
use Rattle.target_io.proofs.Sectors.{more_sectors}
use Rattle.target_io.proofs.targets.read_targets.Goals as goal

pub read_next-requires-clause-places : goal.read_next-requires-clause-places
read_next-requires-clause-places g c = still_readable (facts c.args.memory.now.memory.tables) c.loop-done.invariant.reads.continues c.requires.places

pub returns-in_err-count-clause-reads : goal.returns-in_err-count-clause-reads
returns-in_err-count-clause-reads g c = reads_then c.loop-done.invariant.reads c.read_next.ensures.reads

pub returns-in_err-count-clause-lost : goal.returns-in_err-count-clause-lost
returns-in_err-count-clause-lost g c =
    let r = err_from_is_err_and c.from_residual.result c.from_residual.ensures.1 in
    rw (r.1, r.2) (lost_since (g.S.Shelf.shelf c.args.shelf.now) (g.S.Shelf.shelf c.loop-done.shelf) (g.S.Shelf.shelf c.read_next.new.shelf) (facts c.args.memory.now.memory.tables) c.args.missing.now _ c.loop-done.invariant.reads.continues c.in_err-count.ensures.lost)

pub loop-done-preserved : goal.loop-done-preserved
loop-done-preserved g c =
    let missing = c.args.missing.now in
    let staged = c.args.memory.now.memory.staged in
    let inv = c.loop-done.invariant in
    let x = c.in_ok-count.ensures in
    let done = c.loop-done.done in
    let count = c.in_ok-count.count in
    let out = c.loop-done.out in
    let part = c.read_next.new.out in
    let n = length c.args.targets.now - done in
    let behind = drop done c.args.targets.now in
    let left : length (take n behind) ≡ n = length-take-le n behind (omega (arith, length-drop done c.args.targets.now)) in
    let rest : length (drop (512 * done) out) ≡ length out - 512 * done = length-drop (512 * done) out in
    let long : length part ≡ length (drop (512 * done) out) = omega (arith, c.read_next.auto.out) in
    record {
      within = omega (arith, left, x.some);
      reads = reads_then inv.reads x.reads;
      rest = g.met.S.Shelf.shelf_rest_stays.transitive _ _ _ inv.rest x.rest;
      sectors = λ h contents view shows stand. more_sectors contents staged c.args.targets.now done count n (length out - 512 * done) out part (omega (arith, c.loop-done.auto.out, inv.within)) (omega (arith, left, rest, long, x.some, c.loop-done.auto.out)) (omega (arith, left, x.some))
          (inv.sectors h contents view shows stand) (x.sectors (inv.reads.continues.honest h) contents view (still_shows missing view h inv.reads shows) stand);
    }

pub returns-clause-sectors : goal.returns-clause-sectors
returns-clause-sectors g c h contents view shows stand j low = c.loop-done.invariant.sectors h contents view shows stand j (omega (arith, low, c.loop-done-test.false))
