use Rattle.target_io.proofs.Prelude.{◌≡◌, ◌∙◌, length, drop, arith, sym, length-take-le}
use Rattle.target_io.proofs.InSegment.{run_of, run_sectors}
use Rattle.target_io.proofs.Sectors.{first_only}
use Rattle.target_io.proofs.targets.read_next.Goals as goal

pub slice_bounds-first-end-2 : goal.slice_bounds-first-end-2
slice_bounds-first-end-2 g c = sym (length-take-le 512 c.args.out.now (omega (arith, c.requires.size, c.requires.some)))

pub fetch-requires-clause-size : goal.fetch-requires-clause-size
fetch-requires-clause-size g c = length-take-le 512 c.args.out.now (omega (arith, c.requires.size, c.requires.some))

pub returns-in_default-clause-sectors : goal.returns-in_default-clause-sectors
returns-in_default-clause-sectors g c h contents view shows stand =
    let size : length c.fetch.new.into ≡ 512 = c.fetch.auto.into ∙ length-take-le 512 c.args.out.now (omega (arith, c.requires.size, c.requires.some)) in
    first_only contents c.args.memory.now.memory.staged c.args.targets.now _ c.fetch.new.into (drop 512 c.args.out.now) size c.requires.some (c.in_default.ensures.none contents)

pub read_segment-requires-clause-run : goal.read_segment-requires-clause-run
read_segment-requires-clause-run g c = run_of c.args.memory.now.memory c.args.targets.now c.in-Some.at c.run_length-count.result c.requires.stand c.in-Some.ensures.some.segment c.run_length-count.ensures.some c.run_length-count.ensures.within c.run_length-count.ensures.follow

pub returns-clause-sectors : goal.returns-clause-sectors
returns-clause-sectors g c h contents view shows stand =
    run_sectors contents c.args.memory.now.memory.staged c.args.targets.now c.in-Some.at c.run_length-count.result c.read_segment.new.out c.in-Some.ensures.some.segment.given c.run_length-count.ensures.follow (c.in_ok-read_segment.ensures.sectors h contents view shows stand)
