use Rattle.array_core.proofs.Prelude.{accepted}
use Rattle.array_core.proofs.Applied.{same_segments}
use Rattle.array_core.proofs.performing.apply.Goals as goal

pub returns-clause-reads : goal.returns-clause-reads
returns-clause-reads c = λ contents a reads.
    c.apply.ensures.reads contents a reads (accepted contents c.args.memory.now a c.kept.ensures reads c.args.request.now c.args.sectors.now c.requires.allowed)

pub returns-clause-segments : goal.returns-clause-segments
returns-clause-segments c = same_segments c.args.memory.now c.apply.new.self c.kept.ensures c.kept-2.ensures c.apply.ensures.segments
