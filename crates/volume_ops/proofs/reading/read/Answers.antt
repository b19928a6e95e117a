use Rattle.std.proofs.Common.{ℕ, List, length, subst}
use Rattle.std.specs.List.{AllZip}
use Rattle.memory_spec.specs.Prelude.{sectors_of, span, TargetReads}
use Rattle.volume_ops.proofs.reading.read.Goals as goal

pub returns-clause-sectors : goal.returns-clause-sectors
returns-clause-sectors c = λ contents array r.
    subst (λ (n : List ℕ). AllZip (TargetReads contents c.args.memory.now.memory.staged) c.locate.new.targets (span c.args.lba (length c.args.targets.now) (sectors_of array n)))
    c.in-Some.ensures.some.1 (c.locate.ensures.sectors contents array r)
