use Rattle.target_io.proofs.Prelude.{◌≡◌, ℕ, length, take, replicate, ◌∙◌, sym, ap, subst, arith, length-take-le, AllZip, Zero, sectors_in, sectors_of, span, TargetReads}
use Rattle.target_io.proofs.Sectors.{sectors_are}
use Rattle.target_io.proofs.span.read_span.Goals as goal

pub returns-in-Ok-clause-sectors : goal.returns-in-Ok-clause-sectors
returns-in-Ok-clause-sectors g c h contents array view reads shows stand =
    let m = c.args.memory.now.memory in
    let targets = c.read.new.targets in
    let count = c.args.count in
    let cut : length (take count (replicate 64 Zero)) ≡ count = length-take-le count (replicate 64 Zero) (omega arith) in
    let long : length targets ≡ count = c.read.auto.targets ∙ cut in
    let zip = subst (λ (n : ℕ). AllZip (TargetReads contents m.staged) targets (span c.args.lba n (sectors_of array c.args.name.now))) cut (c.in_default.ensures.sectors contents array reads) in
    ap (λ (n : ℕ). sectors_in n c.read_targets.new.out) (sym long) ∙ sectors_are contents m.staged targets (span c.args.lba count (sectors_of array c.args.name.now)) c.read_targets.new.out zip (c.in-Ok.ensures.sectors h contents view shows stand)
