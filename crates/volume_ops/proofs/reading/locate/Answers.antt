use Rattle.std.proofs.Common.{◌≡◌, ℕ, length, arith, subst}
use Rattle.std.specs.List.{AllZip}
use Rattle.memory_spec.specs.Prelude.{sectors_of, span, TargetReads}
use Rattle.volume_ops.proofs.SpanLemmas.{all_stand, small_object, span_reads}
use Rattle.volume_ops.proofs.reading.locate.Goals as goal

pub overflow_cast-lba : goal.overflow_cast-lba
overflow_cast-lba c = omega (arith, c.requires.within, small_object c.args.memory.now c.args.object.now c.kept.ensures c.requires.sound c.requires.there)

pub resolve-requires-clause-sectors : goal.resolve-requires-clause-sectors
resolve-requires-clause-sectors c = omega (arith, c.requires.within, small_object c.args.memory.now c.args.object.now c.kept.ensures c.requires.sound c.requires.there)

pub returns-clause-stand : goal.returns-clause-stand
returns-clause-stand c = all_stand c.args.memory.now.memory c.requires.sound c.args.object.now.medium.0 c.args.lba c.resolve.new.out c.resolve.ensures

pub returns-clause-sectors : goal.returns-clause-sectors
returns-clause-sectors c = λ contents array r.
    let k = c.args.memory.now in
    let x = c.args.object.now in
    let long : length c.resolve.new.out ≡ length c.args.targets.now = omega (arith, c.resolve.auto.out) in
    subst (λ (n : ℕ). AllZip (TargetReads contents k.memory.staged) c.resolve.new.out (span c.args.lba n (sectors_of array x.name))) long
    (span_reads k x c.args.lba c.resolve.new.out c.kept.ensures c.requires.there (omega (arith, long, c.requires.within))
    (all_stand k.memory c.requires.sound x.medium.0 c.args.lba c.resolve.new.out c.resolve.ensures) c.resolve.ensures contents array r)
