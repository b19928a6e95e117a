use Rattle.chain_reads.proofs.Prelude.{◌<◌, ◌+◌, length, arith, sym, subst, Cursor, ReadsAs}
use Rattle.chain_reads.proofs.run.resolve_each.Goals as goal

pub returns-clause-answers : goal.returns-clause-answers
returns-clause-answers c = λ f h i l.
    let m = c.args.from.medium.0 in
    let x = c.args.from.sector + i in
    let within : i < length c.start.new.cursors = omega (arith, l, c.answer.ensures.each, c.settle_all.auto.cursors, c.go_on.auto.cursors) in
    let begun = subst (λ (d : Cursor). ReadsAs f m x d) (sym (c.start.ensures i within)) (λ t r. r) in
    subst (λ (d : Cursor). ReadsAs f m x d) (c.answer.ensures.answers i l) (c.settle_all.ensures.follows f h i m x (c.go_on.ensures.follows f h i m x begun))
