use Rattle.chain_reads.proofs.Prelude.{refl, ◌<◌, ◌+◌, ◌∙◌, length, arith, sym, ap, subst, Option, Some, option_map, AddressFact, Target, ReadsAt}
use Rattle.chain_reads.proofs.ChainLemmas.{reads_said}
use Rattle.chain_reads.proofs.run.resolve.Goals as goal

pub returns-else-not-answer_said : goal.returns-else-not-answer_said
returns-else-not-answer_said c = λ f h i l.
    let down = c.descend-from in
    let from = down.result in
    let within : i < length down.new.said = omega (arith, l, c.if-not-answer_said.ensures.each) in
    let says = c.if-not-answer_said.ensures.answers refl i l in
    let here = reads_said f from.medium.0 (from.sector + i) says.0.target
    (sym (down.ensures.said f h i within) ∙ ap (λ (o : Option AddressFact). option_map (λ (a : AddressFact). a.target) o) says.1) in
    subst (λ (o : Option Target). ReadsAt f c.args.medium.0 (c.args.first + i) o) (sym says.2) (down.ensures.reads f h i within (Some says.0.target) here)
