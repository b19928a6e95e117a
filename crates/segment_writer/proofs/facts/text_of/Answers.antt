use Rattle.segment_writer.proofs.Prelude.{map, sym, subst, AnyFact, Decodes, IsLawful}
use Rattle.patch_io.proofs.Lists.{all_at}
use Rattle.segment_writer.proofs.PatchFilled.{fact_at, text_of_fact}
use Rattle.segment_writer.proofs.facts.text_of.Goals as goal

pub write_fact-requires : goal.write_fact-requires
write_fact-requires g c =
    let any = g.F.TableFact.any in
    let f = c.index-facts-number.result in
    subst IsLawful (sym c.to_any.ensures) (all_at IsLawful (map any c.args.facts.now) c.args.number (any f) c.requires (fact_at any c.args.facts.now c.args.number f c.if-number-facts.false c.index-facts-number.is))

pub returns : goal.returns
returns g c =
    let any = g.F.TableFact.any in
    let f = c.index-facts-number.result in
    text_of_fact any c.args.facts.now c.args.number f c.write_fact.result c.if-number-facts.false c.index-facts-number.is (subst (λ (h : AnyFact). Decodes c.write_fact.result h) c.to_any.ensures c.write_fact.ensures)
