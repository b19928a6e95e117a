use Rattle.fact_codec.proofs.HeadLemmas.{table_of, tag_is}
use Rattle.fact_codec.proofs.reading.fact_in.Goals as goal

pub returns-in_default-clause-complete : goal.returns-in_default-clause-complete
returns-in_default-clause-complete c = λ f spells. absurd (c.in_default.ensures.none (table_of f) (tag_is c.args.head.now c.args.value.now f spells))
