use Rattle.pyramid.proofs.Prelude.{rules, nat_lt}
use Rattle.std.proofs.lemmas.Fn.{filter_same}
use Rattle.pyramid.proofs.insert.keep_below.Goals as goal

pub returns-clause-items : goal.returns-clause-items
returns-clause-items g c = filter_same _ (λ f. nat_lt (g.F.Fact.number f) c.args.from.0) _ (λ x b f' k. search rules) _ _ c.retain.ensures.filtered
