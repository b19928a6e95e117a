use Rattle.pyramid.proofs.Prelude.{ap, None, option_and_then, if◌then◌else◌, id_of, has_key, unless_empty, same_newest}
use Rattle.pyramid.proofs.laws.laws_of_facts.Goals as goal

pub returns : goal.returns
returns g c = λ xs ys same distinct elided k.
    ap (λ o. if elided (id_of k) then None else option_and_then (unless_empty g.F.Fact.empty) o) (same_newest g.F.Fact.number (has_key g.F.Fact.key k) xs ys same distinct)
