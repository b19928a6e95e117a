use Rattle.chain_reads.proofs.Prelude.{◌∙◌, sym, ap, subst, Option, Some, option_map, AddressFact, MediumFact, Spot, At, Follows, IsRangeAt}
use Rattle.chain_reads.proofs.ChainLemmas.{reads_said, follows_gap, follows_range}
use Rattle.chain_reads.proofs.chains.Chains.beyond.Goals as goal

pub returns-in-Some-default-clause-follows : goal.returns-in-Some-default-clause-follows
returns-in-Some-default-clause-follows c = λ f h.
    let t = c.in-Some-default.fact.target in
    λ m x go.
    go (Some t) (reads_said f c.args.spot.medium.0 c.args.spot.sector t (sym (c.requires.said f h) ∙ ap (λ (o : Option AddressFact). option_map (λ (a : AddressFact). a.target) o) c.in-Some-default.is-0))

pub returns-in-None-None-clause-follows : goal.returns-in-None-None-clause-follows
returns-in-None-None-clause-follows c = λ f h.
    follows_gap f c.args.spot (sym (c.requires.said f h) ∙ ap (λ (o : Option AddressFact). option_map (λ (a : AddressFact). a.target) o) c.in-None-None.is-0)
    (subst (λ (o : Option MediumFact). IsRangeAt f c.args.spot.medium.0 c.args.spot.sector o) c.in-None-None.is-1 (c.requires.part c.in-None-None.is-0 f h))

pub returns-in-None-Some-clause-follows : goal.returns-in-None-Some-clause-follows
returns-in-None-Some-clause-follows c = λ f h.
    let r = c.in-None-Some.range in
    subst (λ (next : Spot). Follows f (At c.args.spot) (At next)) (sym c.onward_by.ensures)
    (follows_range f h.lead r c.args.spot (sym (c.requires.said f h) ∙ ap (λ (o : Option AddressFact). option_map (λ (a : AddressFact). a.target) o) c.in-None-Some.is-0)
    (subst (λ (o : Option MediumFact). IsRangeAt f c.args.spot.medium.0 c.args.spot.sector o) c.in-None-Some.is-1 (c.requires.part c.in-None-Some.is-0 f h)))
