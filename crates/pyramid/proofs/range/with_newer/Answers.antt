use Rattle.pyramid.proofs.Prelude.{◌≡◌, ◌∙◌, sym, [], merged}
use Rattle.elision.specs.lemmas.Merging.{merged_nil}
use Rattle.pyramid.proofs.SpanLemmas.{all_stay, no_elements}
use Rattle.pyramid.proofs.range.with_newer.Goals as goal

pub returns-then-is_empty : goal.returns-then-is_empty
returns-then-is_empty g c =
    let none : c.args.newer.now ≡ [] = no_elements c.args.newer.now (sym c.is_empty.ensures ∙ c.if-is_empty.true) in
    rw none (sym (merged_nil g.F.Fact.key c.args.found.items))

pub returns : goal.returns
returns g c =
    let all = all_stay g.F.Fact.key g.F.Fact.empty (merged g.F.Fact.key c.args.found.items c.args.newer.now) in
    rw (c.deref.ensures.value, all) at c.merge_facts.ensures
