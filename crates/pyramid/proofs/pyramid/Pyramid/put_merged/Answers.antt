use Rattle.std.specs.Prelude.{◌==◌}
use Rattle.pyramid.proofs.CoverLemmas.{cover_replaced}
use Rattle.pyramid.proofs.PlaceLemmas.{merge_layered, says_merged}
use Rattle.pyramid.proofs.pyramid.Pyramid.put_merged.Goals as goal

pub invariant_of-self : goal.invariant_of-self
invariant_of-self g c =
    let there = rw (← c.self.view_is) at c.requires.there in
    let source = rw (← c.self.view_is) at c.requires.source in
    rw c.replace_pair.ensures.items (merge_layered g.F.Fact.key g.F.Fact.number c.self.inside.patches.items c.args.i c.args.patch c.self.inside.unflushed.items there c.self.invariant c.requires.ascends source)

pub returns-clause-says : goal.returns-clause-says
returns-clause-says g c =
    let there = rw (← c.self.view_is) at c.requires.there in
    rw (c.replace_pair.ensures.items, ← c.self.view_is) (λ elided m apart.
    says_merged g.F.Fact.key g.F.Fact.number g.F.Fact.empty g.F.Fact.within elided c.self.inside.patches.items c.args.i c.args.patch c.self.inside.unflushed.items there c.self.invariant.rises m apart)

pub returns-clause-covers : goal.returns-clause-covers
returns-clause-covers g c =
    let there = rw (← c.self.view_is) at c.requires.there in
    rw (c.replace_pair.ensures.items, ← c.self.view_is) (λ elided m stay grow.
    cover_replaced g.F.Fact.key g.F.Fact.number g.F.Fact.within g.F.Fact.empty g.met.F.Fact.within_is_transitive (c.args.i == 0) elided stay c.self.inside.patches.items c.args.i c.args.patch c.self.inside.unflushed.items there m grow)
