use Rattle.pyramid.proofs.Prelude.{true}
use Rattle.pyramid.proofs.CoverLemmas.{cover_rewritten}
use Rattle.pyramid.proofs.PlaceLemmas.{rewrite_layered, says_rewritten}
use Rattle.pyramid.proofs.pyramid.Pyramid.put_rewritten.Goals as goal

pub invariant_of-self : goal.invariant_of-self
invariant_of-self g c =
    let only = rw (← c.self.view_is) at c.requires.only in
    let source = rw (← c.self.view_is) at c.requires.source in
    rw c.replace_only.ensures.items (rewrite_layered g.F.Fact.key g.F.Fact.number c.self.inside.patches.items c.args.patch c.self.inside.unflushed.items only c.self.invariant c.requires.ascends source)

pub returns-clause-says : goal.returns-clause-says
returns-clause-says g c =
    let only = rw (← c.self.view_is) at c.requires.only in
    rw (c.replace_only.ensures.items, ← c.self.view_is) (λ elided m apart.
    says_rewritten g.F.Fact.key g.F.Fact.number g.F.Fact.empty g.F.Fact.within elided c.self.inside.patches.items c.args.patch c.self.inside.unflushed.items only c.self.invariant.rises m apart)

pub returns-clause-covers : goal.returns-clause-covers
returns-clause-covers g c =
    let only = rw (← c.self.view_is) at c.requires.only in
    rw (c.replace_only.ensures.items, ← c.self.view_is) (λ elided m stay grow.
    cover_rewritten g.F.Fact.key g.F.Fact.number g.F.Fact.within g.F.Fact.empty g.met.F.Fact.within_is_transitive true elided stay c.self.inside.patches.items c.args.patch c.self.inside.unflushed.items only m grow)
