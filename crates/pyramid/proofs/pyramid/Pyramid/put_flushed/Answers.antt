use Rattle.pyramid.proofs.CoverLemmas.{cover_put}
use Rattle.pyramid.proofs.PlaceLemmas.{flush_layered, says_flushed}
use Rattle.pyramid.proofs.pyramid.Pyramid.put_flushed.Goals as goal

pub invariant_of-self : goal.invariant_of-self
invariant_of-self g c =
    let patch = rw (← c.self.view_is) at c.requires.patch in
    rw (c.push_patch.ensures, c.clear.ensures.items) (flush_layered g.F.Fact.key g.F.Fact.number c.self.inside.patches.items c.self.inside.unflushed.items c.args.patch c.self.invariant patch)

pub returns-clause-says : goal.returns-clause-says
returns-clause-says g c =
    let patch = rw (← c.self.view_is) at c.requires.patch in
    rw (c.push_patch.ensures, c.clear.ensures.items, ← c.self.view_is)
    (says_flushed g.F.Fact.key g.F.Fact.number g.F.Fact.empty c.self.inside.patches.items c.self.inside.unflushed.items c.args.patch patch)

pub returns-clause-covers : goal.returns-clause-covers
returns-clause-covers g c =
    let patch = rw (← c.self.view_is) at c.requires.patch in
    rw (c.push_patch.ensures, c.clear.ensures.items, ← c.self.view_is) (λ grow.
    cover_put g.F.Fact.key g.F.Fact.number g.F.Fact.within c.self.inside.patches.items c.self.inside.unflushed.items c.args.patch patch grow)
