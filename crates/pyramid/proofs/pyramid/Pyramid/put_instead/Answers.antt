use Rattle.pyramid.proofs.PlaceLemmas.{instead_layered}
use Rattle.pyramid.proofs.pyramid.Pyramid.put_instead.Goals as goal

pub invariant_of-self : goal.invariant_of-self
invariant_of-self g c =
    let rising = rw (← c.self.view_is) at c.requires.rising in
    rw (c.push_patch.ensures, c.clear.ensures.items)
    (instead_layered g.F.Fact.key g.F.Fact.number c.self.inside.patches.items c.self.inside.unflushed.items c.args.patch c.self.invariant c.requires.ascends rising)
