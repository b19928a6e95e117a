use Rattle.std.specs.Prelude.{nat_lt}
use Rattle.pyramid.proofs.PlaceLemmas.{filter_layered}
use Rattle.pyramid.proofs.pyramid.Pyramid.take_back.Goals as goal

pub invariant_of-self : goal.invariant_of-self
invariant_of-self g c = rw c.keep_below.ensures.items
    (filter_layered g.F.Fact.key g.F.Fact.number c.self.inside.patches.items c.self.inside.unflushed.items (λ f. nat_lt (g.F.Fact.number f) c.args.from.0) c.self.invariant)
