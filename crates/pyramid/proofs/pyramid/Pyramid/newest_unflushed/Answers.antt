use Rattle.pyramid.proofs.ReasonLemmas.{flushed}
use Rattle.pyramid.proofs.pyramid.Pyramid.newest_unflushed.Goals as goal

pub from_facts-requires : goal.from_facts-requires
from_facts-requires g c =
    rw (c.in_ok-newest.ensures, c.deref.ensures.value) (flushed g.F.Fact.key g.F.Fact.number c.self.inside.unflushed.items c.self.invariant.ordered).ascends

pub returns : goal.returns
returns g c =
    rw (c.from_facts.ensures, c.in_ok-newest.ensures, c.deref.ensures.value, ← c.self.view_is) (flushed g.F.Fact.key g.F.Fact.number c.self.inside.unflushed.items c.self.invariant.ordered)
