use Rattle.pyramid.proofs.Prelude.{◌≡◌, ◌+◌, ◌<◌, ℕ, newest_of, None, rises_alone, rises_below}
use Rattle.std.proofs.lemmas.Option.{IfSome_then}
use Rattle.pyramid.specs.lemmas.Layers.{none_then}
use Rattle.pyramid.proofs.RunLemmas.{none_over, none_under, run_under}
use Rattle.pyramid.proofs.pyramid.Pyramid.run_from.Goals as goal

pub has_any-requires : goal.has_any-requires
has_any-requires g c = rw c.deref.ensures.value c.self.invariant.ordered

pub run_flushed-requires-clause-rises : goal.run_flushed-requires-clause-rises
run_flushed-requires-clause-rises g c = rw c.deref-else-has_any.ensures.value (rises_alone g.F.Fact.number c.self.inside.patches.items c.self.inside.unflushed.items c.self.invariant.rises)

pub returns-then-has_any-clause-none : goal.returns-then-has_any-clause-none
returns-then-has_any-clause-none g c = λ some.
    let there = rw c.deref.ensures.value at (c.has_any.ensures.there c.if-has_any.true) in
    rw (← c.self.view_is) (none_over g.F.Fact.key g.F.Fact.number c.self.inside.patches.items c.self.inside.unflushed.items c.args.from c.args.len
    (rises_below g.F.Fact.number c.self.inside.patches.items c.self.inside.unflushed.items c.self.invariant.rises) there.0 there.1 there.2 there.3)

pub returns-else-has_any-clause-some : goal.returns-else-has_any-clause-some
returns-else-has_any-clause-some g c =
    let none : (i : ℕ) → i < c.args.len → newest_of g.F.Fact.key g.F.Fact.number (c.args.from + i) c.self.inside.unflushed.items ≡ None = rw c.deref.ensures.value at (c.has_any.ensures.absent c.if-has_any.false) in
    IfSome_then c.run_flushed.result c.run_flushed.ensures.some (λ run h. rw (← c.self.view_is) (run_under g.F.Fact.key g.F.Fact.number c.self.inside.patches.items c.self.inside.unflushed.items c.args.from c.args.len
    (rises_below g.F.Fact.number c.self.inside.patches.items c.self.inside.unflushed.items c.self.invariant.rises) none run.now (rw c.deref-else-has_any.ensures.value at h)))

pub returns-else-has_any-clause-none : goal.returns-else-has_any-clause-none
returns-else-has_any-clause-none g c =
    let none : (i : ℕ) → i < c.args.len → newest_of g.F.Fact.key g.F.Fact.number (c.args.from + i) c.self.inside.unflushed.items ≡ None = rw c.deref.ensures.value at (c.has_any.ensures.absent c.if-has_any.false) in
    none_then c.run_flushed.result c.run_flushed.ensures.none (λ h some. rw (← c.self.view_is) (none_under g.F.Fact.key g.F.Fact.number c.self.inside.patches.items c.self.inside.unflushed.items c.args.from c.args.len
    (rises_below g.F.Fact.number c.self.inside.patches.items c.self.inside.unflushed.items c.self.invariant.rises) none (rw c.deref-else-has_any.ensures.value at h)))
