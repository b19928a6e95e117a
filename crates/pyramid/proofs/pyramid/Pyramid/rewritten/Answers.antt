use Rattle.pyramid.proofs.Prelude.{[], true, get_or, filter, is_within, merged, stays}
use Rattle.pyramid.proofs.PlaceLemmas.{rewritten_at}
use Rattle.pyramid.proofs.PruneLemmas.{merged_pruned, never_within, never_apart}
use Rattle.pyramid.proofs.pyramid.Pyramid.rewritten.Goals as goal

pub prune-requires : goal.prune-requires
prune-requires g c =
    let only = rw (← c.self.view_is) at c.requires.only in
    rw c.in_ok-facts.ensures (rewritten_at g.F.Fact.key g.F.Fact.number g.F.Fact.empty never_within never_apart (is_within c.args.elided.now) c.self.inside.patches.items c.self.inside.unflushed.items
    c.facts.result.now only c.self.invariant (rw c.facts.ensures.value c.index.ensures)).ascends

pub from_facts-requires : goal.from_facts-requires
from_facts-requires g c =
    let only = rw (← c.self.view_is) at c.requires.only in
    (merged_pruned g.F.Fact.key g.F.Fact.number g.F.Fact.empty g.F.Fact.within true (is_within c.args.elided.now) [] (get_or c.self.inside.patches.items 0 [])
    (filter (stays g.F.Fact.key g.F.Fact.empty true (is_within c.args.elided.now)) (merged g.F.Fact.key [] c.facts.result.now)) c.prune.new.facts.items
    (rewritten_at g.F.Fact.key g.F.Fact.number g.F.Fact.empty never_within never_apart (is_within c.args.elided.now) c.self.inside.patches.items c.self.inside.unflushed.items
    c.facts.result.now only c.self.invariant (rw c.facts.ensures.value c.index.ensures)) (rw c.in_ok-facts.ensures at c.prune.ensures)).ascends

pub returns : goal.returns
returns g c =
    let only = rw (← c.self.view_is) at c.requires.only in
    rw (c.from_facts.ensures, ← c.self.view_is) (merged_pruned g.F.Fact.key g.F.Fact.number g.F.Fact.empty g.F.Fact.within true (is_within c.args.elided.now) [] (get_or c.self.inside.patches.items 0 [])
    (filter (stays g.F.Fact.key g.F.Fact.empty true (is_within c.args.elided.now)) (merged g.F.Fact.key [] c.facts.result.now)) c.prune.new.facts.items
    (rewritten_at g.F.Fact.key g.F.Fact.number g.F.Fact.empty never_within never_apart (is_within c.args.elided.now) c.self.inside.patches.items c.self.inside.unflushed.items
    c.facts.result.now only c.self.invariant (rw c.facts.ensures.value c.index.ensures)) (rw c.in_ok-facts.ensures at c.prune.ensures))
