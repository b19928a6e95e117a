use Rattle.pyramid.proofs.Prelude.{◌+◌, [], get_or, filter, ◌==◌, is_within, merged, stays}
use Rattle.pyramid.proofs.PlaceLemmas.{merged_at}
use Rattle.pyramid.proofs.PruneLemmas.{merged_pruned, never_within, never_apart}
use Rattle.pyramid.proofs.pyramid.Pyramid.merged.Goals as goal

pub prune-requires : goal.prune-requires
prune-requires g c =
    let there = rw (← c.self.view_is) at c.requires.there in
    rw c.in_ok-facts.ensures (merged_at g.F.Fact.key g.F.Fact.number g.F.Fact.empty never_within never_apart (is_within c.args.elided.now) c.self.inside.patches.items c.args.i c.self.inside.unflushed.items
    c.facts.result.now c.facts-2.result.now there c.self.invariant (rw c.facts.ensures.value c.index.ensures) (rw c.facts-2.ensures.value c.index-2.ensures)).ascends

pub from_facts-requires : goal.from_facts-requires
from_facts-requires g c =
    let there = rw (← c.self.view_is) at c.requires.there in
    (merged_pruned g.F.Fact.key g.F.Fact.number g.F.Fact.empty g.F.Fact.within (c.args.i == 0) (is_within c.args.elided.now) (get_or c.self.inside.patches.items c.args.i []) (get_or c.self.inside.patches.items (c.args.i + 1) [])
    (filter (stays g.F.Fact.key g.F.Fact.empty (c.args.i == 0) (is_within c.args.elided.now)) (merged g.F.Fact.key c.facts.result.now c.facts-2.result.now)) c.prune.new.facts.items
    (merged_at g.F.Fact.key g.F.Fact.number g.F.Fact.empty never_within never_apart (is_within c.args.elided.now) c.self.inside.patches.items c.args.i c.self.inside.unflushed.items
    c.facts.result.now c.facts-2.result.now there c.self.invariant (rw c.facts.ensures.value c.index.ensures) (rw c.facts-2.ensures.value c.index-2.ensures)) (rw c.in_ok-facts.ensures at c.prune.ensures)).ascends

pub returns : goal.returns
returns g c =
    let there = rw (← c.self.view_is) at c.requires.there in
    rw (c.from_facts.ensures, ← c.self.view_is) (merged_pruned g.F.Fact.key g.F.Fact.number g.F.Fact.empty g.F.Fact.within (c.args.i == 0) (is_within c.args.elided.now) (get_or c.self.inside.patches.items c.args.i []) (get_or c.self.inside.patches.items (c.args.i + 1) [])
    (filter (stays g.F.Fact.key g.F.Fact.empty (c.args.i == 0) (is_within c.args.elided.now)) (merged g.F.Fact.key c.facts.result.now c.facts-2.result.now)) c.prune.new.facts.items
    (merged_at g.F.Fact.key g.F.Fact.number g.F.Fact.empty never_within never_apart (is_within c.args.elided.now) c.self.inside.patches.items c.args.i c.self.inside.unflushed.items
    c.facts.result.now c.facts-2.result.now there c.self.invariant (rw c.facts.ensures.value c.index.ensures) (rw c.facts-2.ensures.value c.index-2.ensures)) (rw c.in_ok-facts.ensures at c.prune.ensures))
