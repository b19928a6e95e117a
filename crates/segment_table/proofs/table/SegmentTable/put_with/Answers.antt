use Rattle.segment_table.proofs.Prelude.{◌<◌, arith, Contains, segment_key, SegmentFact, rises_below, number}
use Rattle.segment_table.proofs.AddedLemmas.{ascends_behind, rising_with, shown_with}
use Rattle.segment_table.proofs.table.SegmentTable.put_with.Goals as goal

pub put_instead-requires-clause-rising : goal.put_instead-requires-clause-rising
put_instead-requires-clause-rising c =
    let patch = rw (← c.self.view_is) at c.requires.patch in
    let newer = rw (← c.self.view_is) at c.requires.newer in
    rising_with c.self.inside.facts.patches c.self.inside.facts.unflushed c.args.segments.now _ (rises_below number c.self.inside.facts.patches c.self.inside.facts.unflushed c.layers.ensures.rises) newer patch.source

pub invariant_of-self : goal.invariant_of-self
invariant_of-self c =
    let last = rw (← c.self.view_is) at c.requires.last in
    rw c.push_all.ensures.items (ascends_behind segment_key c.self.inside.visible.items c.args.segments.now c.self.invariant c.requires.ascends
    (λ (d e : SegmentFact) (a : Contains c.self.inside.visible.items d) (b : Contains c.args.segments.now e). let less : d.segment.0 < e.segment.0 = last d e a b in omega (arith, less)))

pub returns-clause-says : goal.returns-clause-says
returns-clause-says c =
    let patch = rw (← c.self.view_is) at c.requires.patch in
    let newer = rw (← c.self.view_is) at c.requires.newer in
    let last = rw (← c.self.view_is) at c.requires.last in
    rw (c.push_all.ensures.items, ← c.self.view_is, c.put_instead.ensures.patches, c.put_instead.ensures.unflushed) (λ elided distinct rise left old.
    shown_with c.self.inside.facts.patches c.self.inside.facts.unflushed c.args.segments.now c.args.patch elided c.self.inside.visible.items patch distinct newer rise c.requires.ascends last left old)
