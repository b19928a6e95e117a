use Rattle.segment_table.proofs.Prelude.{◌<◌, arith, segment_key, patch_facts, number}
use Rattle.segment_table.proofs.AddedLemmas.{flushed_behind}
use Rattle.segment_table.proofs.table.SegmentTable.newest_with.Goals as goal

pub from_facts-requires : goal.from_facts-requires
from_facts-requires c =
    let last = rw (← c.self.view_is) at c.requires.last in
    rw c.in_ok-facts.ensures (flushed_behind segment_key number c.self.inside.facts.unflushed (patch_facts c.in_ok-newest.newest) c.args.segments.now c.in_ok-newest.ensures c.requires.ascends
    (λ f d a b. let less : f.segment.0 < d.segment.0 = last f d a b in omega (arith, less))).ascends

pub returns : goal.returns
returns c =
    let last = rw (← c.self.view_is) at c.requires.last in
    rw (c.from_facts.ensures, c.in_ok-facts.ensures, ← c.self.view_is)
    (flushed_behind segment_key number c.self.inside.facts.unflushed (patch_facts c.in_ok-newest.newest) c.args.segments.now c.in_ok-newest.ensures c.requires.ascends
    (λ f d a b. let less : f.segment.0 < d.segment.0 = last f d a b in omega (arith, less)))
