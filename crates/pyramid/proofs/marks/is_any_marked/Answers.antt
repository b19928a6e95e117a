use Rattle.pyramid.proofs.Prelude.{◌+◌, ◌/◌}
use Rattle.std.proofs.Common.{◌%◌}
use Rattle.pyramid.proofs.MarkLemmas.{group_behind, within_groups}
use Rattle.pyramid.proofs.marks.is_any_marked.Goals as goal

pub returns : goal.returns
returns c e i l = rw (group_behind c.args.from i, ← c.group_of-first.ensures)
    (c.loop-group.invariant.none ((c.args.from % 64 + i) / 64) (within_groups (c.args.from % 64) i c.args.len c.div_ceil-groups.result c.loop-group.group l c.div_ceil-groups.ensures c.loop-group-test.false))
