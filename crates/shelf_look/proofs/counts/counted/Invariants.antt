use Rattle.shelf_look.proofs.Prelude.{◌≤◌, ◌*◌, take, of_table, IsCountOf}
use Rattle.shelf_look.proofs.counts.counted.Given as goal

abbrev pub invariant-loop-index : goal.invariant-loop-index
invariant-loop-index l = record {
  done : IsCountOf (of_table l.fn.table (take l.index l.patches)) l.visible l.counts;
  few : (l.counts.patches ≤ l.index) × (l.counts.facts ≤ 4294967296 * l.index);
}
