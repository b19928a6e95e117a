use Rattle.record_tables.proofs.Prelude.{◌≡◌, ◌+◌, ◌++◌, drop, length, sum_by, segments_for, added_from, added_patches}
use Rattle.record_tables.proofs.patches.added_patches.Given as goal

abbrev pub invariant-loop-table : goal.invariant-loop-table
invariant-loop-table l = record {
  so_far : l.added ++ added_from (l.table + 1) (drop l.table l.facts-items) (l.first + l.used) (drop l.used l.units) ≡ added_patches l.counts l.first l.units;
  left : l.used + sum_by segments_for (drop l.table l.facts-items) ≡ length l.units;
}
