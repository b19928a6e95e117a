use Rattle.table_plan.proofs.Prelude.{◌≡◌, ◌≢◌, ◌⊎◌, ◌↔◌, ℕ, take, IsTrue, is_within, Table, ranges_of}
use Rattle.table_plan.proofs.eliding.copy_table.Given as goal

abbrev pub invariant-loop-range : goal.invariant-loop-range
invariant-loop-range l = record {
  ids : (id : ℕ) → IsTrue (is_within (ranges_of l.to l.table) id) ↔ (IsTrue (is_within (ranges_of l.initial.to l.table) id) ⊎ IsTrue (is_within (take l.range-index (ranges_of l.from l.table)) id));
  others : (t : Table) → t ≢ l.table → ranges_of l.to t ≡ ranges_of l.initial.to t;
}
