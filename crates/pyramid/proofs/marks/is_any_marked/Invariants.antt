use Rattle.pyramid.proofs.Prelude.{◌≡◌, ℕ, ◌+◌, ◌-◌, ◌<◌, ◌≤◌, false, get_or}
use Rattle.pyramid.specs.Marks.{mark_of}
use Rattle.pyramid.proofs.marks.is_any_marked.Given as goal

abbrev pub invariant-loop-group : goal.invariant-loop-group
invariant-loop-group l = record {
  within : l.group ≤ l.groups;
  none : (j : ℕ) → j < l.group → get_or l.marks (mark_of (l.first + j)) false ≡ false;
}

abbrev pub decreases-loop-group : goal.decreases-loop-group
decreases-loop-group l = l.groups - l.group
