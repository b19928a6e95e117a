use Rattle.pyramid.proofs.Prelude.{◌≡◌, ℕ, ◌<◌, true, false, get_or, length}
use Rattle.pyramid.specs.Marks.{group_of, mark_of}
use Rattle.pyramid.proofs.marks.marks_of.Given as goal

abbrev pub invariant-loop-fact : goal.invariant-loop-fact
invariant-loop-fact g l = record {
  len : length l.marks ≡ 1024;
  marked : (i : ℕ) (d : g.row.F.Denot) → i < l.fact-index → get_or l.marks (mark_of (group_of (g.F.Fact.key (get_or l.facts i d)))) false ≡ true;
}
