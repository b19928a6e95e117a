use Rattle.pyramid.proofs.Prelude.{◌≡◌, ◌≤◌, ◌<◌, ℕ, length, take, drop, get_or, IsPruned}
use Rattle.pyramid.proofs.PruneLemmas.{AreEnds}
use Rattle.pyramid.proofs.prune.prune.Given as goal

abbrev pub invariant-loop-i : goal.invariant-loop-i
invariant-loop-i g l = record {
  classes : length l.last ≡ 8;
  kept : l.kept ≤ l.i;
  length : length l.facts.items ≡ length l.fn.facts.items;
  last : (class : ℕ) → class < 8 → get_or l.last class 0 ≤ l.kept;
  ends : AreEnds g.F.Fact.key (take l.kept l.facts.items) l.last;
  tail : drop l.i l.facts.items ≡ drop l.i l.fn.facts.items;
  pruned : IsPruned g.F.Fact.key g.F.Fact.within l.fn.facts.items (take l.kept l.facts.items) (drop l.i l.fn.facts.items);
}
