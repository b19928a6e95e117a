use Rattle.pyramid.proofs.Prelude.{rules, ◌<◌, ◌∙◌, ap, subst, sym, get_or, get_or_default, arith, inl, inr, cases_eq}
use Rattle.pyramid.specs.Marks.{group_of, mark_of}
use Rattle.pyramid.proofs.MarkLemmas.{set_marked}
use Rattle.pyramid.proofs.marks.marks_of.Goals as goal

pub loop-fact-preserved : goal.loop-fact-preserved
loop-fact-preserved g c = record {
  len = search rules;
  marked = λ i d l. set_marked c.loop-fact.marks c.mark_of.result (mark_of (group_of (g.F.Fact.key (get_or c.args.facts.now i d)))) (subst (λ n. c.mark_of.result < n) (sym c.loop-fact.invariant.len) c.mark_of.ensures.within) (elim (cases_eq i c.loop-fact.fact-index) [
    | inl same ↦
        let there = get_or_default c.args.facts.now c.loop-fact.fact-index d c.fact-item.result c.loop-fact-test.true in
        inr (rw (same, there, ← c.fact-item.is, ← c.key.ensures) (ap mark_of (sym c.group_of.ensures) ∙ sym c.mark_of.ensures.value))
    | inr other ↦ inl (c.loop-fact.invariant.marked i d (omega (arith, l, other)))
  ]);
}
