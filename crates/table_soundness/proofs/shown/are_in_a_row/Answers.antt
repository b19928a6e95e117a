use Rattle.table_soundness.proofs.Prelude.{rules, ◌∙◌, ap, subst, arith, get_or, facts_of, Ascends}
use Rattle.std.proofs.lemmas.List.{get_or_default, take_all}
use Rattle.table_soundness.proofs.NewestLemmas.{row_more, row_one}
use Rattle.table_soundness.proofs.shown.are_in_a_row.Goals as goal

pub loop-i-init : goal.loop-i-init
loop-i-init g c =
    let first = c.facts-before.ensures.value ∙ c.index-patches-0.is ∙ get_or_default c.args.patches.now 0 c.index-patches-0.result c.facts-before.result.now c.requires in
    record {
      some = search rules;
      within = search rules;
      before = first;
      ascends = row_one g.F.Fact.key g.F.Fact.number c.args.patches.now c.facts-before.result.now c.requires first c.facts-before.ensures.patch.ascends;
    }

pub loop-i-preserved : goal.loop-i-preserved
loop-i-preserved g c =
    let i = c.loop-i.i in
    let is = c.facts-facts.ensures.value ∙ c.index-patches-i.is ∙ get_or_default c.args.patches.now i c.index-patches-i.result c.facts-facts.result.now c.loop-i-test.true in
    record {
      some = search rules;
      within = search rules;
      before = is ∙ ap (λ n. get_or c.args.patches.now n c.facts-facts.result.now) (omega arith);
      ascends = row_more g.F.Fact.key g.F.Fact.number c.args.patches.now i c.loop-i.before.now c.facts-facts.result.now c.loop-i.invariant.some c.loop-i-test.true c.loop-i.invariant.before is
          c.facts-facts.ensures.patch.ascends (c.is_behind.ensures c.if-not-is_behind.false) c.loop-i.invariant.ascends;
    }

pub returns : goal.returns
returns g c e = subst (λ ps. Ascends g.F.Fact.key (facts_of ps)) (take_all c.loop-i.i c.args.patches.now c.loop-i-test.false) c.loop-i.invariant.ascends
