use Rattle.medium_table.proofs.Prelude.{◌≡◌, ◌-◌, ◌<◌, suc, length, get_or, refl, subst, sym, ◌∙◌, arith, inl, Contains, false≢true, get_or_default, Contains-get_or, MediumFact, itself}
use Rattle.medium_table.proofs.IdLemmas.{one_more}
use Rattle.medium_table.proofs.MarkLemmas.{any_range}
use Rattle.medium_table.proofs.ReachLemmas.{closed_past, closed_more, sound_more}
use Rattle.medium_table.proofs.reach.follow.Goals as goal

pub loop-i-init : goal.loop-i-init
loop-i-init c = record {
  within = omega arith;
  each = c.requires.each;
  marked = c.requires.marked;
  kept = λ m h. h;
  closed = λ j d le l. absurd (omega (arith, le, l));
  sound = λ m h. (m, h, itself);
}

pub loop-i-preserved-then-is_marked : goal.loop-i-preserved-then-is_marked
loop-i-preserved-then-is_marked c =
    let ranges = c.args.ranges.now in
    let found = c.loop-i.found.items in
    let p = c.loop-i.i - 1 in
    let l : p < length ranges = omega (arith, c.loop-i.invariant.within, c.loop-i-test.true) in
    let step : c.loop-i.i ≡ suc p = omega (arith, c.loop-i-test.true) in
    let x = get_or ranges p any_range in
    let is : x ≡ get_or ranges p x = get_or_default ranges p any_range x l in
    let there : Contains ranges x = Contains-get_or ranges p any_range l in
    let has : Contains found x.medium = (c.is_marked.ensures found x c.loop-i.invariant.marked there refl).0 c.if-is_marked.true in
    let more = one_more found x.target in
    rw c.in_ok-push.ensures.items (record {
      within = omega (arith, c.loop-i.invariant.within);
      each = c.mark.ensures.each;
      marked = c.mark.ensures.marked found c.loop-i.invariant.marked;
      kept = λ m h. (more m).1 (inl (c.loop-i.invariant.kept m h));
      closed = closed_more ranges found _ c.loop-i.i p x step is c.requires.rise (c.requires.down p any_range l) more c.loop-i.invariant.closed;
      sound = sound_more ranges found _ c.loop-i.i p x c.args.found.now.items there has more c.loop-i.invariant.sound;
    })

pub loop-i-preserved : goal.loop-i-preserved
loop-i-preserved c =
    let ranges = c.args.ranges.now in
    let found = c.loop-i.found.items in
    let p = c.loop-i.i - 1 in
    let l : p < length ranges = omega (arith, c.loop-i.invariant.within, c.loop-i-test.true) in
    let step : c.loop-i.i ≡ suc p = omega (arith, c.loop-i-test.true) in
    let x = get_or ranges p any_range in
    let is : x ≡ get_or ranges p x = get_or_default ranges p any_range x l in
    let there : Contains ranges x = Contains-get_or ranges p any_range l in
    let absent : Contains found x.medium → ⊥ = λ h. false≢true (sym c.if-is_marked.false ∙ (c.is_marked.ensures found x c.loop-i.invariant.marked there refl).1 h) in
    record {
      within = omega (arith, c.loop-i.invariant.within);
      each = c.loop-i.invariant.each;
      marked = c.loop-i.invariant.marked;
      kept = c.loop-i.invariant.kept;
      closed = closed_past ranges found found c.loop-i.i p x step is absent c.loop-i.invariant.closed;
      sound = c.loop-i.invariant.sound;
    }

pub returns-clause-closed : goal.returns-clause-closed
returns-clause-closed c = λ r there has.
    let here : get_or c.args.ranges.now there.0 r ≡ r = there.2 in
    subst (λ (y : MediumFact). Contains c.loop-i.found.items y.target) here
    (c.loop-i.invariant.closed there.0 r (omega (arith, c.loop-i-test.false)) there.1 (subst (λ (y : MediumFact). Contains c.loop-i.found.items y.medium) (sym here) has))
