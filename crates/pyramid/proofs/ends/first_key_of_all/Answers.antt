use Rattle.pyramid.proofs.Prelude.{◌≡◌, ◌≤◌, get_or, arith, inl, inr, take_all, Contains-append_cases, facts_of}
use Rattle.pyramid.proofs.EndLemmas.{hold_more, one_of_more}
use Rattle.pyramid.proofs.ends.first_key_of_all.Goals as goal

pub loop-patch-preserved : goal.loop-patch-preserved
loop-patch-preserved g c =
    let is : c.facts.result.now ≡ get_or c.args.patches.now c.loop-patch.patch-index c.facts.result.now = rw c.facts.ensures.value c.patch-item.is in
    let low = c.first_key-key-in-loop-patch.ensures.to in
    record {
      from = c.first_key-key-in-loop-patch.ensures.from;
      to = omega (arith, c.loop-patch.invariant.to, low);
      there = one_of_more g.F.Fact.key g.F.Fact.number c.args.patches.now c.loop-patch.patch-index c.facts.result.now c.args.unflushed.now c.args.to c.loop-patch.key c.first_key-key-in-loop-patch.result
          c.loop-patch-test.true is c.loop-patch.invariant.there c.first_key-key-in-loop-patch.ensures.there;
      flushed = hold_more g.F.Fact.key g.F.Fact.number (λ f. c.args.from ≤ g.F.Fact.key f → c.first_key-key-in-loop-patch.result ≤ g.F.Fact.key f) c.args.patches.now c.loop-patch.patch-index c.facts.result.now
          c.loop-patch-test.true is (λ f h le. let up = c.loop-patch.invariant.flushed f h le in omega (arith, up, low)) c.first_key-key-in-loop-patch.ensures.first;
      unflushed = λ f h le. let up = c.loop-patch.invariant.unflushed f h le in omega (arith, up, low);
    }

pub returns-clause-first : goal.returns-clause-first
returns-clause-first g c = λ f h le. elim (Contains-append_cases (facts_of c.args.patches.now) c.args.unflushed.now f h) [
  | inl a ↦ c.loop-patch.invariant.flushed f (rw (take_all c.loop-patch.patch-index c.args.patches.now c.loop-patch-test.false) a) le
  | inr b ↦ c.loop-patch.invariant.unflushed f b le
]

pub returns-clause-there : goal.returns-clause-there
returns-clause-there g c = rw (take_all c.loop-patch.patch-index c.args.patches.now c.loop-patch-test.false) at c.loop-patch.invariant.there
