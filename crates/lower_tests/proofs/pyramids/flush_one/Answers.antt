use Rattle.lower_tests.proofs.Prelude.{◌≡◌, ◌+◌, ◌<◌, ◌++◌, ap, arith, inl, inr, Contains-append_cases, All-contains, facts_of, nowhere, all_contained}
use Rattle.array_spec.specs.Prelude.{MediumFact}
use Rattle.pyramid.proofs.PlaceLemmas.{all_flushed}
use Rattle.lower_tests.proofs.pyramids.flush_one.Goals as goal

pub returns-clause-numbers : goal.returns-clause-numbers
returns-clause-numbers c = λ _.
    rw (c.put_flushed.ensures.patches, c.in-Ok-flushed.ensures.patches, c.in-Ok.ensures.patches)
    (all_flushed (λ (f : MediumFact). f.seq.0 < c.args.fact.seq.0 + 1) c.args.table.now.patches c.insert.new.self.unflushed c.in-Ok-flushed.patch c.in-Ok-flushed.ensures.patch.source
    (all_contained (λ (f : MediumFact). f.seq.0 < c.args.fact.seq.0 + 1) (facts_of c.args.table.now.patches ++ c.insert.new.self.unflushed) (λ f h.
    elim (Contains-append_cases (facts_of c.args.table.now.patches) c.insert.new.self.unflushed f h) [
      | inl a ↦ let less = All-contains (λ (f : MediumFact). f.seq.0 < c.args.fact.seq.0) (facts_of c.args.table.now.patches) f c.requires.newer a in omega (arith, less)
      | inr b ↦ elim ((c.in-Ok.ensures.facts f).0 b) [
        | inl old ↦ absurd (nowhere f (rw c.requires.empty at old))
        | inr same ↦ let is : f.seq.0 ≡ c.args.fact.seq.0 = ap (λ (g : MediumFact). g.seq.0) same in omega (arith, is)
      ]
    ])))
