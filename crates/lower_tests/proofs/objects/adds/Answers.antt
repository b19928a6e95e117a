use Rattle.lower_tests.proofs.Prelude.{◌≡◌, ◌<◌, [], ap, ◌∙◌, arith, inl, inr, ObjectFact, facts_in, nowhere, all_contained, Objects}
use Rattle.lower_tests.proofs.objects.adds.Goals as goal

pub returns-in-Ok-clause-numbers : goal.returns-in-Ok-clause-numbers
returns-in-Ok-clause-numbers c = λ _.
    let same = ap (λ (t : Objects). t.facts) c.reserve.ensures.rest in
    let patches : c.add.new.self.facts.patches ≡ [] = c.in-Ok.ensures.patches ∙ ap (λ l. l.patches) same ∙ c.requires.facts.0 in
    let unflushed : c.reserve.new.self.facts.unflushed ≡ [] = ap (λ l. l.unflushed) same ∙ c.requires.facts.1 in
    all_contained (λ (f : ObjectFact). f.seq.0 < 11) (facts_in c.add.new.self.facts) (λ f h. elim ((c.in-Ok.ensures.facts f).0 (rw patches at h)) [
      | inl old ↦ absurd (nowhere f (rw unflushed at old))
      | inr is ↦ let at = ap (λ (g : ObjectFact). g.seq.0) is in omega (arith, at, c.volume.ensures.seq)
    ])
