use Rattle.chain_reads.proofs.Prelude.{◌≡◌, ◌∙◌, ℕ, ◌<◌, List, length, ap, set, subst, arith, inl, inr, Some, get_or, get_or-set_same, get_or-set_other, cases_eq, AddressFact, Target}
use Rattle.pyramid.specs.Prelude.{Zero}
use Rattle.std.proofs.lemmas.Option.{get_or_from_slice_get, slice_get_within}
use Rattle.std.specs.Prelude.{slice_get}
use Rattle.chain_reads.proofs.run.put_targets.Goals as goal

read_back : (out : List Target) (run : List AddressFact) (i j : ℕ) (a d : AddressFact) → j ≡ i → i < length out → slice_get run j ≡ Some a → get_or (set out i (get_or run i d).target) j Zero ≡ a.target
read_back out run i j a d same l is =
    ap (λ (p : ℕ). get_or (set out i (get_or run i d).target) p Zero) same ∙ get_or-set_same out i (get_or run i d).target Zero l
    ∙ ap (λ (f : AddressFact). f.target) (get_or_from_slice_get run i a d (subst (λ (p : ℕ). slice_get run p ≡ Some a) same is))

pub loop-i-preserved : goal.loop-i-preserved
loop-i-preserved c = λ j a l is.
    let i = c.loop-i.i in
    let out = c.loop-i.out in
    elim (cases_eq j i) [
      | inl same ↦ read_back out c.args.run.now i j a _ same (omega (arith, c.loop-i-test.true, c.loop-i.auto.out)) is
      | inr other ↦ get_or-set_other out i j _ Zero other ∙ c.loop-i.invariant j a (omega (arith, other, l)) is
    ]

pub returns : goal.returns
returns c = λ i a is. c.loop-i.invariant i a (omega (arith, c.requires, slice_get_within c.args.run.now i a is, c.loop-i-test.false)) is
