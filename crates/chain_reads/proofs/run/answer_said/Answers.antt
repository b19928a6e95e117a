use Rattle.chain_reads.proofs.Prelude.{◌∙◌, ℕ, ap, arith, inl, inr, Some, None, slice_index_or, slice_set, get_or-set_same, get_or-set_other, cases_eq}
use Rattle.chain_reads.proofs.run.answer_said.Goals as goal

pub loop-j-preserved : goal.loop-j-preserved
loop-j-preserved c = λ k l.
    let j = c.loop-j.j in
    let out = c.loop-j.out in
    let fact = c.in-Some.fact in
    elim (cases_eq k j) [
      | inl same ↦ (
        fact,
        (ap (λ (p : ℕ). slice_index_or c.args.said.now p None) same ∙ c.in-Some.is),
        (ap (λ (p : ℕ). slice_index_or (slice_set out j (Some fact.target)) p None) same ∙ get_or-set_same out j (Some fact.target) None (omega arith)),
      )
      | inr other ↦
          (let before = c.loop-j.invariant k (omega (arith, other, l)) in
          (before.0, before.1, get_or-set_other out j k (Some fact.target) None other ∙ before.2))
    ]
