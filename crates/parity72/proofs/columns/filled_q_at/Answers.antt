use Rattle.parity72.proofs.Prelude.{◌≡◌, ◌≤◌, ◌<◌, ◌+◌, ◌-◌, ℕ, ap, ◌∙◌, arith, bit_xor, subst, inl, inr, get_or, cases_lt, get_or-replicate, column_of, filled}
use Rattle.parity72.proofs.Sums.{horner-last, horner-down, horner-all}
use Rattle.parity72.proofs.columns.filled_q_at.Goals as goal

pub loop-i-init : goal.loop-i-init
loop-i-init c =
    let d : ℕ → ℕ → ℕ = λ k. filled c.args.a c.args.b (column_of c.args.shards.now (c.args.at + k)) in
    let first = c.filled_at-sum.ensures in
    record {
      within = omega arith;
      bytes = λ j k from to lt. let e : 6 ≡ j = omega arith in subst (λ j. d k j < 256) e (first.bytes k lt);
      sum = λ k lt. first.filled k lt ∙ horner-last (d k) (first.bytes k lt);
    }

pub loop-i-preserved : goal.loop-i-preserved
loop-i-preserved c =
    let d : ℕ → ℕ → ℕ = λ k. filled c.args.a c.args.b (column_of c.args.shards.now (c.args.at + k)) in
    let i = c.loop-i.i in
    let kept = c.loop-i.invariant in
    let next = c.filled_at-lanes.ensures in
    let pos : 0 < i = omega arith in
    let bytes : (j k : ℕ) → i - 1 ≤ j → j < 7 → k < 64 → d k j < 256 =
    λ j k from to lt. elim (cases_lt j i) [
      | inl l ↦ let e : i - 1 ≡ j = omega arith in subst (λ j. d k j < 256) e (next.bytes k lt)
      | inr r ↦ kept.bytes j k r to lt
    ] in
    record {
      within = omega arith;
      bytes = bytes;
      sum = λ k lt.
          c.add_lanes-sum.ensures k lt
          ∙ ap (λ t. bit_xor t (get_or c.double_lanes_and_1d.result k 0)) (next.filled k lt)
          ∙ ap (bit_xor (d k (i - 1))) (c.double_lanes_and_1d.ensures k lt)
          ∙ horner-down (d k) i (get_or c.loop-i.sum k 0) pos kept.within (λ j from to. bytes j k from to lt) (kept.sum k lt);
    }

pub returns : goal.returns
returns c k lt =
    c.add_lanes.ensures k lt
    ∙ ap (bit_xor (get_or c.loop-i.sum k 0)) (get_or-replicate 64 k 241 0 lt)
    ∙ horner-all (filled c.args.a c.args.b (column_of c.args.shards.now (c.args.at + k))) c.loop-i.i (get_or c.loop-i.sum k 0) c.loop-i-test.false (c.loop-i.invariant.sum k lt)
