use Rattle.parity72.proofs.Prelude.{◌<◌, ◌+◌, ◌-◌, ℕ, ap, sym, ◌∙◌, arith, bit_xor, get_or, get_or-replicate, column_of, without}
use Rattle.parity72.proofs.Sums.{sum_from-none, sum_from-down, sum_from-all}
use Rattle.parity72.proofs.columns.both_at.Goals as goal

pub loop-i-init : goal.loop-i-init
loop-i-init c =
    record {
      within = omega arith;
      sum = λ k lt. get_or-replicate 64 k 0 0 lt ∙ sym (sum_from-none (without c.args.a c.args.b (column_of c.args.shards.now (c.args.at + k))));
    }

pub loop-i-preserved : goal.loop-i-preserved
loop-i-preserved c =
    let i = c.loop-i.i in
    let kept = c.loop-i.invariant in
    let pos : 0 < i = omega arith in
    record {
      within = omega arith;
      sum = λ k lt.
          let d : ℕ → ℕ = without c.args.a c.args.b (column_of c.args.shards.now (c.args.at + k)) in
          c.add_lanes-sum.ensures k lt
          ∙ ap (λ t. bit_xor t (get_or c.loop-i.sum k 0)) (c.known_at.ensures.known k lt)
          ∙ ap (bit_xor (d (i - 1))) (kept.sum k lt)
          ∙ sym (sum_from-down 8 d i pos kept.within);
    }

pub returns-clause-sizes : goal.returns-clause-sizes
returns-clause-sizes c i lt = c.told-shards i lt

pub returns-clause-sum : goal.returns-clause-sum
returns-clause-sum c k lt =
    c.loop-i.invariant.sum k lt ∙ sum_from-all 8 (without c.args.a c.args.b (column_of c.args.shards.now (c.args.at + k))) c.loop-i.i c.loop-i-test.false
