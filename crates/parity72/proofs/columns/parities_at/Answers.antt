use Rattle.parity72.proofs.Prelude.{◌≡◌, ◌≤◌, ◌<◌, ◌+◌, ◌-◌, ℕ, ap, sym, ◌∙◌, arith, bit_xor, subst, inl, inr, get_or, cases_lt, get_or-replicate, byte_of}
use Rattle.parity72.proofs.Sums.{sum_from-last, sum_from-down, sum_from-all, horner-last, horner-down, horner-all}
use Rattle.parity72.proofs.columns.parities_at.Goals as goal

pub loop-i-init : goal.loop-i-init
loop-i-init c =
    let shards = c.args.shards.now in
    let at = c.args.at in
    let read = c.lanes_at-p.ensures in
    record {
      within = omega arith;
      bytes = λ j k from to lt. let e : 6 ≡ j = omega arith in subst (λ j. byte_of shards j (at + k) < 256) e (read.bytes k lt);
      p = λ k lt. read.read k lt ∙ sym (sum_from-last (λ j. byte_of shards j (at + k)));
      q = λ k lt. read.read k lt ∙ horner-last (λ j. byte_of shards j (at + k)) (read.bytes k lt);
    }

pub loop-i-preserved : goal.loop-i-preserved
loop-i-preserved c =
    let shards = c.args.shards.now in
    let at = c.args.at in
    let i = c.loop-i.i in
    let kept = c.loop-i.invariant in
    let read = c.lanes_at-lanes.ensures in
    let pos : 0 < i = omega arith in
    let bytes : (j k : ℕ) → i - 1 ≤ j → j < 7 → k < 64 → byte_of shards j (at + k) < 256 =
    λ j k from to lt. elim (cases_lt j i) [
      | inl l ↦ let e : i - 1 ≡ j = omega arith in subst (λ j. byte_of shards j (at + k) < 256) e (read.bytes k lt)
      | inr r ↦ kept.bytes j k r to lt
    ] in
    record {
      within = omega arith;
      bytes = bytes;
      p = λ k lt.
          c.add_lanes-p.ensures k lt
          ∙ ap (λ t. bit_xor t (get_or c.loop-i.p k 0)) (read.read k lt)
          ∙ ap (bit_xor (byte_of shards (i - 1) (at + k))) (kept.p k lt)
          ∙ sym (sum_from-down 7 (λ j. byte_of shards j (at + k)) i pos (omega (arith, kept.within)));
      q = λ k lt.
          c.add_lanes-q.ensures k lt
          ∙ ap (λ t. bit_xor t (get_or c.double_lanes_and_1d.result k 0)) (read.read k lt)
          ∙ ap (bit_xor (byte_of shards (i - 1) (at + k))) (c.double_lanes_and_1d.ensures k lt)
          ∙ horner-down (λ j. byte_of shards j (at + k)) i (get_or c.loop-i.q k 0) pos kept.within (λ j from to. bytes j k from to lt) (kept.q k lt);
    }

pub returns-clause-was_read : goal.returns-clause-was_read
returns-clause-was_read c =
    let at = c.args.at in
    record {
      sizes = λ i lt some. c.told-shards i lt;
      bytes = λ i k lt from to.
          let e : at + (k - at) ≡ k = omega arith in
          subst (λ k. byte_of c.args.shards.now i k < 256) e (c.loop-i.invariant.bytes i (k - at) (omega arith) lt (omega arith));
    }

pub returns-clause-p : goal.returns-clause-p
returns-clause-p c k lt =
    c.loop-i.invariant.p k lt ∙ sum_from-all 7 (λ j. byte_of c.args.shards.now j (c.args.at + k)) c.loop-i.i c.loop-i-test.false

pub returns-clause-q : goal.returns-clause-q
returns-clause-q c k lt =
    c.add_lanes.ensures k lt
    ∙ ap (bit_xor (get_or c.loop-i.q k 0)) (get_or-replicate 64 k 241 0 lt)
    ∙ horner-all (λ j. byte_of c.args.shards.now j (c.args.at + k)) c.loop-i.i (get_or c.loop-i.q k 0) c.loop-i-test.false (c.loop-i.invariant.q k lt)
