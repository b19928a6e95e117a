use Rattle.parity72.proofs.Prelude.{◌≡◌, ◌≢◌, ℕ, ◌+◌, get_or, eq-eqb, ap, sym, ◌∙◌, false≢true, get_or-replicate, column_of, with_byte}
use borrow.Author.Tests.{eqb-true}
use Rattle.parity72.proofs.Corrections.{byte-here, byte-other}
use Rattle.parity72.proofs.columns.known_at.Goals as goal
use Rattle.parity72.proofs.columns.known_at.Goals.{then-i-a, else-i-a, then-is_lost, else-is_lost}

pub returns-clause-known : goal.returns-clause-known
returns-clause-known c k lt =
    let a = c.args.a in
    let b = c.args.b in
    let i = c.args.i in
    let column : ℕ → ℕ = column_of c.args.shards.now (c.args.at + k) in
    let none = get_or-replicate 64 k 0 0 lt in
    elim c.if-i-a.branch [
      | then-i-a w ↦ elim c.if-is_lost.branch [
        | then-is_lost v ↦ ap (λ r. get_or r k 0) v.result-is ∙ none ∙ sym (byte-here a 0 (with_byte b 0 column) i w.if-i-a.true)
        | else-is_lost v ↦ absurd (false≢true (sym v.if-is_lost.false ∙ w.is_lost-is ∙ eq-eqb i a w.if-i-a.true))
      ]
      | else-i-a w ↦ elim c.if-is_lost.branch [
        | then-is_lost v ↦
            let at_b : i ≡ b = eqb-true i b (sym w.is_lost-is ∙ v.if-is_lost.true) in
            ap (λ r. get_or r k 0) v.result-is ∙ none ∙ sym (byte-other a 0 (with_byte b 0 column) i w.if-i-a.false ∙ byte-here b 0 column i at_b)
        | else-is_lost v ↦
            let other : i ≢ b = λ e. false≢true (sym v.if-is_lost.false ∙ w.is_lost-is ∙ eq-eqb i b e) in
            ap (λ r. get_or r k 0) v.result-is ∙ v.lanes_at.ensures.read k lt
            ∙ sym (byte-other a 0 (with_byte b 0 column) i w.if-i-a.false ∙ byte-other b 0 column i other)
      ]
    ]
