-- The first word of a text.
use Rattle.request_codec.proofs.Prelude.{◌≡◌, ℕ, ◌+◌, ◌-◌, ◌<◌, Bool, true, false, List, [], ◌∷◌, length, take, drop, eqb, not, refl, arith, position_or_len, take_rest, words}
use Rattle.std.proofs.lemmas.List.Splits.{slice_split_first, slice_split_none}
use Rattle.std.proofs.lemmas.List.Sums.{prefix_len_passes}

not-true : (b : Bool) → not b ≡ true → b ≡ false
not-true true e = absurd cc
not-true false e = refl

pub word-first : (text : List ℕ) (at : ℕ) → at ≡ position_or_len (λ b. eqb b 32) text → at < length text
    → words text ≡ take at text ∷ words (take (length text - (at + 1)) (drop (at + 1) text))
word-first text at is lt =
    let inside : position_or_len (λ b. eqb b 32) text < length text = omega (arith, is) in
    let split = slice_split_first (λ (b : ℕ). eqb b 32) text 0 inside in
    rw (take_rest text (at + 1), is) split

pub word-last : (text : List ℕ) → position_or_len (λ b. eqb b 32) text ≡ length text → words text ≡ text ∷ []
word-last text is =
    slice_split_none (λ (b : ℕ). eqb b 32) text (λ k d h. not-true _ (prefix_len_passes (λ (x : ℕ). not (eqb x 32)) text k d (omega (arith, is))))
