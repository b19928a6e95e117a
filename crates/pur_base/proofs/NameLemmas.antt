-- A text that is copied to the front of zeros is padded.
use Rattle.std.proofs.Common.{ℕ, ◌≤◌, List, ◌++◌, length, drop, replicate, refl, ◌∙◌, arith, drop_at, length-append, length-drop}
use Rattle.std.proofs.lemmas.List.{drop-replicate}
use Rattle.pur_base.specs.NameFields.{IsPadded}

pub padded : (text : List ℕ) → length text ≤ 24 → IsPadded (text ++ drop (length text) (replicate 24 0)) (length text)
padded text h = record {
  size = omega (arith, length-append text (drop (length text) (replicate 24 0)), length-drop {A = ℕ} (length text) (replicate 24 0));
  within = h;
  zeros = drop_at text (drop (length text) (replicate 24 0)) (length text) refl ∙ drop-replicate (length text) 24 0;
}
