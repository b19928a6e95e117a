-- A list of one word.
use Rattle.array_server.proofs.Prelude.{◌≡◌, ℕ, List, [], ◌∷◌, length, get_or, map, ap, sym, ◌∙◌, arith}

pub one-word : {S : Type 0} (f : S → List ℕ) (ws : List S) (w : S) (text : List ℕ) → length ws ≡ 1 → w ≡ get_or ws 0 w → f w ≡ text → map f ws ≡ text ∷ []
one-word f (x ∷ []) w text len is e = ap (λ (t : List ℕ). t ∷ []) (sym (ap f is) ∙ e)
one-word f _ w text len is e = absurd (omega (arith, len))

-- the one word is that which stands there
pub is-the-word : {S : Type 0} (f : S → List ℕ) (ws : List S) (w : S) (text : List ℕ) → w ≡ get_or ws 0 w → map f ws ≡ text ∷ [] → f w ≡ text
is-the-word f [] w text is e = absurd (cc e)
is-the-word f (x ∷ ws) w text is e = let same : f x ≡ text = cc e in ap f is ∙ same
