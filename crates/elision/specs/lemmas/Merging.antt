-- A merge with nothing.
use Rattle.std.proofs.Common.{◌≡◌, ℕ, List, [], ◌∷◌, refl, ap}
use Rattle.elision.specs.Merging.{merged}

module _ {F : Type 0} (key : F → ℕ) where
  pub merged_nil : (xs : List F) → merged key xs [] ≡ xs
  merged_nil [] = refl
  merged_nil (x ∷ xs) = ap (λ l. x ∷ l) (merged_nil xs)
