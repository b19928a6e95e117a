-- How two lists of facts in order become one, and what a merge keeps of them.
use Rattle.std.specs.Prelude.{ℕ, Bool, not, ◌&&◌, List, [], ◌∷◌, nat_lt, if◌then◌else◌}
use Rattle.pur_base.specs.Prelude.{id_of}

-- whether a merge keeps the newest fact of a key; the oldest patch keeps no empty one
abbrev pub stays : {F : Type 0} → (F → ℕ) → (F → Bool) → Bool → (ℕ → Bool) → F → Bool
stays key empty oldest elided f = not (elided (id_of (key f))) && not (oldest && empty f)

module _ {F : Type 0} (key : F → ℕ) where
  -- a fact in front of a patch, and the rest of its own patch, woven by key
  abbrev pub weave : F → (List F → List F) → List F → List F
  weave x rest [] = x ∷ rest []
  weave x rest (y ∷ ys) =
      if nat_lt (key x) (key y) then x ∷ rest (y ∷ ys) else
      if nat_lt (key y) (key x) then y ∷ weave x rest ys else y ∷ rest ys

  -- two patches as one: of facts of one key the second's
  abbrev pub merged : List F → List F → List F
  merged [] ys = ys
  merged (x ∷ xs) ys = weave x (merged xs) ys

module _ {F : Type 0} (key : F → ℕ) where
  -- of facts in order the last one of each key
  abbrev pub lasts : List F → List F
  lasts [] = []
  lasts (x ∷ []) = x ∷ []
  lasts (x ∷ y ∷ ys) = if nat_lt (key x) (key y) then x ∷ lasts (y ∷ ys) else lasts (y ∷ ys)
