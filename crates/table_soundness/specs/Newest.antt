-- The newest facts of each key.
use Rattle.std.specs.Prelude.{◌≡◌, ℕ, ◌+◌, ◌<◌, List, [], ◌∷◌, nat_lt, if◌then◌else◌, length, get_or}
use Rattle.array_spec.specs.Prelude.{Ascends}
use Rattle.pyramid.specs.Prelude.{newest_of}

-- the newer of two facts; of one number the first
abbrev pub newer_one : {F : Type 0} → (F → ℕ) → F → F → F
newer_one number x y = if nat_lt (number x) (number y) then y else x

module _ {F : Type 0} (key number : F → ℕ) where
  -- a fact in front of a list, and the rest of its own list, woven by key
  abbrev pub weave : F → (List F → List F) → List F → List F
  weave x rest [] = x ∷ rest []
  weave x rest (y ∷ ys) =
      if nat_lt (key x) (key y) then x ∷ rest (y ∷ ys) else
      if nat_lt (key y) (key x) then y ∷ weave x rest ys else newer_one number x y ∷ rest ys

  -- two lists as one: of facts of one key the newer
  abbrev pub woven : List F → List F → List F
  woven [] ys = ys
  woven (x ∷ xs) ys = weave x (woven xs) ys

-- of each key the newest of these facts, by ascending key
pub record AreNewest {F : Type 0} (key number : F → ℕ) (facts found : List F) : Type 0 where
  pub ascends : Ascends key found
  pub same : (k : ℕ) → newest_of key number k found ≡ newest_of key number k facts

-- neither list is empty, and the last key of the first is below the first one of the second
pub record IsBehind {F : Type 0} (key : F → ℕ) (xs ys : List F) : Type 0 where
  pub some : 0 < length xs
  pub below : (i j : ℕ) (d e : F) → i + 1 ≡ length xs → j ≡ 0 → key (get_or xs i d) < key (get_or ys j e)
