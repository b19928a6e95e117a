-- What facts of one table say.
use Rattle.std.specs.Prelude.{ℕ, ◌<◌, Bool, List, [], ◌∷◌, Option, Some, None, option_and_then, nat_lt, ◌==◌, if◌then◌else◌, AllPairs}
use Rattle.pur_base.specs.Keys.{id_of}

module _ {F : Type 0} (number : F → ℕ) where
  -- the fact, unless there is one with a greater number
  abbrev pub newer : F → Option F → Option F
  newer f None = Some f
  newer f (Some g) = if nat_lt (number f) (number g) then Some g else Some f

  -- of the facts that pass, the one with the greatest number
  abbrev pub newest : (F → Bool) → List F → Option F
  newest test [] = None
  newest test (f ∷ fs) = if test f then newer f (newest test fs) else newest test fs

module _ {F : Type 0} (key : F → ℕ) where
  -- whether the fact has that key
  abbrev pub has_key : ℕ → F → Bool
  has_key k f = key f == k

  -- strictly ascending by key, as in a patch
  abbrev pub Ascends : List F → Type 0
  Ascends fs = AllPairs (λ f g. key f < key g) fs

module _ {F : Type 0} (empty : F → Bool) where
  -- the fact, unless it is empty
  abbrev pub unless_empty : F → Option F
  unless_empty f = if empty f then None else Some f

module _ {F : Type 0} (key number : F → ℕ) (empty : F → Bool) where
  -- what the facts say at a key, where those ids are elided: its newest fact, unless that is elided or empty
  abbrev pub says : List F → (ℕ → Bool) → ℕ → Option F
  says fs elided k = if elided (id_of k) then None else option_and_then (unless_empty empty) (newest number (has_key key k) fs)
