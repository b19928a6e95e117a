-- The words of commands.
use Rattle.std.specs.Prelude.{◌≡◌, ◌⊎◌, ℕ, List, [], ◌∷◌, codes}

-- the one word `init`
abbrev pub IsInit : List (List ℕ) → Type 0
IsInit words = words ≡ codes "init" ∷ []

-- the one word `serve`
abbrev pub IsServe : List (List ℕ) → Type 0
IsServe words = words ≡ codes "serve" ∷ []

-- the words of either command
abbrev pub AreCommand : List (List ℕ) → Type 0
AreCommand words = IsInit words ⊎ IsServe words
