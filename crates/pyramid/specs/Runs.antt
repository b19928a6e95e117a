-- Facts of keys in a row.
use Rattle.std.specs.Prelude.{◌≡◌, ℕ, ◌+◌, ◌<◌, List, Contains, length, slice_get}
use Rattle.pyramid.specs.Layers.{newest_of}

-- of these facts the newest of each of so many keys, from the first one on
pub record IsNewestRun {F : Type 0} (key number : F → ℕ) (facts : List F) (from len : ℕ) (run : List F) : Type 0 where
  pub long : length run ≡ len
  pub newest : (i : ℕ) → i < len → newest_of key number (from + i) facts ≡ slice_get run i

-- none of the patches has the newest fact of each of the keys
abbrev pub NoneHasRun : {F : Type 0} → (F → ℕ) → (F → ℕ) → List (List F) → List F → ℕ → ℕ → Type 0
NoneHasRun {F} key number patches facts from len = (patch run : List F) → Contains patches patch → IsNewestRun key number patch from len run → IsNewestRun key number facts from len run → ⊥
