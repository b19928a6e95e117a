-- What is asked of the sequence numbers of a table.
use Rattle.std.specs.Prelude.{◌≡◌, ◌≢◌, ℕ, ◌<◌, ◌≤◌, Bool, true, false, List, [], ◌++◌, map, slice_index_or, All, AllPairs}
use Rattle.pyramid.specs.Prelude.{facts_of, IsPast, Rises}

-- each number of the table's patches is below the next one, no other fact of this table or an earlier one has it, and it is above each number of the earlier patches
pub record AreNumbersSound {F : Type 0} (number : F → ℕ) (next : ℕ) (earlier : List ℕ) (patches : List (List F)) : Type 0 where
  pub below : All (λ f. number f < next) (facts_of patches)
  pub distinct : AllPairs (λ m n. m ≢ n) (earlier ++ map number (facts_of patches))
  pub rising : Rises number patches []

-- ---- how it is found

-- no fact has a number below `past`, and `end` is past them and past all facts that `past` is past
pub record EndAt {F : Type 0} (number : F → ℕ) (past : ℕ) (facts : List F) (end : ℕ) : Type 0 where
  pub above : All (λ f. past ≤ number f) facts
  pub least : (earlier : List F) → IsPast number earlier past → IsPast number (earlier ++ facts) end

-- numbers rise from patch to patch, up to there
pub record RiseTo {F : Type 0} (number : F → ℕ) (patches : List (List F)) (past : ℕ) : Type 0 where
  pub rising : Rises number patches []
  pub least : IsPast number (facts_of patches) past

-- each of the numbers is marked at its place, and no two of them are the same
pub record AreMarked (numbers : List ℕ) (marks : List Bool) : Type 0 where
  pub marked : All (λ n. slice_index_or marks n false ≡ true) numbers
  pub distinct : AllPairs (λ m n. m ≢ n) numbers
