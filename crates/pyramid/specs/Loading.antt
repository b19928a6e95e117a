-- What is asked of patches that are loaded.
use Rattle.std.specs.Prelude.{◌≡◌, ◌⊎◌, ℕ, ◌+◌, ◌<◌, List, All, Contains}

-- the least number above those of the facts, or 0 where there is none
pub record IsPast {F : Type 0} (number : F → ℕ) (facts : List F) (past : ℕ) : Type 0 where
  pub above : All (λ f. number f < past) facts
  pub least : (past ≡ 0) ⊎ ((f : F) × Contains facts f × (number f + 1 ≡ past))
