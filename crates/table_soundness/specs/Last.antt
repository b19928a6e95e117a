-- The last fact of an id.
use Rattle.std.specs.Prelude.{◌≡◌, ℕ, ◌≤◌, List, All, Contains}
use Rattle.array_spec.specs.Prelude.{id_of}

-- of the facts of the id the one with the greatest key
pub record IsLastOf {F : Type 0} (key : F → ℕ) (facts : List F) (id : ℕ) (f : F) : Type 0 where
  pub there : Contains facts f
  pub of_id : id_of (key f) ≡ id
  pub last : All (λ g. id_of (key g) ≡ id → key g ≤ key f) facts
