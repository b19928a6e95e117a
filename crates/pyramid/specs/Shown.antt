-- What the facts of a table say, as a list.
use Rattle.std.specs.Prelude.{◌≡◌, ℕ, ◌^◌, ◌<◌, Bool, List, Some, Contains}
use Rattle.pur_base.specs.Prelude.{Ascends, says}

-- these are the facts that the table says where those ids are elided, by ascending key; keys are numbers of 128 bits
pub record IsShown {F : Type 0} (key number : F → ℕ) (empty : F → Bool) (facts : List F) (elided : ℕ → Bool) (shown : List F) : Type 0 where
  pub ascends : Ascends key shown
  pub said : (f : F) → Contains shown f → says key number empty facts elided (key f) ≡ Some f
  pub all : (f : F) → key f < 2 ^ 128 → says key number empty facts elided (key f) ≡ Some f → Contains shown f
