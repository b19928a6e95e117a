-- What a reader holds.
use Rattle.std.specs.Prelude.{ℕ, List}
use Rattle.line_input.specs.Prelude.{Ahead}

-- what a reader holds: its bytes ahead, and the sectors of the last request
pub record Reading : Type 0 where
  pub ahead : Ahead
  pub sectors : List (List ℕ)
