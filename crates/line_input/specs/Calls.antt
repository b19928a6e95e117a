-- What calls of a source or a sink leave of it.
use Rattle.std.specs.Prelude.{◌↔◌, Result, Ok}
use Rattle.world.specs.declared.streams.Failed.{Failed}
use Rattle.world.specs.Prelude.{Counts, Streamed}

-- it is as honest as before, its count rises exactly where a call failed, and the rest stays
pub record Went {X : Type 0} (meaning : X → Streamed) (same_rest : X → X → Type 0) {T : Type 0} (answer : Result T Failed) (old new : X) : Type 0 where
  pub honest : (meaning old).honest ↔ (meaning new).honest
  pub counts : Counts answer (meaning old).faults (meaning new).faults
  pub rest : same_rest old new

-- the answer of calls that succeeded
abbrev pub well : Result (Unit {0}) Failed
well = Ok tt
