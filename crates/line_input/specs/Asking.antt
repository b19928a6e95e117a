-- How a reader asks a source for what it has ahead.
use Rattle.std.specs.Prelude.{◌≡◌, ◌≤◌, true, false, [], Result, OnErr}
use Rattle.world.specs.Prelude.{INPUT_BYTES, Streamed}
use Rattle.world.specs.declared.streams.Failed.{Failed}
use Rattle.line_input.specs.Ahead.{Ahead}
use Rattle.line_input.specs.Calls.{Went}

-- Nothing is taken past the limit, and where the input has ended the source isn't asked again. What is pending is lost where a call fails.
pub record Asks {X : Type 0} (source : X → Streamed) (same_rest : X → X → Type 0) {T : Type 0} (answer : Result T Failed) (a b : Ahead) (old new : X) : Type 0 where
  pub limited : a.taken ≤ INPUT_BYTES → b.taken ≤ INPUT_BYTES
  pub latched : a.ended ≡ true → (new ≡ old) × (b.ended ≡ true)
  pub asked : OnErr answer (a.ended ≡ false)
  pub dropped : OnErr answer (b.pending ≡ [])
  pub went : Went source same_rest answer old new

-- at the end the input has ended, and at the limit nothing is pending
pub record Stops (AtEnd AtLimit : Type 0) (ahead : Ahead) : Type 0 where
  pub end : AtEnd → ahead.ended ≡ true
  pub limit : AtLimit → ahead.pending ≡ []
