-- What a reader has taken from a source and not consumed.
use Rattle.std.specs.Prelude.{◌≡◌, ℕ, ◌+◌, ◌-◌, ◌≤◌, Bool, true, List, [], length}
use Rattle.world.specs.Prelude.{INPUT_BYTES, Streamed}
use Rattle.line_input.specs.declared.buffer.TheConstants.{BUFFER_BYTES}

-- what was taken and not consumed; how many bytes were taken in all; whether the input has ended
pub record Ahead : Type 0 where
  pub pending : List ℕ
  pub taken : ℕ
  pub ended : Bool

-- the buffer, and the bounds of what is pending in it
pub record InBuffer (buffer : List ℕ) (start end taken : ℕ) : Type 0 where
  pub size : length buffer ≡ BUFFER_BYTES
  pub ordered : start ≤ end
  pub within : end ≤ BUFFER_BYTES
  pub limited : taken ≤ INPUT_BYTES

-- the source tells what it has left, and where the input has ended that is nothing
pub record Tells (ahead : Ahead) (source : Streamed) : Type 0 where
  pub honest : source.honest
  pub ended : ahead.ended ≡ true → source.bytes ≡ []

-- how many bytes may still be consumed
abbrev pub budget : Ahead → ℕ
budget ahead = (INPUT_BYTES - ahead.taken) + length ahead.pending
