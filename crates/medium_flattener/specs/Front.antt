-- The front of a medium, as it is held.
use Rattle.std.specs.Prelude.{◌≡◌, ℕ, ◌+◌, ◌≤◌, nat_lt, if◌then◌else◌, length, take}
use Rattle.session_spec.specs.Prelude.{REQUEST_SECTORS, Memory}
use Rattle.array_memory.specs.Prelude.{IsFront, front_end}
use Rattle.medium_flattener.specs.declared.front.Front.{Front}

-- that is flattened next of the medium, with the addresses in the first places
pub record IsFrontOf (m : Memory) (medium : ℕ) (f : Front) : Type 0 where
  pub until : f.until ≡ front_end f.range
  pub few : f.len ≤ REQUEST_SECTORS
  pub places : f.len ≤ length f.given
  pub front : IsFront m medium f.range (take f.len f.given)

-- how many facts it takes in
abbrev pub facts_of : Front → ℕ
facts_of f = f.len + (if nat_lt f.until f.range.end then 2 else 1)
