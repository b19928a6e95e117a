-- Which addresses of a run are owed.
use Rattle.std.specs.Prelude.{◌≡◌, ℕ, ◌+◌, ◌<◌, ◌≤◌, List, Option, Some, None, length, slice_index_or, Contains}
use Rattle.memory_spec.specs.Prelude.{AddressFact, Target, address_key, Ascends}

-- an address of the sector at a place of a run, of which its medium says nothing
pub record IsOwedAt (medium first : ℕ) (said : List (Option AddressFact)) (read : List (Option Target)) (i : ℕ) (a : AddressFact) : Type 0 where
  pub of_medium : a.medium.0 ≡ medium
  pub sector : a.sector ≡ first + i
  pub unsaid : slice_index_or said i None ≡ None
  pub reads : slice_index_or read i None ≡ Some a.target

-- the addresses of such places in front of one, in order, with numbers from one on
pub record AreOwedIn (medium first number : ℕ) (said : List (Option AddressFact)) (read : List (Option Target)) (upto : ℕ) (given : List AddressFact) : Type 0 where
  pub each : (a : AddressFact) → Contains given a → (i : ℕ) × (i < upto) × IsOwedAt medium first said read i a
  pub all : (i : ℕ) (target : Target) → i < upto → slice_index_or said i None ≡ None → slice_index_or read i None ≡ Some target → (a : AddressFact) × Contains given a × (a.sector ≡ first + i)
  pub numbers : (a : AddressFact) → Contains given a → (number ≤ a.seq.0) × (a.seq.0 < number + length given)
  pub distinct : (a b : AddressFact) → Contains given a → Contains given b → a.seq.0 ≡ b.seq.0 → a ≡ b
  pub ascends : Ascends address_key given
