-- What was looked up of addresses, for sectors of a medium one behind another.
use Rattle.std.specs.Prelude.{◌≡◌, ℕ, ◌+◌, ◌<◌, ◌≤◌, Bool, List, None, Some, slice_get, slice_index_or}
use Rattle.memory_spec.specs.Prelude.{AddressFact}
use Rattle.address_table.specs.Addresses.{visible}
use Rattle.array_memory.specs.declared.said.SaidRun.{SaidRun}

-- these addresses say so of each of the sectors
abbrev pub AreSaid : List AddressFact → (ℕ → Bool) → SaidRun → Type 0
AreSaid addresses hidden run = (i : ℕ) → i < run.count → slice_index_or run.said i None ≡ visible addresses hidden run.medium.0 (run.first + i)

-- the sector is one of them
pub record HasSector (run : SaidRun) (medium sector : ℕ) : Type 0 where
  pub medium_is : run.medium.0 ≡ medium
  pub behind : run.first ≤ sector
  pub within : sector < run.first + run.count

-- the fact is of the sector so many behind the one that follows the first
abbrev pub IsBehind : ℕ → ℕ → ℕ → AddressFact → Type 0
IsBehind medium first n f = (f.medium.0 ≡ medium) × (f.sector ≡ first + 1 + n)

-- and so is the one in that place of a list
abbrev pub HasBehind : ℕ → ℕ → List AddressFact → ℕ → Type 0
HasBehind medium first facts n = (f : AddressFact) × (slice_get facts n ≡ Some f) × IsBehind medium first n f
