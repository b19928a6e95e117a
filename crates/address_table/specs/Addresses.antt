-- Where the sectors of mediums stand, as facts of addresses say it.
use Rattle.std.specs.Prelude.{◌≡◌, ℕ, ◌+◌, ◌<◌, Bool, false, ◌==◌, ◌&&◌, List, Contains, Option, Some, length, slice_get}
use Rattle.std.specs.Option.{option_map, option_map_or}
use Rattle.pyramid.specs.Prelude.{AddressFact, Target, Stored, Zero, address_key, never, key_of, says, Layers, facts_in}

-- the sequence number
abbrev pub number : AddressFact → ℕ
number f = f.seq.0

-- the visible fact of a medium's sector, where those mediums are elided
abbrev pub visible : List AddressFact → (ℕ → Bool) → ℕ → ℕ → Option AddressFact
visible facts elided medium sector = says address_key number never facts elided (key_of medium sector)

-- where a medium's sector stands, if the medium itself says it
abbrev pub target_of : List AddressFact → (ℕ → Bool) → ℕ → ℕ → Option Target
target_of facts elided medium sector = option_map (λ f. f.target) (visible facts elided medium sector)

-- the fact is visible
abbrev pub IsVisible : List AddressFact → (ℕ → Bool) → AddressFact → Type 0
IsVisible facts elided f = says address_key number never facts elided (address_key f) ≡ Some f

-- the visible facts of so many sectors of a medium, from the first one on
pub record IsVisibleRun (facts : List AddressFact) (elided : ℕ → Bool) (medium first len : ℕ) (run : List AddressFact) : Type 0 where
  pub long : length run ≡ len
  pub visible : (i : ℕ) → i < len → visible facts elided medium (first + i) ≡ slice_get run i

-- no patch of the table has the visible fact of each of the sectors
abbrev pub NoneHasVisibleRun : Layers AddressFact → (ℕ → Bool) → ℕ → ℕ → ℕ → Type 0
NoneHasVisibleRun table elided medium first len = (patch run : List AddressFact) → Contains table.patches patch
    → IsVisibleRun patch elided medium first len run → IsVisibleRun (facts_in table) elided medium first len run → ⊥

-- whether a sector stands in the segment
abbrev pub stands_in : ℕ → Target → Bool
stands_in segment (Stored location) = location.segment.0 == segment
stands_in segment Zero = false

-- whether what is said at the fact's key has its number
abbrev pub is_current : List AddressFact → (ℕ → Bool) → AddressFact → Bool
is_current facts elided f = option_map_or (λ g. number g == number f) (says address_key number never facts elided (address_key f)) false

-- whether a fact is visible and points to the segment
abbrev pub is_pointing : List AddressFact → (ℕ → Bool) → ℕ → AddressFact → Bool
is_pointing facts elided segment f = stands_in segment f.target && is_current facts elided f
