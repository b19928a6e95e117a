-- Which data segments addresses name, where some mediums are elided.
use Rattle.std.specs.Prelude.{◌≡◌, ℕ, Bool, false, not, ◌&&◌, List, filter, Option, Some, None}
use Rattle.std.specs.List.{list_any}
use Rattle.memory_spec.specs.Prelude.{is_within, Facts, address, Target, AddressFact}
use Rattle.pur_base.specs.declared.request.Table.TheVariants as table
use Rattle.elision.specs.Ranges.{ElidedRanges, ranges_of}
use Rattle.address_table.specs.Addresses.{target_of}
use Rattle.table_plan.specs.Prelude.{stands_in}

-- whether the addresses of a medium are elided
abbrev pub is_hidden : ElidedRanges → ℕ → Bool
is_hidden elided = is_within (ranges_of elided table.Address)

-- whether what an address says stands in the segment, if it says anything
abbrev pub is_said_in : ℕ → Option Target → Bool
is_said_in segment None = false
is_said_in segment (Some t) = stands_in segment t

-- whether a visible address names a sector of the segment, by that medium and sector
unfoldable pub names_at : List AddressFact → (ℕ → Bool) → ℕ → ℕ → ℕ → Bool
names_at addresses hidden segment medium sector = is_said_in segment (target_of addresses hidden medium sector)

-- whether the fact names a sector of the segment, and its address still does
unfoldable pub names : List AddressFact → (ℕ → Bool) → ℕ → AddressFact → Bool
names addresses hidden segment f = stands_in segment f.target && names_at addresses hidden segment f.medium.0 f.sector

-- whether a visible address names a sector of the segment
unfoldable pub is_named : List AddressFact → (ℕ → Bool) → ℕ → Bool
is_named addresses hidden segment = list_any (names addresses hidden segment) addresses

-- those of the ids whose segments none names
abbrev pub unnamed : List AddressFact → (ℕ → Bool) → List ℕ → List ℕ
unnamed addresses hidden ids = filter (λ id. not (is_named addresses hidden id)) ids

-- the facts of all tables say of each address what these do
abbrev pub SayAddresses : List AddressFact → (ℕ → Bool) → Facts → Type 0
SayAddresses addresses hidden facts = (medium sector : ℕ) → address facts medium sector ≡ target_of addresses hidden medium sector
