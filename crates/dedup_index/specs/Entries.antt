-- The entries of an index, and what a look-up reads.
use Rattle.std.specs.Prelude.{◌≡◌, ℕ, ◌-◌, Bool, not, ◌==◌, if◌then◌else◌, List, ◌∷◌, length, take, drop, filter, Option, Some, None, is_some, nat_eq, ◌⊎◌}
use Rattle.std.specs.Map.{lookup, remove_entry}
use Rattle.std.specs.Option.{option_map_or}
use Rattle.pur_base.specs.declared.limits.TheConstants.{INDEX_ENTRIES}
use Rattle.pur_base.specs.declared.ids.SegmentId.{SegmentId}
use Rattle.pur_base.specs.declared.place.Location.{Location}

-- hints and locations, the most recently used first
abbrev pub Entries : Type 0
Entries = List (ℕ × Location)

-- the location of a hint, if it has an entry
abbrev pub location_of : ℕ → Entries → Option Location
location_of hint es = lookup (nat_eq hint) es

-- the entries without that of a hint
abbrev pub without_hint : ℕ → Entries → Entries
without_hint hint es = remove_entry (nat_eq hint) es

-- the entries with that of a hint in front, if there is one
abbrev pub fronted : ℕ → Entries → Entries
fronted hint es = option_map_or (λ at. (hint, at) ∷ without_hint hint es) (location_of hint es) es

-- the entries that stay beside a new one: those of other hints, but not the oldest where a new hint finds the index full
abbrev pub beside : ℕ → Entries → Entries
beside hint es = if is_some (location_of hint es) then without_hint hint es else take (INDEX_ENTRIES - 1) es

-- the entries after a location was noted
abbrev pub noted : ℕ → Location → Entries → Entries
noted hint at es = (hint, at) ∷ beside hint es

-- whether an entry is of another segment
abbrev pub is_elsewhere : SegmentId → ℕ × Location → Bool
is_elsewhere segment e = not (e.1.segment.0 == segment.0)

-- the entries of other segments, in their order
abbrev pub without_segment : SegmentId → Entries → Entries
without_segment segment es = filter (is_elsewhere segment) es

-- the entries before the oldest
abbrev pub newer : Entries → Entries
newer es = take (length es - 1) es

-- the oldest entry alone
abbrev pub oldest : Entries → Entries
oldest es = drop (length es - 1) es

-- reading back at a location is lost, or gives other bytes than the sector's
abbrev pub Misses : {P : Type 0} → (P → Location → Option (List ℕ) → P → Type 0) → P → Location → List ℕ → List ℕ → P → Type 0
Misses reads before at sector read after = reads before at None after ⊎ (reads before at (Some read) after × ¬ (read ≡ sector))
