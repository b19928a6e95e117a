-- The numbers of a status, told by a record, the facts of its patches and what else is counted.
use Rattle.std.specs.Prelude.{ℕ, ◌-◌, List, [], ◌∷◌, length}
use Rattle.memory_spec.specs.Prelude.{AnyFact, BootRecord, Facts, IsGroups, SegmentFact, all_facts, free_of_members, patch_segments, segments, Memory, facts, set_count, stored}
use Rattle.log_codec.specs.declared.limits.TheConstants.{LOG_SLOTS}
use Rattle.session_spec.specs.declared.limits.TheConstants.{CONTROLLER}

-- for so many more segments there are free units on the drives that the record names, beside those of its patches and of the data segments that these show
abbrev pub HasGroups : BootRecord → List (List AnyFact) → ℕ → Type 0
HasGroups boot patches groups = IsGroups (free_of_members boot (all_facts patches)) groups

-- the data segments that tables in memory show
abbrev pub segments_in : Memory → List SegmentFact
segments_in memory = segments (facts memory.tables) memory.next.segment

-- The controller, objects, segments for which there are free units, the drives and the NVRAM devices that the record names, free slots of the log,
-- data segments of ids below the next one, segments of patches, the sectors that were placed in data segments, and the generation.
abbrev pub status_numbers : BootRecord → Facts → (next objects logged groups : ℕ) → List ℕ
status_numbers boot facts next objects logged groups =
    CONTROLLER
    ∷ objects
    ∷ groups
    ∷ set_count boot.members.drives
    ∷ set_count boot.members.nvrams
    ∷ (LOG_SLOTS - logged)
    ∷ length (segments facts next)
    ∷ patch_segments boot.patches
    ∷ stored facts next
    ∷ boot.generation
    ∷ []
