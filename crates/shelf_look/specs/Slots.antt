-- What an NVRAM device shows in the slots of the log.
use Rattle.std.specs.Prelude.{ℕ, ◌<◌, Bool, true, false, List, slice_index_or}
use Rattle.session_spec.specs.Prelude.{Command, LOG_SLOTS, ShowsIn}

-- a device with these bytes shows a command of the log in a slot, behind what is flushed, or it doesn't
abbrev pub IsShownAt : List ℕ → ℕ → ℕ → Bool → Type 0
IsShownAt bytes flushed slot true = (c : Command) × ShowsIn bytes flushed slot c
IsShownAt bytes flushed slot false = (c : Command) → ¬ ShowsIn bytes flushed slot c

-- the flags tell it of each slot
abbrev pub AreShown : List ℕ → ℕ → List Bool → Type 0
AreShown bytes flushed shown = (slot : ℕ) → slot < LOG_SLOTS → IsShownAt bytes flushed slot (slice_index_or shown slot false)
