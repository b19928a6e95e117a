-- Which devices are missing, where one that lost a write is and one that only failed a read isn't.
use Rattle.session_spec.specs.Prelude.{Conditions, Shelved, Stop, has_risen, losing}

-- a device that lost a write since one moment, and by a stop since then
abbrev pub lost_since : Shelved → Shelved → Conditions → Conditions
lost_since old new missing = losing (λ d. has_risen (old.disk d).write_faults (new.disk d).write_faults) missing

abbrev pub lost_by : Shelved → Stop → Conditions → Conditions
lost_by old stop missing = losing (λ d. has_risen (old.disk d).write_faults (stop.write_faults d)) missing
