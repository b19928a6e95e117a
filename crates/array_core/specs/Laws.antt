-- What writes in free units, and writes of the log, leave of an array that is open.
use Rattle.std.specs.Prelude.{◌≡◌, ℕ, Bool, List, [], ◌∷◌}
use Rattle.session_spec.specs.Prelude.{Command, AllAccepted, Conditions, Array, DataHolds, geometry_of, Shelved, LeavesOnly}
use Rattle.boot_region.specs.Prelude.{IsMember}
use Rattle.nvram_log.specs.Prelude.{HoldsOn}
use Rattle.register.specs.declared.state.Register.{Register}
use Rattle.register.specs.declared.tables.Tables.{Tables}
use Rattle.register.specs.Prelude.{drives_of, Content, IsOpen, MayStore, ShowsOn, StandsInLog, array_of, IsPlanOf, KeepsArray, StandsAsBefore, with_tables}
use Rattle.array_core.specs.Free.{AreSynced, IsKnownOf, WritesFree}
use Rattle.array_core.specs.Logging.{LeadTo, StandsWhateverFails, WritesLog}

-- ---- free units

-- At every moment the devices stand for the array, in all conditions that tell what has failed by then.
abbrev pub FreeWritesStand : Shelved → Shelved → Type 0
FreeWritesStand old new = old.honest → (r : Register) (nvrams : List Bool) (held : Content)
    → IsOpen old r nvrams held → WritesFree r held old new → LeavesOnly old new (StandsAsBefore old r held)

-- Once the drives are synced it is open as it was.
abbrev pub FreeWritesKeep : Shelved → Shelved → Type 0
FreeWritesKeep old new = old.honest → (r : Register) (nvrams : List Bool) (held : Content)
    → IsOpen old r nvrams held → WritesFree r held old new → AreSynced new r → IsOpen new r nvrams held

-- Where some of them were lost, the record's bytes still stand on the others, with its tables and the log.
abbrev pub FreeWritesLeave : Shelved → Shelved → Type 0
FreeWritesLeave old new = old.honest → (was now : Register) (nvrams : List Bool) (held : Content)
    → IsOpen old was nvrams held → WritesFree was held old new
    → now.record ≡ was.record → ((i : ℕ) → IsMember now.drives i → IsMember was.drives i)
    → StandsInLog new now nvrams held

-- Then the next record may be stored without those that were lost, in all conditions in which they are missing.
abbrev pub FreeWritesMayStore : Shelved → Shelved → Type 0
FreeWritesMayStore old new = old.honest → (was now : Register) (nvrams : List Bool) (held : Content) (known : Conditions)
    → IsOpen old was nvrams held → WritesFree was held old new → AreSynced new now
    → now.record ≡ was.record → ((i : ℕ) → IsMember now.drives i → IsMember was.drives i)
    → IsKnownOf new now nvrams known
    → MayStore new now nvrams known held (array_of held ∷ [])

-- Tables that stand on the drives, as reads give them, may be stored once they hold the same array with what they leave of the log, and the drives are synced.
abbrev pub PlansStand : Shelved → Type 0
PlansStand shelf = (r : Register) (tables : Tables) (held next : Content)
    → AreSynced shelf r → HoldsOn shelf r.record.members.nvrams r.record.flushed held.log
    → KeepsArray r tables held next
    → DataHolds (geometry_of shelf) (drives_of r) (λ d. (shelf.disk d).bytes) (with_tables r.record tables) next.patches next.base
    → IsPlanOf shelf r tables held next

-- ---- the log

-- At every moment the devices stand for the arrays to which the log may lead.
abbrev pub LogWritesStand : Shelved → Shelved → Type 0
LogWritesStand old new = old.honest → (r : Register) (nvrams : List Bool) (held : Content) (least most : List Command) (arrays : List Array)
    → IsOpen old r nvrams held → LeadTo r held.base least most arrays → WritesLog r nvrams least most old new
    → LeavesOnly old new (StandsWhateverFails old r arrays)

-- Where all these devices show a log at last, it is that of the open array.
abbrev pub LogWritesKeep : Shelved → Shelved → Type 0
LogWritesKeep old new = old.honest → (r : Register) (nvrams : List Bool) (held : Content) (least most log : List Command)
    → IsOpen old r nvrams held → WritesLog r nvrams least most old new
    → ShowsOn new nvrams r.record.flushed log → AllAccepted held.base log
    → IsOpen new r nvrams (record held { log = log })

-- Where some of them do, the record's bytes stand with its tables and that log.
abbrev pub LogWritesLeave : Shelved → Shelved → Type 0
LogWritesLeave old new = old.honest → (r : Register) (was now : List Bool) (held : Content) (least most log : List Command)
    → IsOpen old r was held → WritesLog r was least most old new
    → ShowsOn new now r.record.flushed log → AllAccepted held.base log
    → StandsInLog new r now (record held { log = log })
