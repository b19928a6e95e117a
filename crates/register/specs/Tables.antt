-- A record with other tables, and what has to stand before it is stored.
use Rattle.std.specs.Prelude.{◌≡◌, ◌⊎◌, ◌+◌, [], ◌∷◌, length}
use Rattle.array_spec.specs.Prelude.{Conditions, BootRecord, spelling, DataHolds, named_sound}
use Rattle.world.specs.Prelude.{geometry_of, Shelved, Stop, MayStop}
use Rattle.boot_region.specs.Prelude.{StandsBut, AccountsFor}
use Rattle.nvram_log.specs.Prelude.{HoldsOn}
use Rattle.register.specs.declared.state.Register.{Register}
use Rattle.register.specs.declared.tables.Tables.{Tables}
use Rattle.register.specs.Registers.{drives_of, next_slot}
use Rattle.register.specs.Standing.{Content, MayStore, array_of}

-- the record with these tables
abbrev pub with_tables : BootRecord → Tables → BootRecord
with_tables boot t = record boot { patches = t.patches; next = t.next; flushed = t.flushed }

-- the tables have flushed all that is logged, and hold the array of the log
pub record FlushesAll (r : Register) (tables : Tables) (held next : Content) : Type 0 where
  pub flushed : tables.flushed ≡ r.record.flushed + length held.log
  pub log : next.log ≡ []
  pub base : next.base ≡ array_of held

-- or they hold the same base, from which the same log goes on
pub record FlushesNone (r : Register) (tables : Tables) (held next : Content) : Type 0 where
  pub flushed : tables.flushed ≡ r.record.flushed
  pub log : next.log ≡ held.log
  pub base : next.base ≡ held.base

-- either way it is the same array
abbrev pub KeepsArray : Register → Tables → Content → Content → Type 0
KeepsArray r tables held next = FlushesAll r tables held next ⊎ FlushesNone r tables held next

-- The tables, with what is left of the log, hold the same array, and stand on the drives on which the record is in force, whatever a stop leaves.
pub record IsPlanOf (shelf : Shelved) (r : Register) (tables : Tables) (held next : Content) : Type 0 where
  pub keeps : KeepsArray r tables held next
  pub stand : (start : Stop) → MayStop shelf start → DataHolds (geometry_of shelf) (drives_of r) start.image (with_tables r.record tables) next.patches next.base
  -- the NVRAM devices hold the log, and the gates behind it are closed
  pub logged : HoldsOn shelf r.record.members.nvrams r.record.flushed held.log

-- In all conditions that tell what has failed by then, the devices stand for the array for which they stood.
abbrev pub StandsAsBefore : Shelved → Register → Content → Stop → Type 0
StandsAsBefore old r held stop = StandsBut old (drives_of r) (named_sound r.record) (next_slot r.record) r.record (array_of held ∷ []) stop

-- in all conditions that tell what failed meanwhile the record may be stored again, by the new tables
abbrev pub MayGoOn : Shelved → Shelved → Register → Register → Content → Content → Type 0
MayGoOn old new was now held next = (later : Conditions)
    → AccountsFor old (drives_of was) (named_sound was.record) (next_slot was.record) (spelling was.record) (λ d. (new.disk d).faults) (λ d. (new.disk d).write_faults) later
    → MayStore new now was.record.members.nvrams later next (array_of held ∷ [])
