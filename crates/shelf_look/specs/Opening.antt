-- What an opening would find on the devices, and why it would find no array.
use Rattle.std.specs.Prelude.{ℕ, ◌<◌, Bool, List, ⊤}
use Rattle.session_spec.specs.Prelude.{Command, Geometry, nvram, Device, IsRecordOf, Rises, geometry_of, Shelved, flushed}
use Rattle.boot_region.specs.declared.loading.Loaded.{Loaded}
use Rattle.boot_region.specs.Prelude.{IsFaultOf, IsGiven}
use Rattle.nvram_log.specs.Prelude.{HasRead, IsMember}
use Rattle.table_loading.specs.declared.fault.TablesFault.{TablesFault}
use Rattle.table_soundness.specs.Faults.{AreVisible}
use Rattle.shelf_look.specs.declared.cause.Cause.{Cause}
use Rattle.shelf_look.specs.declared.cause.Cause.TheVariants as cause
use Rattle.shelf_look.specs.declared.finding.Opening.{Opening}
use Rattle.shelf_look.specs.Log.{AreWaiting, IsLogOf}
use Rattle.shelf_look.specs.Tables.{AreTablesOn, IsMemoryOf, IsTablesCause}

-- any device
abbrev pub IsAny : Device → Type 0
IsAny d = Unit {0}

-- What was found fits together: the record is one of the shelf's, memory has its tables, and the log's commands were counted.
pub record IsOpeningIn (shelf : Geometry) (o : Opening) : Type 0 where
  pub lawful : IsRecordOf shelf o.loaded.record
  pub memory : IsMemoryOf shelf o.loaded.record o.memory
  pub waiting : (commands : List Command) → HasRead o.log commands → AreWaiting commands o.waiting

-- What these boot regions, the drives and the NVRAM devices give: the record in force, its tables, what is visible of them, and the log.
pub record IsOpeningOf (old new : Shelved) (bytes : List ℕ) (answered : List Bool) (o : Opening) : Type 0 where
  pub given : IsGiven (geometry_of old) bytes answered o.loaded
  pub tables : AreTablesOn old o.loaded.drives o.loaded.record o.memory
  pub visible : AreVisible (flushed o.memory.memory.tables) o.visible
  pub log : IsLogOf old new o.loaded.record o.log

-- the tables of the record in force aren't read from the drives that hold it, or aren't sound
pub record HasNoTables (old new : Shelved) (bytes : List ℕ) (answered : List Bool) (fault : TablesFault) : Type 0 where
  pub loaded : Loaded
  pub given : IsGiven (geometry_of old) bytes answered loaded
  pub cause : IsTablesCause old new loaded.drives loaded.record fault

-- on each NVRAM device that the record in force names a call failed
pub record HasNoLog (old new : Shelved) (bytes : List ℕ) (answered : List Bool) : Type 0 where
  pub loaded : Loaded
  pub given : IsGiven (geometry_of old) bytes answered loaded
  pub failed : (n : ℕ) → n < 2 → IsMember loaded.record.members.nvrams n → Rises (old.disk (nvram n)).faults (new.disk (nvram n)).faults

-- why these boot regions, the drives and the NVRAM devices give no array
abbrev pub IsCauseOf : Shelved → Shelved → List ℕ → List Bool → Cause → Type 0
IsCauseOf old new bytes answered (cause.Memory m) = ⊤
IsCauseOf old new bytes answered (cause.Record fault) = IsFaultOf (geometry_of old) bytes answered fault
IsCauseOf old new bytes answered (cause.Tables fault) = HasNoTables old new bytes answered fault
IsCauseOf old new bytes answered cause.BothLost = HasNoLog old new bytes answered
