-- Why an array can't be opened, and with which status an opening would end.
use Rattle.session_spec.specs.Prelude.{Status}
use Rattle.pur_base.specs.declared.reply.Status.TheVariants as status
use Rattle.boot_region.specs.declared.loading.LoadFault.{LoadFault}
use Rattle.boot_region.specs.declared.loading.LoadFault.TheVariants as load
use Rattle.nvram_log.specs.declared.read.ReadFault.{ReadFault}
use Rattle.nvram_log.specs.declared.read.ReadFault.TheVariants as read
use Rattle.table_loading.specs.declared.fault.TablesFault.{TablesFault}
use Rattle.table_loading.specs.declared.fault.TablesFault.TheVariants as tables
use Rattle.shelf_look.specs.declared.cause.Cause.{Cause}
use Rattle.shelf_look.specs.declared.cause.Cause.TheVariants as cause

-- that of a record that isn't loaded
abbrev pub cause_of : LoadFault → Cause
cause_of (load.Memory m) = cause.Memory m
cause_of load.NoArray = cause.Record load.NoArray
cause_of (load.BadRecord e) = cause.Record (load.BadRecord e)
cause_of load.Spent = cause.Record load.Spent
cause_of (load.TooFew drives) = cause.Record (load.TooFew drives)

-- that of tables that aren't loaded
abbrev pub cause_of_tables : TablesFault → Cause
cause_of_tables (tables.BadPatch t) = cause.Tables (tables.BadPatch t)
cause_of_tables (tables.Unsound t) = cause.Tables (tables.Unsound t)
cause_of_tables (tables.Lost lost) = cause.Tables (tables.Lost lost)
cause_of_tables (tables.Memory m) = cause.Memory m

-- and that of a log that isn't read
abbrev pub cause_of_log : ReadFault → Cause
cause_of_log read.NoMemory = cause.Memory (record {})
cause_of_log read.BothLost = cause.BothLost

-- How a session ends that doesn't begin: where too few devices are left it is halted, of two ends, and else there is no array.
abbrev pub status_of : Cause → Status
status_of (cause.Memory m) = status.Memory
status_of (cause.Record load.NoArray) = status.NoArray
status_of (cause.Record (load.Memory m)) = status.NoArray
status_of (cause.Record (load.BadRecord e)) = status.NoArray
status_of (cause.Record load.Spent) = status.NoArray
status_of (cause.Record (load.TooFew drives)) = status.Halted
status_of (cause.Tables (tables.BadPatch t)) = status.NoArray
status_of (cause.Tables (tables.Unsound t)) = status.NoArray
status_of (cause.Tables (tables.Lost lost)) = status.Halted
status_of (cause.Tables (tables.Memory m)) = status.NoArray
status_of cause.BothLost = status.Halted
