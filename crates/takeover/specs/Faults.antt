-- Faults of an opening.
use Rattle.std.specs.Prelude.{◌≡◌, Bool, List}
use Rattle.boot_region.specs.declared.loading.LoadFault.{LoadFault}
use Rattle.boot_region.specs.declared.loading.LoadFault.TheVariants as load
use Rattle.register.specs.declared.next.StoreFault.{StoreFault}
use Rattle.register.specs.declared.next.StoreFault.TheVariants as store
use Rattle.table_loading.specs.declared.fault.TablesFault.{TablesFault}
use Rattle.table_loading.specs.declared.fault.TablesFault.TheVariants as tables
use Rattle.takeover.specs.declared.log.LogFault.{LogFault}
use Rattle.takeover.specs.declared.log.LogFault.TheVariants as log
use Rattle.takeover.specs.declared.faults.OpenFault.{OpenFault}
use Rattle.takeover.specs.declared.faults.OpenFault.TheVariants as open_fault

-- the fault of a record that wasn't loaded
abbrev pub fault_of : LoadFault → OpenFault
fault_of (load.Memory m) = open_fault.Memory m
fault_of load.NoArray = open_fault.NoArray
fault_of (load.BadRecord e) = open_fault.BadRecord e
fault_of load.Spent = open_fault.Spent
fault_of (load.TooFew drives) = open_fault.TooFew drives

-- that of a log that wasn't opened
abbrev pub fault_of_log : LogFault → OpenFault
fault_of_log (log.Memory m) = open_fault.Memory m
fault_of_log log.BothLost = open_fault.BothLost

-- and that of a record that wasn't stored
abbrev pub fault_of_store : StoreFault → OpenFault
fault_of_store store.Spent = open_fault.Spent
fault_of_store (store.TooFew drives) = open_fault.TooFew drives

-- that of tables that weren't loaded: of a lost patch too few drives are left
abbrev pub IsFaultOfTables : TablesFault → OpenFault → Type 0
IsFaultOfTables (tables.BadPatch t) fault = fault ≡ open_fault.BadPatch t
IsFaultOfTables (tables.Unsound t) fault = fault ≡ open_fault.Unsound t
IsFaultOfTables (tables.Lost lost) fault = (drives : List Bool) × (fault ≡ open_fault.TooFew drives)
IsFaultOfTables (tables.Memory m) fault = fault ≡ open_fault.Memory m
