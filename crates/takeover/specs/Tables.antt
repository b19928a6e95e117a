-- The tables that a record names, on the drives and in memory.
use Rattle.std.specs.Prelude.{◌≡◌, List, [], All}
use Rattle.std.specs.List.{AllZip}
use Rattle.session_spec.specs.Prelude.{Geometry, Array, AnyFact, BootRecord, IsFact, AreSound, all_facts, in_patches, TablesHold, facts_of, Contents, FactsRead, ReadsAs, facts, patches, IsNamed, geometry_of, Shelved, Stop, MayStop}
use Rattle.table_plan.specs.Prelude.{AreStored}
use Rattle.boot_region.specs.declared.loading.Loaded.{Loaded}
use Rattle.boot_region.specs.Prelude.{slot_in}
use Rattle.array_memory.specs.Prelude.{Kept}
use Rattle.array_core.specs.Prelude.{HasRoomFor, nothing_behind}

-- the record's tables hold these facts and this base, whatever a stop leaves
abbrev pub HoldTables : Shelved → Loaded → List (List AnyFact) → Array → Type 0
HoldTables shelf x ps base = (start : Stop) → MayStop shelf start → TablesHold (geometry_of shelf) start.image (slot_in x.slot) x.record ps base

-- they do, and memory reads as that base
pub record HasTables (shelf : Shelved) (x : Loaded) (k : Kept) (ps : List (List AnyFact)) (base : Array) : Type 0 where
  pub hold : HoldTables shelf x ps base
  pub contents : Contents
  pub reads : ReadsAs contents k.memory base

-- Memory of the tables that the record names: they are sound, there is no fact beside them, and memory reads as what they read as, whatever segments hold. It has room for a whole log.
pub record IsMemoryOf (shelf : Geometry) (boot : BootRecord) (k : Kept) : Type 0 where
  pub tables_sound : AreSound shelf boot (patches k.memory.tables)
  pub lawful : All IsFact (in_patches (patches k.memory.tables))
  pub some : (contents : Contents) → (base : Array) × FactsRead contents [] (all_facts (patches k.memory.tables)) boot.next.object base
  pub reads : (contents : Contents) (base : Array) → FactsRead contents [] (all_facts (patches k.memory.tables)) boot.next.object base → ReadsAs contents k.memory base
  pub all : all_facts (patches k.memory.tables) ≡ facts k.memory.tables
  pub named : AllZip IsNamed boot.patches (patches k.memory.tables)
  pub stored : AreStored (facts_of k.memory.tables.addresses.patches)
  pub next : k.memory.next ≡ boot.next
  pub room : HasRoomFor k 0 nothing_behind
