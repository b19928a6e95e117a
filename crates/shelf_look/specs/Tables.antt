-- The tables that a record names, as they stand on the drives that hold it, and memory that was made of them.
use Rattle.std.specs.Prelude.{◌≡◌, ℕ, ◌<◌, Bool, true, not, List, Contains, Some, ⊤}
use Rattle.session_spec.specs.Prelude.{Geometry, View, drive, tag_of, AnyFact, Patch, BootRecord, AreSound, PatchesStand, patches, IsWhole, geometry_of, Shelved}
use Rattle.segment_io.specs.Prelude.{is_in, bytes_of}
use Rattle.table_loading.specs.declared.fault.TablesFault.{TablesFault}
use Rattle.table_loading.specs.declared.fault.TablesFault.TheVariants.{BadPatch, Unsound, Lost, Memory}
use Rattle.table_loading.specs.Faults.{IsLostIn}
use Rattle.table_loading.specs.Loading.{StripesStandOfAll}
use Rattle.loaded_tables.specs.declared.tables.LoadedTables.{LoadedTables}
use Rattle.table_soundness.specs.Faults.{IsFault}
use Rattle.array_memory.specs.Prelude.{Kept}

-- the drives that aren't among these
abbrev pub AreOthers : List Bool → List Bool → Type 0
AreOthers drives others = (slot : ℕ) → slot < 24 → is_in others slot ≡ not (is_in drives slot)

-- each of these drives is shown as it stands
abbrev pub ShowsThose : Shelved → List Bool → View → Type 0
ShowsThose shelf drives view = (slot : ℕ) → slot < shelf.drives → is_in drives slot ≡ true → view (drive slot) ≡ Some (bytes_of shelf (drive slot))

-- Memory has the patches of the record and nothing beside them, and they are sound.
pub record IsMemoryOf (shelf : Geometry) (boot : BootRecord) (k : Kept) : Type 0 where
  pub tables_sound : AreSound shelf boot (patches k.memory.tables)
  pub whole : IsWhole k.memory
  pub next : k.memory.next ≡ boot.next

-- So it has, and they are what stands as the record's patches where these drives are shown.
pub record AreTablesOn (shelf : Shelved) (drives : List Bool) (boot : BootRecord) (k : Kept) : Type 0 where
  pub memory : IsMemoryOf (geometry_of shelf) boot k
  pub stand : (view : View) → ShowsThose shelf drives view → StripesStandOfAll view boot → PatchesStand view boot (patches k.memory.tables)

-- ---- why there are none

-- where these drives are shown no facts stand as the record's patches
abbrev pub NoneStand : Shelved → List Bool → BootRecord → Type 0
NoneStand shelf drives boot = (view : View) (patches : List (List AnyFact)) → ShowsThose shelf drives view → ¬ PatchesStand view boot patches

-- and none that are sound
abbrev pub NoneAreSound : Shelved → List Bool → BootRecord → Type 0
NoneAreSound shelf drives boot = (view : View) (patches : List (List AnyFact)) → ShowsThose shelf drives view → PatchesStand view boot patches → ¬ AreSound (geometry_of shelf) boot patches

-- of the nine drives of a segment of this patch three don't hold the record, or a call on them failed
abbrev pub IsLostOf : Shelved → Shelved → List Bool → Patch → List Bool → Type 0
IsLostOf old new drives p lost = (others : List Bool) × AreOthers drives others × IsLostIn old new others p lost

-- A patch of the record is bad, which is of that table, or is lost; or that table is the first one that isn't sound; or memory ran out.
abbrev pub IsTablesCause : Shelved → Shelved → List Bool → BootRecord → TablesFault → Type 0
IsTablesCause old new drives boot (BadPatch t) = ((p : Patch) × Contains boot.patches p × (p.tag ≡ tag_of t)) × NoneStand old drives boot
IsTablesCause old new drives boot (Unsound t) = ((tables : LoadedTables) × IsFault (geometry_of old) boot tables t) × NoneAreSound old drives boot
IsTablesCause old new drives boot (Lost lost) = (p : Patch) × Contains boot.patches p × IsLostOf old new drives p lost.drives
IsTablesCause old new drives boot (Memory m) = ⊤
