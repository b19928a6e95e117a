-- Why tables aren't loaded.
use Rattle.std.specs.Prelude.{◌≡◌, ℕ, ◌<◌, Bool, List, length, Contains}
use Rattle.std.specs.List.{AllZip}
use Rattle.array_spec.specs.Prelude.{View, tag_of, Table, AnyFact, Patch, BootRecord, AreSound, PatchStands, PatchesStand, places_of_part}
use Rattle.table_soundness.specs.declared.fault.SoundFault.{SoundFault}
use Rattle.table_soundness.specs.declared.fault.SoundFault.TheVariants as sound_fault
use Rattle.loaded_tables.specs.declared.tables.LoadedTables.{LoadedTables}
use Rattle.loaded_tables.specs.Prelude.{patches_in}
use Rattle.table_soundness.specs.Faults.{IsFault}
use Rattle.world.specs.Prelude.{geometry_of, Shelved}
use Rattle.patch_io.specs.declared.fault.PatchFault.{PatchFault}
use Rattle.patch_io.specs.declared.fault.PatchFault.TheVariants as patch_fault
use Rattle.patch_io.specs.Prelude.{AreLostSince, ShowsPatch}
use Rattle.table_loading.specs.Loading.{IsLoaded, ShowsDrives}
use Rattle.table_loading.specs.declared.fault.TablesFault.{TablesFault}
use Rattle.table_loading.specs.declared.fault.TablesFault.TheVariants.{BadPatch, Unsound, Lost, Memory}

-- ---- as which fault one is told

-- a fault of soundness
abbrev pub fault_of : SoundFault → TablesFault
fault_of (sound_fault.Unsound t) = Unsound t
fault_of (sound_fault.Memory m) = Memory m

-- a fault of a patch of that table
abbrev pub fault_in : Table → PatchFault → TablesFault
fault_in t patch_fault.Bad = BadPatch t
fault_in t (patch_fault.Lost lost) = Lost lost
fault_in t (patch_fault.Memory m) = Memory m

-- ---- patches

-- no facts stand as the patch, by its present drives
abbrev pub IsBad : Shelved → List Bool → Patch → Type 0
IsBad old missing p = old.honest → (view : View) (facts : List AnyFact) → ShowsPatch old p missing view → ¬ PatchStands view p facts

-- of the nine drives of one of its segments these three are missing or failed
abbrev pub IsLostIn : Shelved → Shelved → List Bool → Patch → List Bool → Type 0
IsLostIn old new missing p drives = (part : ℕ) × (part < length p.segments) × AreLostSince old new (places_of_part p part) missing drives

-- one of the patches is bad or lost, or memory ran out
abbrev pub IsFaultIn : Shelved → Shelved → List Bool → List Patch → TablesFault → Type 0
IsFaultIn old new missing ps (BadPatch t) = (p : Patch) × Contains ps p × (p.tag ≡ tag_of t) × IsBad old missing p
IsFaultIn old new missing ps (Unsound t) = ⊥
IsFaultIn old new missing ps (Lost lost) = (p : Patch) × Contains ps p × IsLostIn old new missing p lost.drives
IsFaultIn old new missing ps (Memory m) = Unit {0}

-- the patch is so, among whichever it stands
abbrev pub IsPatchFault : Shelved → Shelved → List Bool → Patch → TablesFault → Type 0
IsPatchFault old new missing p fault = (ps : List Patch) → Contains ps p → IsFaultIn old new missing ps fault

-- ---- tables

-- A patch of that table is bad, so no facts stand as the patches where the drives that aren't missing are shown.
pub record HasBadPatch (old : Shelved) (boot : BootRecord) (missing : List Bool) (t : Table) : Type 0 where
  pub patch : Patch
  pub named : Contains boot.patches patch
  pub of_table : patch.tag ≡ tag_of t
  pub bad : IsBad old missing patch
  pub none : old.honest → (view : View) (patches : List (List AnyFact)) → ShowsDrives old missing view → ¬ PatchesStand view boot patches

-- That table is at fault in the tables that were loaded, so none that stand there are sound.
pub record AreUnsound (old new : Shelved) (boot : BootRecord) (missing : List Bool) (t : Table) : Type 0 where
  pub tables : LoadedTables
  pub loaded : AllZip (IsLoaded old new missing) boot.patches (patches_in tables)
  pub fault : IsFault (geometry_of old) boot tables t
  pub none : old.honest → (view : View) (patches : List (List AnyFact)) → ShowsDrives old missing view → PatchesStand view boot patches → ¬ AreSound (geometry_of old) boot patches

-- a patch is bad or lost, or the tables aren't sound, or memory ran out
abbrev pub IsTablesFault : Shelved → Shelved → BootRecord → List Bool → TablesFault → Type 0
IsTablesFault old new boot missing (BadPatch t) = HasBadPatch old boot missing t
IsTablesFault old new boot missing (Unsound t) = AreUnsound old new boot missing t
IsTablesFault old new boot missing (Lost lost) = (p : Patch) × Contains boot.patches p × IsLostIn old new missing p lost.drives
IsTablesFault old new boot missing (Memory m) = Unit {0}
