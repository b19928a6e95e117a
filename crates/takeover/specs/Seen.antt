-- What the drives showed when the record was found, and the moments from there on at which it may still be given.
use Rattle.std.specs.Prelude.{◌≡◌, ◌⊎◌, ℕ, ◌<◌, ◌≤◌, List, true, false, Some, None, Result, Ok, Err, ⊤}
use Rattle.std.specs.List.{AllZip}
use Rattle.session_spec.specs.Prelude.{Device, BOOT_UNITS, View, Conditions, IsBearable, drive, nvram, Array, AnyFact, BootSlot, IsEffective, body_in, of_members, spelling, DiffersOnlyIn, MayBeGiven, PatchesStand, not_holding, missing_drives, patches, geometry_of, has_failed, Shelved, Stop, LeavesOnly, Enters, OnlyFailedAreSilent, read_now, failed_by, HasNoArray, HasTooFew, PatchIsShown}
use Rattle.boot_region.specs.declared.loading.Loaded.{Loaded}
use Rattle.boot_region.specs.Prelude.{IsMember, slot_in}
use Rattle.takeover.specs.declared.tables.FoundArray.{FoundArray}
use Rattle.takeover.specs.declared.faults.OpenFault.{OpenFault}
use Rattle.takeover.specs.declared.faults.OpenFault.TheVariants as open_fault

-- once what the drives showed has been read, the record may be given, as long as what has failed by then is borne
abbrev pub IsGivenFrom : Shelved → View → Loaded → Conditions → Stop → Type 0
IsGivenFrom old view x missing stop = OnlyFailedAreSilent (has_failed (read_now old) stop) view → IsBearable (geometry_of old) (failed_by old stop missing)
    → MayBeGiven (geometry_of old) stop.image (failed_by old stop missing) (slot_in x.slot) x.record

-- what the drives showed gives the record; NVRAM devices aren't read yet
pub record IsSeenIn (old new : Shelved) (x : Loaded) : Type 0 where
  pub view : View
  pub shown : (d : Device) → (view d ≡ Some (old.disk d).bytes) ⊎ (view d ≡ None)
  pub nvrams : (n : ℕ) → view (nvram n) ≡ Some (old.disk (nvram n)).bytes
  pub silent : OnlyFailedAreSilent (has_failed (read_now old) (read_now new)) view
  pub effective : IsEffective (geometry_of old) view (slot_in x.slot) (spelling x.record)
  -- at most two drives didn't show that they hold it
  pub enough : missing_drives (geometry_of old) (not_holding (slot_in x.slot) x.record view) ≤ 2
  -- a drive that is left showed the record and is one that it names
  pub held : (i : ℕ) → IsMember x.drives i → of_members (slot_in x.slot) x.record view (drive i) ≡ Some (old.disk (drive i)).bytes
  -- one that isn't left did not, or failed
  pub dropped : (i : ℕ) → i < old.drives → IsMember x.drives i ⊎ (of_members (slot_in x.slot) x.record view (drive i) ≡ None) ⊎ (has_failed (read_now old) (read_now new) (drive i) ≡ true)
  -- of the drives nothing but boot units has changed, and no body
  pub only_boot : DiffersOnlyIn (λ drive unit. unit < BOOT_UNITS) (read_now old).image (read_now new).image
  pub bodies : (slot : BootSlot) (i : ℕ) → body_in slot (new.disk (drive i)).bytes ≡ body_in slot (old.disk (drive i)).bytes
  pub given : (missing : Conditions) (arrays : List Array) → Enters old missing arrays → LeavesOnly old new (IsGivenFrom old view x missing)

-- the record was found, or why not
abbrev pub IsSeenBy : Shelved → Shelved → Result Loaded OpenFault → Type 0
IsSeenBy old new (Ok x) = IsSeenIn old new x
IsSeenBy old new (Err (open_fault.Memory m)) = ⊤
IsSeenBy old new (Err open_fault.NoArray) = HasNoArray old new
IsSeenBy old new (Err (open_fault.BadRecord e)) = HasNoArray old new
IsSeenBy old new (Err open_fault.Spent) = HasNoArray old new
IsSeenBy old new (Err (open_fault.BadPatch t)) = ⊥
IsSeenBy old new (Err (open_fault.Unsound t)) = ⊥
IsSeenBy old new (Err (open_fault.TooFew drives)) = HasTooFew old new
IsSeenBy old new (Err open_fault.BothLost) = ⊥

-- each drive shows nothing, or what it showed as a member; of one that shows something no call failed
abbrev pub ShowsUnfailed : Shelved → Shelved → View → View → Type 0
ShowsUnfailed old new members view = (i : ℕ) → (view (drive i) ≡ None) ⊎ ((view (drive i) ≡ members (drive i)) × (has_failed (read_now old) (read_now new) (drive i) ≡ false))

-- So it was, and no other facts stand as its patches, where the drives that it gave are members. Each fact is the one that they show of which no call failed.
pub record AreTablesSeen (old new : Shelved) (f : FoundArray) : Type 0 where
  pub seen : IsSeenIn old new f.loaded
  pub no_other : (members : View) → ((i : ℕ) → members (drive i) ≡ of_members (slot_in f.loaded.slot) f.loaded.record seen.view (drive i))
      → (there : List (List AnyFact)) → PatchesStand members f.loaded.record there → there ≡ patches f.memory.memory.tables
  pub shown : (members : View) → ShowsUnfailed old new (of_members (slot_in f.loaded.slot) f.loaded.record seen.view) members
      → AllZip (PatchIsShown members) f.loaded.record.patches (patches f.memory.memory.tables)

-- the record was found and its tables were read, or why not
abbrev pub AreTablesSeenBy : Shelved → Shelved → Result FoundArray OpenFault → Type 0
AreTablesSeenBy old new (Ok f) = AreTablesSeen old new f
AreTablesSeenBy old new (Err (open_fault.Memory m)) = ⊤
AreTablesSeenBy old new (Err open_fault.NoArray) = HasNoArray old new
AreTablesSeenBy old new (Err (open_fault.BadRecord e)) = HasNoArray old new
AreTablesSeenBy old new (Err (open_fault.BadPatch t)) = HasNoArray old new
AreTablesSeenBy old new (Err (open_fault.Unsound t)) = HasNoArray old new
AreTablesSeenBy old new (Err open_fault.Spent) = HasNoArray old new
AreTablesSeenBy old new (Err (open_fault.TooFew drives)) = HasTooFew old new
AreTablesSeenBy old new (Err open_fault.BothLost) = ⊥
