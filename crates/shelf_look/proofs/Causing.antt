-- What was read gives an array, or there is none for that cause.
use Rattle.shelf_look.proofs.Prelude.{◌≡◌, ◌∙◌, inl, inr, ℕ, ◌≤◌, Bool, not, List, ap, subst, arith, cases_Bool, View, nvram, BootRecord, geometry_of, Shelved, Disk, Rises, is_in, Loaded, IsFaultOf, IsGiven, NvLog, shown_by, IsFewer, IsSome, AllFailed, DroppedCounted, IsReadFrom, TablesFault, ShowsDrives, IsLogOf, IsCauseOf, AreOthers, IsTablesCause, ShowsThose}
use Rattle.boot_region.specs.declared.loading.LoadFault.{LoadFault}
use Rattle.boot_region.specs.declared.loading.LoadFault.TheVariants as load
use Rattle.nvram_log.specs.declared.read.ReadFault.{ReadFault}
use Rattle.nvram_log.specs.declared.read.ReadFault.TheVariants as read_fault
use Rattle.table_loading.specs.declared.fault.TablesFault.TheVariants as tables
use Rattle.table_loading.specs.Faults.{IsTablesFault}
use Rattle.shelf_look.specs.Causes.{cause_of, cause_of_log, cause_of_tables}

-- ---- the record

pub record_cause : (a n : Shelved) (bytes : List ℕ) (answered : List Bool) (fault : LoadFault) → IsFaultOf (geometry_of a) bytes answered fault → IsCauseOf a n bytes answered (cause_of fault)
record_cause a n bytes answered (load.Memory m) is = tt
record_cause a n bytes answered load.NoArray is = is
record_cause a n bytes answered (load.BadRecord e) is = is
record_cause a n bytes answered load.Spent is = is
record_cause a n bytes answered (load.TooFew drives) is = is

-- ---- the tables

-- where the drives that hold the record are shown, those are that aren't missing
pub shows_drives : (a : Shelved) (drives others : List Bool) (view : View) → a.drives ≤ 24 → AreOthers drives others → ShowsThose a drives view → ShowsDrives a others view
shows_drives a drives others view few are shows slot lt none = shows slot lt (elim (cases_Bool (is_in drives slot)) [
  | inl is ↦ is
  | inr out ↦ absurd (cc (none, are slot (omega (arith, lt, few)) ∙ ap not out))
])

pub tables_cause : (a n : Shelved) (boot : BootRecord) (drives others : List Bool) → a.drives ≤ 24 → AreOthers drives others → a.honest
    → (fault : TablesFault) → IsTablesFault a n boot others fault → IsTablesCause a n drives boot fault
tables_cause a n boot drives others few are honest (tables.BadPatch t) is = (
  (is.patch, is.named, is.of_table),
  λ view ps shows stand. is.none honest view ps (shows_drives a drives others view few are shows) stand,
)
tables_cause a n boot drives others few are honest (tables.Unsound t) is = (
  (is.tables, is.fault),
  λ view ps shows stand sound. is.none honest view ps (shows_drives a drives others view few are shows) stand sound,
)
tables_cause a n boot drives others few are honest (tables.Lost lost) is = (is.0, is.1, (others, are, is.2))
tables_cause a n boot drives others few are honest (tables.Memory m) is = tt

pub cause_of_those : (a n : Shelved) (bytes : List ℕ) (answered : List Bool) (x : Loaded) → IsGiven (geometry_of a) bytes answered x
    → (fault : TablesFault) → IsTablesCause a n x.drives x.record fault → IsCauseOf a n bytes answered (cause_of_tables fault)
cause_of_those a n bytes answered x given (tables.BadPatch t) is = record { loaded = x; given = given; cause = is }
cause_of_those a n bytes answered x given (tables.Unsound t) is = record { loaded = x; given = given; cause = is }
cause_of_those a n bytes answered x given (tables.Lost lost) is = record { loaded = x; given = given; cause = is }
cause_of_those a n bytes answered x given (tables.Memory m) is = tt

-- ---- the log

pub log_cause : (a mid n : Shelved) (bytes : List ℕ) (answered : List Bool) (x : Loaded) → IsGiven (geometry_of a) bytes answered x → ((k : ℕ) → mid.disk (nvram k) ≡ a.disk (nvram k))
    → (fault : ReadFault) → AllFailed fault mid n x.record.members.nvrams → IsCauseOf a n bytes answered (cause_of_log fault)
log_cause a mid n bytes answered x given stay read_fault.NoMemory is = tt
log_cause a mid n bytes answered x given stay read_fault.BothLost is = record {
  loaded = x;
  given = given;
  failed = λ k lt m. subst (λ (d : Disk). Rises d.faults (n.disk (nvram k)).faults) (stay k) (is k lt m);
}

pub log_of : (a mid n : Shelved) (boot : BootRecord) (log : NvLog) → (a.honest → mid.honest) → ((k : ℕ) → mid.disk (nvram k) ≡ a.disk (nvram k)) → log.flushed ≡ boot.flushed
    → IsFewer boot.members.nvrams log.members → IsSome log.members → DroppedCounted mid n boot.members.nvrams log.members → IsReadFrom mid.honest (shown_by n log.members) log → IsLogOf a n boot log
log_of a mid n boot log honest stay flushed fewer some dropped r = record {
  flushed = flushed;
  named = fewer;
  some = some;
  dropped = λ k lt m. elim (dropped k lt m) [
    | inl is ↦ inl is
    | inr up ↦ inr (subst (λ (d : Disk). Rises d.faults (n.disk (nvram k)).faults) (stay k) up)
  ];
  read = record { commands = r.commands; has = r.has; shown = λ h. r.shown (honest h); ends = λ h. r.ends (honest h) };
}
