-- What an opening found and did, whatever failed, or why the array wasn't opened.
use Rattle.std.specs.Prelude.{◌≡◌, ◌<◌, ◌+◌, ◌-◌, ◌^◌, ℕ, true, List, [], length, Contains, Result, Ok, Err, Option, Some, IfSome, All}
use Rattle.std.specs.List.{AllZip}
use Rattle.session_spec.specs.Prelude.{Command, after_all, Conditions, Sound, IsBearable, IsOn, Device, Drive, Nv, AnyFact, Status, names, IsFact, LogStands, HoldsBase, members_view, AreSound, PatchesStand, all_facts, in_patches, geometry_of, has_failed, Shelved, LeavesOnly, facts, patches, Contents, FactsRead, ReadsAs, next_after_all, Enters, Found, IsTakenOver, OnlyFailedAreSilent, StandsStill, read_now, failed_since, IsUnopenedBy, named_sound, PatchIsShown, unfailed}
use Rattle.pur_base.specs.Plain as plain
use Rattle.pur_base.specs.declared.reply.Status.TheVariants as status
use Rattle.boot_region.specs.declared.regions.TheConstants.{REGION_BYTES}
use Rattle.register.specs.Prelude.{next_slot, Content, array_of}
use Rattle.array_core.specs.declared.array.Array.{Array}
use Rattle.array_core.specs.Prelude.{HasEnough, SegmentsHold, IsReady, nothing_behind}
use Rattle.takeover.specs.Outlasting.{EntersFirmly}
use Rattle.takeover.specs.declared.faults.OpenFault.{OpenFault}
use Rattle.takeover.specs.declared.faults.OpenFault.TheVariants as open_fault

-- the boot region of a drive, or an NVRAM device
abbrev pub OffSegments : Device → ℕ → Type 0
OffSegments (Drive d) i = i < REGION_BYTES
OffSegments (Nv n) i = Unit {0}

-- how a session ends that doesn't begin
abbrev pub status_of : OpenFault → Status
status_of (open_fault.Memory m) = status.Memory
status_of (open_fault.TooFew drives) = status.Halted
status_of open_fault.BothLost = status.Halted
status_of _ = status.NoArray

-- nothing is dirty on devices that aren't missing
abbrev pub AreClean : Shelved → Conditions → Type 0
AreClean shelf missing = (d : Device) → missing d ≡ Sound → (shelf.disk d).dirty ≡ []

-- The devices that were found hold the base, whose sectors in segments the drives that are left hold as reads give them.
pub record IsHeldBy (old new : Shelved) (found : Found (geometry_of old) (read_now old).image) (a : Array) (base : plain.Array) : Type 0 where
  pub holds : HoldsBase (geometry_of old) (members_view found.view found.effective) found.effective.boot base
  pub contents : Contents
  pub reads : FactsRead contents [] (all_facts (patches a.memory.memory.tables)) found.effective.boot.next.object base
  pub hold : SegmentsHold contents new a.register (facts a.memory.memory.tables)

-- Where no more is missing than is borne, the array is one of those for which the devices stood. A record is in force alone that names each device that isn't missing, and by it they stand for that array.
pub record IsRecovered (old new : Shelved) (found : Found (geometry_of old) (read_now old).image) (a : Array) (log : List Command) (missing : Conditions) (arrays : List plain.Array) : Type 0 where
  pub held : Content
  pub ready : IsReady new a held
  pub one_of : Contains arrays (array_of held)
  pub log_is : held.log ≡ log
  pub base_held : IsHeldBy old new found a held.base
  pub sound : (d : Device) → IsOn (geometry_of new) d → missing d ≡ Sound → names a.register.record d ≡ true
  -- so it's as an opening asks for that is to outlast failures
  pub firm : EntersFirmly new (named_sound a.register.record) (next_slot a.register.record) a.register.record

-- The tables and the log that were found make the array, and a later record was stored that names the devices that are left.
-- For arrays for which the devices stood: they still do at every moment, and then for that in memory, one of them.
pub record IsOpened (old new : Shelved) (a : Array) : Type 0 where
  pub found : Found (geometry_of old) (read_now old).image
  pub not_spent : found.effective.boot.generation < 2 ^ 48 - 8
  -- no other facts stand as the record's patches
  pub no_other : (there : List (List AnyFact)) → PatchesStand (members_view found.view found.effective) found.effective.boot there → there ≡ patches a.memory.memory.tables
  -- each fact is the one that the devices show of which no call failed
  pub shown : AllZip (PatchIsShown (unfailed (has_failed (read_now old) (read_now new)) (members_view found.view found.effective))) found.effective.boot.patches (patches a.memory.memory.tables)
  pub tables_sound : AreSound (geometry_of old) found.effective.boot (patches a.memory.memory.tables)
  pub lawful : All IsFact (in_patches (patches a.memory.memory.tables))
  pub log : List Command
  pub count : a.log.count ≡ length log
  -- whatever the segments hold: from each array that the tables read as, the log that was shown leads to one that memory reads as
  pub reads : (contents : Contents) (base : plain.Array) → FactsRead contents [] (all_facts (patches a.memory.memory.tables)) found.effective.boot.next.object base
      → LogStands (members_view found.view found.effective) found.effective.boot.flushed base log × ReadsAs contents a.memory.memory (after_all base log)
  -- and the next numbers are those behind that log
  pub next : (contents : Contents) (base : plain.Array) → FactsRead contents [] (all_facts (patches a.memory.memory.tables)) found.effective.boot.next.object base
      → a.memory.memory.next ≡ next_after_all base found.effective.boot.next log
  -- nothing came in without a command
  pub background : a.background ≡ nothing_behind
  pub boot_is : a.register.record ≡ record found.effective.boot { generation = a.register.record.generation; members = a.register.record.members }
  pub taken_over : IsTakenOver (geometry_of old) (read_now old).image found (has_failed (read_now old) (read_now new)) (named_sound a.register.record)
  -- the devices that its record names were named by the record that was found, the count of failed writes and syncs has risen on none of them since, and enough drives hold it
  pub none_joins : (d : Device) → names a.register.record d ≡ true → names found.effective.boot d ≡ true
  pub unlost : (d : Device) → names a.register.record d ≡ true → (new.disk d).write_faults ≡ (old.disk d).write_faults
  pub enough : HasEnough a.register
  pub later : found.effective.boot.generation < a.register.record.generation
  pub few : a.register.record.generation < found.effective.boot.generation + 4
  pub each : (missing : Conditions) (arrays : List plain.Array) → Enters old missing arrays → LeavesOnly old new (StandsStill old (Some found) missing arrays)
  pub recovered : (missing : Conditions) (arrays : List plain.Array) → Enters old missing arrays → IsBearable (geometry_of old) (failed_since old new missing)
      → IsRecovered old new found a log (failed_since old new missing) arrays

-- Why it wasn't. For arrays for which the devices stood: they still do at every moment, and where no more is missing than is borne it was for want of memory.
pub record IsShut (old new : Shelved) (e : OpenFault) : Type 0 where
  pub by : IsUnopenedBy (status_of e) old new
  pub found : Option (Found (geometry_of old) (read_now old).image)
  pub silent : IfSome found (λ f. OnlyFailedAreSilent (has_failed (read_now old) (read_now new)) f.view)
  pub each : (missing : Conditions) (arrays : List plain.Array) → Enters old missing arrays → LeavesOnly old new (StandsStill old found missing arrays)
  pub clean : (missing : Conditions) (arrays : List plain.Array) → Enters old missing arrays → IsBearable (geometry_of old) (failed_since old new missing) → AreClean new (failed_since old new missing)
  pub cause : (missing : Conditions) (arrays : List plain.Array) → Enters old missing arrays → IsBearable (geometry_of old) (failed_since old new missing) → status_of e ≡ status.Memory

-- the one or the other
abbrev pub IsOpenedBy : Shelved → Shelved → Result Array OpenFault → Type 0
IsOpenedBy old new (Ok a) = IsOpened old new a
IsOpenedBy old new (Err e) = IsShut old new e
