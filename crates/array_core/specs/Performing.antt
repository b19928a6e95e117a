-- What performing a command does to the devices.
use Rattle.std.specs.Prelude.{◌≡◌, ◌⊎◌, ℕ, ◌+◌, ◌-◌, ◌^◌, ◌<◌, Bool, List, [], ◌∷◌}
use Rattle.session_spec.specs.Prelude.{Command, IsBearable, IsWithin, nvram, Conditions, Request, BootRecord, set_count, Stands, Rises, geometry_of, has_risen, Shelved, Stop, next_after, Contents, ReadsAs, IsStanding, MayRise}
use Rattle.pur_base.specs.Plain as plain
use Rattle.boot_region.specs.Prelude.{DroppedFailed}
use Rattle.nvram_log.specs.Prelude.{IsMember}
use Rattle.register.specs.declared.state.Register.{Register}
use Rattle.register.specs.Prelude.{drives_of, Content, array_of}
use Rattle.array_memory.specs.Prelude.{AreLeft, HasSamePatches}
use Rattle.array_core.specs.declared.array.Array.{Array}
use Rattle.array_core.specs.Ready.{logged}
use Rattle.array_core.specs.Holding.{AgreesWith}
use Rattle.array_core.specs.Losing.{lost_by}

-- the arrays without the command and with it
abbrev pub without_or_with : Content → Command → List plain.Array
without_or_with held c = array_of held ∷ array_of (logged held c) ∷ []

-- at a stop a session can go on with these arrays, in all conditions that agree with the record, as long as what has lost writes by then is borne
abbrev pub IsKeptAt : Shelved → BootRecord → List plain.Array → Stop → Type 0
IsKeptAt old boot arrays stop = (now : Conditions) → AgreesWith boot now → IsBearable (geometry_of old) (lost_by old stop now) → IsStanding (geometry_of old) stop.image (lost_by old stop now) arrays

-- At a stop, whatever has failed by then: once the devices answer again with what they hold, these stand for the arrays where no more of those that weren't missing are taken for it than is borne.
pub record StandsOnceBack (old : Shelved) (missing : Conditions) (arrays : List plain.Array) (stop : Stop) : Type 0 where
  pub later : Conditions
  pub within : IsWithin missing later
  pub stands : Stands (geometry_of old) stop.image later arrays

-- each device that held the log lost a write
abbrev pub LostLog : Shelved → Shelved → List Bool → Type 0
LostLog old new members = (n : ℕ) → n < 2 → IsMember members n → Rises (old.disk (nvram n)).write_faults (new.disk (nvram n)).write_faults

-- so many drives on which the record was in force lost a write, that more than two of the shelf aren't left
pub record LostDrives (old new : Shelved) (r : Register) : Type 0 where
  pub left : List Bool
  pub dropped : DroppedFailed old new (drives_of r) left
  pub too_few : set_count left + 2 < r.record.slots

-- more devices failed than are borne: all devices of the log lost a write, or so many drives that more than two of the shelf aren't left
abbrev pub IsLostBy : Shelved → Shelved → Register → List Bool → Type 0
IsLostBy old new r members = LostLog old new members ⊎ LostDrives old new r

abbrev pub IsLost : Shelved → Shelved → Array → Type 0
IsLost old new a = IsLostBy old new a.register a.log.members

-- One more command is logged, and the numbers given that it takes of the array. The patches are as they were. A record is stored only where a device lost a write, and so three more at most, since two drives of the shelf at most may be missing then.
pub record HasLogged (old new : Shelved) (a b : Array) (request : Request) : Type 0 where
  pub count : b.log.count ≡ a.log.count + 1
  pub next : (contents : Contents) (array : plain.Array) → ReadsAs contents a.memory.memory array → b.memory.memory.next ≡ next_after array a.memory.memory.next request
  pub patches : HasSamePatches a.memory.memory.tables b.memory.memory.tables
  pub background : b.background ≡ a.background
  pub boot : MayRise (λ d. has_risen (old.disk d).write_faults (new.disk d).write_faults) a.register.record b.register.record

-- numbers are left for one more command, and for the records that it may cost
pub record HasNumbers (a : Array) : Type 0 where
  pub generation : a.register.record.generation < 2 ^ 48 - 2 ^ 23
  pub next : AreLeft a.memory.memory.next
