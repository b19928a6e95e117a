-- Which devices hold the array, and how they come to hold it no more.
use Rattle.std.specs.Prelude.{◌≡◌, ◌⊎◌, ◌+◌, ◌≤◌, Bool, true, false, List}
use Rattle.session_spec.specs.Prelude.{Device, Drive, Nv, Conditions, Sound, LeftOut, BootRecord, names, set_count, Rises, Shelved}
use Rattle.boot_region.specs.Prelude.{IsMember}
use Rattle.nvram_log.specs.Members as nv
use Rattle.register.specs.declared.state.Register.{Register}
use Rattle.register.specs.Prelude.{drives_of}
use Rattle.array_core.specs.declared.array.Array.{Array}

-- a device holds the array of this register and of a log on these devices: a drive on which the record is in force, or an NVRAM device with the log
abbrev pub IsHolderBy : Register → List Bool → Device → Type 0
IsHolderBy r members (Drive d) = IsMember (drives_of r) d.0
IsHolderBy r members (Nv n) = nv.IsMember members n.0

-- a holder is one still, or a write or a sync on it failed; on a device that is one behind it none did
pub record DropsFailedBy (old new : Shelved) (r : Register) (members : List Bool) (r2 : Register) (members2 : List Bool) : Type 0 where
  pub leaves : (d : Device) → IsHolderBy r members d → IsHolderBy r2 members2 d ⊎ Rises (old.disk d).write_faults (new.disk d).write_faults
  pub unlost : (d : Device) → IsHolderBy r2 members2 d → (new.disk d).write_faults ≡ (old.disk d).write_faults

-- the record is in force on all drives of the shelf but two at most
abbrev pub HasEnough : Register → Type 0
HasEnough r = r.record.slots ≤ set_count r.drives + 2

-- the record names the drives on which it is in force, and the devices of the log
abbrev pub NamesHoldersBy : Register → List Bool → Type 0
NamesHoldersBy r members = (r.record.members.drives ≡ r.drives) × (r.record.members.nvrams ≡ members)

-- None joins the holders, and the record names no device that it didn't name, and that was no holder. Where it named just the holders it does so still, and where enough drives held it they still do.
pub record NoneJoinsBy (r : Register) (members : List Bool) (r2 : Register) (members2 : List Bool) : Type 0 where
  pub holders : (d : Device) → IsHolderBy r2 members2 d → IsHolderBy r members d
  pub named : (d : Device) → names r2.record d ≡ true → (names r.record d ≡ true) ⊎ IsHolderBy r members d
  pub names_holders : NamesHoldersBy r members → NamesHoldersBy r2 members2
  pub enough : HasEnough r → HasEnough r2

-- so of arrays
abbrev pub IsHolder : Array → Device → Type 0
IsHolder a d = IsHolderBy a.register a.log.members d

abbrev pub DropsFailed : Shelved → Shelved → Array → Array → Type 0
DropsFailed old new was now = DropsFailedBy old new was.register was.log.members now.register now.log.members

abbrev pub NamesHolders : Array → Type 0
NamesHolders a = NamesHoldersBy a.register a.log.members

abbrev pub NoneJoins : Array → Array → Type 0
NoneJoins was now = NoneJoinsBy was.register was.log.members now.register now.log.members

-- the conditions agree with the record: it names each device that is sound, and none that was left out
pub record AgreesWith (boot : BootRecord) (now : Conditions) : Type 0 where
  pub sound : (d : Device) → now d ≡ Sound → names boot d ≡ true
  pub left_out : (d : Device) → now d ≡ LeftOut → names boot d ≡ false
