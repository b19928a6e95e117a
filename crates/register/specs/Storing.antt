-- What a store leaves, which record it made, and how it goes on from there.
use Rattle.std.specs.Prelude.{◌≡◌, ◌⊎◌, ◌+◌, ◌-◌, ◌^◌, ◌<◌, ◌≤◌, ℕ, List, [], ◌∷◌, Bool, Result, OnOk, OnErr, IfErr, length}
use Rattle.array_spec.specs.Prelude.{Conditions, Array, BootRecord, drive, set_count, spelling, named_sound}
use Rattle.world.specs.Prelude.{geometry_of, Shelved}
use Rattle.boot_region.specs.Prelude.{IsMember, DroppedFailed, AreEnough, IsOlder, Shows}
use Rattle.register.specs.declared.next.StoreFault.{StoreFault}
use Rattle.register.specs.declared.state.Register.{Register}
use Rattle.register.specs.declared.tables.Tables.{Tables}
use Rattle.register.specs.Faults.{EndedMidway, IsFaultOf}
use Rattle.register.specs.Registers.{IsRegisterOf, IsLaterRecord, drives_of, next_record, next_slot, own_slot}
use Rattle.register.specs.Standing.{Content, IsFirm, IsOpen, MayStore, MayStoreAgain, MayStoreFirmly, StandsInLog, StaysLogged, array_of}
use Rattle.register.specs.Tables.{IsPlanOf, MayGoOn}

-- It is a register of the shelf still, on the drives that it was on, less some on which a write or a sync failed. On those that are left none did.
pub record DropsOnlyFailed (old new : Shelved) (was now : Register) : Type 0 where
  pub fewer : (i : ℕ) → IsMember now.drives i → IsMember was.drives i
  pub dropped : DroppedFailed old new (drives_of was) (drives_of now)
  pub unlost : (i : ℕ) → IsMember now.drives i → (new.disk (drive i)).write_faults ≡ (old.disk (drive i)).write_faults
  pub flags : length now.drives ≡ length was.drives
  pub is_of : IsRegisterOf (geometry_of new) now

-- The record is the one that was there, and enough drives are left that took it, or else too few.
pub record HasPut (result : Result (Unit {0}) StoreFault) (was now : Register) : Type 0 where
  pub kept : now.record ≡ was.record
  pub enough : OnOk result (AreEnough (drives_of now))
  pub too_few : OnErr result (set_count now.drives + 2 < now.record.slots)
  pub fault : IfErr result (λ e. IsFaultOf now e)

-- no record was made
abbrev pub IsUnstored : Register → Register → Type 0
IsUnstored was now = (now.record ≡ was.record) × (now.drives ≡ was.drives)

-- The record next to the base was stored once, and enough drives are left. After an error none was made, or it was and cost a drive.
pub record HasStoredOnce (result : Result (Unit {0}) StoreFault) (base : BootRecord) (nvrams : List Bool) (was now : Register) : Type 0 where
  pub next : OnOk result (now.record ≡ next_record base was.drives nvrams)
  pub enough : OnOk result (was.record.slots ≤ set_count was.drives + 2)
  pub left : OnOk result (AreEnough (drives_of now))
  pub kept : OnErr result (IsUnstored was now ⊎ ((now.record ≡ next_record base was.drives nvrams) × (was.record.slots ≤ set_count was.drives + 2) × (set_count now.drives < set_count was.drives)))
  pub fault : IfErr result (λ e. IsFaultOf now e)

-- A record later than the base was stored, which names the drives that are left and these NVRAM devices. After an error none was made, or such a one was tried last.
pub record HasStored (result : Result (Unit {0}) StoreFault) (base : BootRecord) (nvrams : List Bool) (was now : Register) : Type 0 where
  pub stored : OnOk result (IsLaterRecord base now.record)
  pub kept : OnErr result (IsUnstored was now ⊎ IsLaterRecord base now.record)
  pub generation : OnOk result ((was.record.generation < now.record.generation) × (now.record.generation < 2 ^ 48))
  -- at most three records are stored
  pub few : now.record.generation ≤ was.record.generation + 3
  pub rounds : (now.record.generation ≡ was.record.generation) ⊎ (now.record.generation + was.record.slots ≤ was.record.generation + set_count was.drives + 3)
  pub members : OnOk result ((now.record.members.drives ≡ now.drives) × (now.record.members.nvrams ≡ nvrams))
  pub enough : OnOk result (now.record.slots ≤ set_count now.drives + 2)
  -- each generation but the last costs a drive
  pub stores : OnOk result (now.record.generation + set_count now.drives ≤ was.record.generation + set_count was.drives + 1)
  pub lost : OnErr result (now.record.generation + set_count now.drives ≤ was.record.generation + set_count was.drives)
  pub fault : IfErr result (λ e. IsFaultOf now e)

-- The bytes of the record stand on the drives that are left. They do after an error too, unless it ended in the midst of a later record,
-- which more than two drives of the shelf would not hold.
pub record LeavesLogged (result : Result (Unit {0}) StoreFault) (old new : Shelved) (was now : Register) (nvrams : List Bool) : Type 0 where
  pub ok : OnOk result (StaysLogged old new was now nvrams)
  pub err : IfErr result (λ e. StaysLogged old new was now nvrams ⊎ EndedMidway was now e)

-- each of the drives shows the record, and nothing of it is dirty
abbrev pub AreShown : Shelved → Register → Type 0
AreShown shelf r = (i : ℕ) → IsMember (drives_of r) i → Shows shelf (own_slot r.record) (spelling r.record) i

-- what stands in the other slot of each of them loses against it
abbrev pub OthersOlder : Shelved → Register → Type 0
OthersOlder shelf r = (i : ℕ) → IsMember (drives_of r) i → IsOlder shelf (next_slot r.record) (spelling r.record) i

-- The drives that are left show the record, and where it might be stored it may be stored again, as long as it leaves room for later ones.
pub record MayStoreOn (old new : Shelved) (was now : Register) (nvrams : List Bool) : Type 0 where
  pub shown : AreShown new now
  pub older : (held : Content) → StandsInLog old was nvrams held → OthersOlder new now
  pub again : now.record.generation < 2 ^ 48 - 8 → (missing : Conditions) (held : Content) (arrays : List Array) → MayStore old was nvrams missing held arrays → MayStoreAgain old new was now nvrams missing held arrays
  pub firmly : now.record.generation < 2 ^ 48 - 8 → (missing : Conditions) (held : Content) (arrays : List Array) → MayStore old was nvrams missing held arrays → IsFirm old was missing
      → MayStoreFirmly old new now nvrams missing held arrays

-- So with these tables: then the record stands by them in the log, and may be stored again.
pub record MayStoreOnWith (old new : Shelved) (was now : Register) (tables : Tables) : Type 0 where
  pub shown : AreShown new now
  pub older : (held next : Content) → IsOpen old was was.record.members.nvrams held → IsPlanOf old was tables held next → OthersOlder new now
  pub logged : (held next : Content) → IsOpen old was was.record.members.nvrams held → IsPlanOf old was tables held next → StandsInLog new now was.record.members.nvrams next
  pub again : now.record.generation < 2 ^ 48 - 8 → (held next : Content) → IsOpen old was was.record.members.nvrams held → IsPlanOf old was tables held next → MayGoOn old new was now held next
  pub firmly : now.record.generation < 2 ^ 48 - 8 → (held next : Content) → IsOpen old was was.record.members.nvrams held → IsPlanOf old was tables held next
      → MayStoreFirmly old new now was.record.members.nvrams (named_sound was.record) next (array_of held ∷ [])
