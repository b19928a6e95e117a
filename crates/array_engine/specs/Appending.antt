-- What becomes of an array where a logged request is done, at once or behind a checkpoint, and why it isn't done, or a checkpoint that was asked for isn't made.
use Rattle.std.specs.Prelude.{◌≡◌, ◌⊎◌, Bool, [], ◌∷◌}
use Rattle.pur_base.specs.declared.reply.Refusal.TheVariants as refusals
use Rattle.session_spec.specs.Prelude.{Device, Refusal, Command, geometry_of, has_risen, Shelved, Contents, ReadsAs, DropsOnlyLost}
use Rattle.pur_base.specs.Plain as plain
use Rattle.array_core.specs.declared.array.Array.{Array}
use Rattle.array_core.specs.Prelude.{NamesHolders, IsArrayOf, by_faults, Halts, HasLogged}
use Rattle.array_checkpoint.specs.Prelude.{HasFlushed, IsDoFault, IsFlushRoomFault, IsFull, MayDo, MayFlush}

-- on which device a call failed in between, and on which a write or a sync did
abbrev pub failed_in : Shelved → Shelved → Device → Bool
failed_in old new = λ d. has_risen (old.disk d).faults (new.disk d).faults

abbrev pub lost_in : Shelved → Shelved → Device → Bool
lost_in old new = λ d. has_risen (old.disk d).write_faults (new.disk d).write_faults

-- ---- it is done

-- the array to which a command is added: the same where a slot of the log is free, and else the one behind a checkpoint
abbrev pub IsCleared : Shelved → Array → Array → Type 0
IsCleared old a mid = (¬ (IsFull a) × (mid ≡ a)) ⊎ (IsFull a × IsArrayOf (geometry_of old) mid × HasFlushed a mid)

-- A logged request was done, with room for it, to an array that read as the one before.
pub record IsAppended (old new : Shelved) (a b : Array) (c : Command) : Type 0 where
  pub room : MayDo c.request a
  pub mid : Array
  pub cleared : IsCleared old a mid
  pub before : (contents : Contents) (x : plain.Array) → ReadsAs contents a.memory.memory x → (more : Contents) × ReadsAs more mid.memory.memory x
  -- where the record named just those that held the array, it names no other, and drops none but devices that lost a write
  pub drops_before : NamesHolders a → DropsOnlyLost (lost_in old new) a.register.record mid.register.record
  pub drops : NamesHolders a → DropsOnlyLost (lost_in old new) mid.register.record b.register.record
  pub logged : HasLogged old new mid b c.request

-- ---- it isn't

-- why a logged request wasn't done; but for a device fault, after which the array is to halt, all stays as it was
abbrev pub IsAppendFault : Shelved → Shelved → Array → Type 0 → Command → Refusal → Type 0
IsAppendFault old new a stays c refusals.Memory = MayDo c.request a × IsFull a × stays
IsAppendFault old new a stays c refusals.Device = MayDo c.request a × Halts by_faults old new a (c ∷ [])
IsAppendFault old new a stays c e = IsDoFault c.request a e × stays

-- why a checkpoint that was asked for wasn't made
abbrev pub IsFlushFault : Shelved → Shelved → Array → Type 0 → Refusal → Type 0
IsFlushFault old new a stays refusals.Memory = MayFlush a × stays
IsFlushFault old new a stays refusals.Device = MayFlush a × Halts by_faults old new a []
IsFlushFault old new a stays e = IsFlushRoomFault a e × stays
