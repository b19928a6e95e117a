-- What is left for more commands, beside slots of the log.
use Rattle.std.specs.Prelude.{◌≡◌, ◌⊎◌, ◌<◌, ◌≤◌, ℕ, true, false}
use Rattle.session_spec.specs.Prelude.{is_removal, Refusal, Request, LOG_SLOTS, patch_segments, patches, HasGroups, Where}
use Rattle.pur_base.specs.declared.reply.Refusal.TheVariants as refusals
use Rattle.session_spec.specs.declared.limits.TheConstants.{ADDING_GROUPS, CHECKPOINT_GROUPS, LIMITED_SEGMENTS, SEGMENTS_END}
use Rattle.array_core.specs.declared.array.Array.{Array}
use Rattle.array_core.specs.Prelude.{is_spent}
use Rattle.array_checkpoint.specs.declared.room.Room.{Room}

-- that is what the array's record and its tables leave
pub record IsRoomOf (a : Array) (r : Room) : Type 0 where
  pub segments : r.patch_segments ≡ patch_segments a.register.record.patches
  pub groups : HasGroups a.register.record (patches a.memory.memory.tables) r.groups

-- the patches have fewer segments than the limit, numbers are left, and there are free units for as many segments as the floor
pub record MayTake (limit floor : ℕ) (a : Array) : Type 0 where
  pub unlimited : patch_segments a.register.record.patches < limit
  pub unspent : is_spent a ≡ false
  pub groups : ℕ
  pub left : HasGroups a.register.record (patches a.memory.memory.tables) groups
  pub enough : floor ≤ groups

-- which of that isn't so first
abbrev pub IsRoomFaultOf : ℕ → ℕ → Array → Refusal → Type 0
IsRoomFaultOf limit floor a refusals.Limit = limit ≤ patch_segments a.register.record.patches
IsRoomFaultOf limit floor a refusals.Spent = (patch_segments a.register.record.patches < limit) × (is_spent a ≡ true)
IsRoomFaultOf limit floor a refusals.Space = (patch_segments a.register.record.patches < limit) × (is_spent a ≡ false) × ((groups : ℕ) × HasGroups a.register.record (patches a.memory.memory.tables) groups × (groups < floor))
IsRoomFaultOf limit floor a _ = ⊥

-- what is asked of an array where a command is added
abbrev pub MayAdd : Array → Type 0
MayAdd a = MayTake LIMITED_SEGMENTS ADDING_GROUPS a

abbrev pub IsRoomFault : Array → Refusal → Type 0
IsRoomFault a e = IsRoomFaultOf LIMITED_SEGMENTS ADDING_GROUPS a e

-- and where a checkpoint is made that is asked for
abbrev pub MayFlush : Array → Type 0
MayFlush a = MayTake SEGMENTS_END CHECKPOINT_GROUPS a

abbrev pub IsFlushRoomFault : Array → Refusal → Type 0
IsFlushRoomFault a e = IsRoomFaultOf SEGMENTS_END CHECKPOINT_GROUPS a e

-- ---- a logged request

-- no slot of the log is free
abbrev pub IsFull : Array → Type 0
IsFull a = a.log.count ≡ LOG_SLOTS

-- What is asked of an array where a logged request is done that adds nothing: numbers, and what a checkpoint takes where no slot of the log is free.
pub record MayRemove (a : Array) : Type 0 where
  pub unspent : is_spent a ≡ false
  pub behind : IsFull a → MayFlush a

-- and which of that isn't so first
abbrev pub IsRemovalFault : Array → Refusal → Type 0
IsRemovalFault a e = (IsFull a × IsFlushRoomFault a e) ⊎ (¬ (IsFull a) × (e ≡ refusals.Spent) × (is_spent a ≡ true))

-- the same of any logged request
abbrev pub MayDo : Request → Array → Type 0
MayDo r a = Where (is_removal r) (MayRemove a) (MayAdd a)

abbrev pub IsDoFault : Request → Array → Refusal → Type 0
IsDoFault r a e = Where (is_removal r) (IsRemovalFault a e) (IsRoomFault a e)
