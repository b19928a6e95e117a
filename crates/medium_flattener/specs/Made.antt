-- What a flattening makes of an array, and why it isn't made.
use Rattle.std.specs.Prelude.{◌≡◌, ◌⊎◌, ℕ, List, []}
use Rattle.pur_base.specs.declared.reply.Refusal.TheVariants as refusals
use Rattle.session_spec.specs.Prelude.{Reply, Refusal, Geometry, Shelved, Contents, ReadsAs}
use Rattle.pur_base.specs.declared.reply.Reply.TheVariants as reply
use Rattle.session_spec.specs.declared.limits.TheConstants.{FLATTEN_GROUPS, LIMITED_SEGMENTS}
use Rattle.pur_base.specs.Plain as plain
use Rattle.array_memory.specs.Prelude.{FlattensTo, FrontFits, FrontPasses, IsMediumOf, HasSamePatches}
use Rattle.array_core.specs.declared.array.Array.{Array}
use Rattle.array_core.specs.Prelude.{by_faults, Halts, IsArrayOf}
use Rattle.array_checkpoint.specs.Prelude.{HasFlushed, IsRoomFaultOf, MayTake}
use Rattle.medium_flattener.specs.declared.flattening.Flattened.{Flattened}
use Rattle.medium_flattener.specs.declared.flattening.Flattened.TheVariants as flattened

-- the reply that it gets
abbrev pub reply_of : Flattened → Reply
reply_of flattened.Done = reply.Done
reply_of flattened.Left = reply.Left
reply_of flattened.Idle = reply.Idle

-- ---- it is made

-- the array into which the front is taken: the same, where its facts don't make too many of those that came in without a command, and else the one behind a checkpoint
abbrev pub IsClearedFor : Geometry → ℕ → Array → Array → Type 0
IsClearedFor shelf medium was mid =
    (FrontFits medium was.memory.memory was.background.facts × (mid ≡ was))
    ⊎ (FrontPasses medium was.memory.memory was.background.facts × IsArrayOf shelf mid × HasFlushed was mid)

-- Memory has taken the front of the medium in, if that has one, and nothing else has changed since the checkpoint, if one came first.
pub record IsFlat (shelf : Geometry) (medium : ℕ) (said : Reply) (was now : Array) : Type 0 where
  pub cleared : Array
  pub first : IsClearedFor shelf medium was cleared
  pub before : (contents : Contents) (x : plain.Array) → ReadsAs contents was.memory.memory x → (more : Contents) × ReadsAs more cleared.memory.memory x
  pub flat : FlattensTo said medium cleared.memory.memory now.memory.memory cleared.background.facts now.background.facts
  pub patches : HasSamePatches cleared.memory.memory.tables now.memory.memory.tables
  pub rest : now ≡ record cleared { memory = now.memory; background = now.background }

-- so of the medium of the object of that name
abbrev pub IsFlatOf : Geometry → List ℕ → Reply → Array → Array → Type 0
IsFlatOf shelf name said was now = (medium : ℕ) × IsMediumOf was.memory.memory name medium × IsFlat shelf medium said was now

-- ---- it isn't

-- what is asked of an array
abbrev pub HasRoom : Array → Type 0
HasRoom a = MayTake LIMITED_SEGMENTS FLATTEN_GROUPS a

-- a checkpoint has to come first
abbrev pub MustClear : List ℕ → Array → Type 0
MustClear name a = (medium : ℕ) × IsMediumOf a.memory.memory name medium × FrontPasses medium a.memory.memory a.background.facts

-- Why it isn't made. But for a device fault, after which the array is to halt, all stays as it was. Memory is wanted, and devices fail, in the checkpoint alone.
abbrev pub IsFaultOf : List ℕ → Shelved → Shelved → Array → Type 0 → Refusal → Type 0
IsFaultOf name old new a stays refusals.Memory = HasRoom a × MustClear name a × stays
IsFaultOf name old new a stays refusals.Device = HasRoom a × MustClear name a × Halts by_faults old new a []
IsFaultOf name old new a stays e = IsRoomFaultOf LIMITED_SEGMENTS FLATTEN_GROUPS a e × stays
