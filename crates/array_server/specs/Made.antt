-- What the making of a new array answers and leaves.
use Rattle.std.specs.Prelude.{◌≡◌, ℕ, ◌<◌, List, ◌++◌, length, ⊤}
use Rattle.session_spec.specs.Prelude.{Device, Status, line_text, Shelved, Stop, AreClean, AreSame, GivesBody, IsBlank, IsInMaking, IsMade, NoneFailed, OneFailed}
use Rattle.pur_base.specs.declared.reply.Reply.TheVariants as reply
use Rattle.pur_base.specs.declared.reply.Status.TheVariants as status

-- the ways in which the making ends that was done
abbrev pub IsMadeEnd : Status → Type 0
IsMadeEnd status.Done = Unit {0}
IsMadeEnd status.Sink = Unit {0}
IsMadeEnd _ = ⊥

-- the ways in which it ends
abbrev pub IsInitStatus : Status → Type 0
IsInitStatus status.Done = Unit {0}
IsInitStatus status.Sink = Unit {0}
IsInitStatus status.Halted = Unit {0}
IsInitStatus status.NotBlank = Unit {0}
IsInitStatus status.Memory = Unit {0}
IsInitStatus _ = ⊥

-- it halts exactly where a call on a device failed
abbrev pub IsCountedEnd : Status → Shelved → Shelved → Type 0
IsCountedEnd status.Halted old new = OneFailed old new
IsCountedEnd _ old new = NoneFailed old new

-- the line `ok` where it was made, a part of it where the sink failed, and else nothing
abbrev pub IsMadeOutput : Status → List ℕ → List ℕ → Type 0
IsMadeOutput status.Done before after = after ≡ before ++ line_text reply.Done
IsMadeOutput status.Sink before after = (cut missing : List ℕ) × (0 < length missing) × (line_text reply.Done ≡ cut ++ missing) × (after ≡ before ++ cut)
IsMadeOutput _ before after = after ≡ before

-- no record was in force where it was made, and where one is the devices stay as they were
abbrev pub IsJudgedEnd : Status → Shelved → Shelved → Type 0
IsJudgedEnd status.NotBlank old new = GivesBody old × AreSame old new
IsJudgedEnd status.Memory old new = AreSame old new
IsJudgedEnd status.Halted old new = ⊤
IsJudgedEnd _ old new = IsBlank old

-- how it ends, and what that tells of calls: without memory none was made
pub record IsInitEnd (ended : Status) (old new : Shelved) : Type 0 where
  pub is_end : IsInitStatus ended
  pub counted : IsCountedEnd ended old new
  pub memory : ended ≡ status.Memory → (d : Device) → new.disk d ≡ old.disk d

-- What it does to honest devices: what stands there at its end and, where nothing was dirty, at each stop.
pub record InitsOn (ended : Status) (old new : Shelved) : Type 0 where
  pub judged : IsJudgedEnd ended old new
  pub made : AreClean old → IsMadeEnd ended → IsMade new
  pub each : AreClean old → (stop : Stop) → new.left_since old.moment stop → IsInMaking old stop
