-- What memory has of a log that was read.
use Rattle.std.proofs.Common.{◌≡◌, ℕ, ◌<◌, List, inl, inr, arith}
use Rattle.std.specs.Prelude.{Some, slice_get}
use Rattle.std.proofs.lemmas.Option.{slice_get_cases}
use Rattle.world.specs.Prelude.{Command}
use Rattle.nvram_log.specs.Held.{HasRead}
use Rattle.nvram_log.specs.declared.log.NvLog.{NvLog}

-- the command of a slot of the log
pub command_at : (log : NvLog) (commands : List Command) (i : ℕ) → HasRead log commands → i < log.count → (c : Command) × (slice_get commands i ≡ Some c)
command_at log commands i has lt = elim (slice_get_cases commands i).1 [
  | inl some ↦ (some.0, some.2)
  | inr past ↦ absurd (omega (arith, past.0, lt, has.count))
]
