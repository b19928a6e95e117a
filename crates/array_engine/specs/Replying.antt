-- What the end of a step, which is a logged request, a checkpoint, a merge or a flattening, or of a read answers.
use Rattle.std.specs.Prelude.{ℕ, Bool, true, false, Result, Ok, Err}
use Rattle.pur_base.specs.declared.reply.Refusal.TheVariants as refusals
use Rattle.session_spec.specs.Prelude.{Refusal}
use Rattle.target_io.specs.declared.fault.ReadFault.{ReadFault}
use Rattle.target_io.specs.declared.fault.ReadFault.TheVariants as read
use Rattle.medium_flattener.specs.declared.flattening.Flattened.{Flattened}
use Rattle.medium_flattener.specs.declared.flattening.Flattened.TheVariants as flattened
use Rattle.array_engine.specs.declared.said.Said.{Said}
use Rattle.array_engine.specs.declared.said.Said.TheVariants as said

-- what is answered to a step, by how it ended
abbrev pub said_of : Result Unit Refusal → Said
said_of (Ok u) = said.Done
said_of (Err why) = said.Refused why

-- and to a flattening
abbrev pub said_of_flattening : Result Flattened Refusal → Said
said_of_flattening (Ok flattened.Done) = said.Done
said_of_flattening (Ok flattened.Left) = said.Left
said_of_flattening (Ok flattened.Idle) = said.Idle
said_of_flattening (Err why) = said.Refused why

-- whether it ended for more failed devices than are borne
abbrev pub ends_lost : {T : Type 0} → Result T Refusal → Bool
ends_lost (Err refusals.Device) = true
ends_lost _ = false

-- what is answered to a read of so many sectors, by how it ended
abbrev pub said_of_read : ℕ → Result Unit ReadFault → Said
said_of_read count (Ok u) = said.Data count
said_of_read count (Err (read.Refused why)) = said.Refused why
said_of_read count (Err read.Lost) = said.Refused refusals.Device
