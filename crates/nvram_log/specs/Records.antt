-- The command of a record, and its place on a device.
use Rattle.std.specs.Prelude.{◌≡◌, ℕ, ◌+◌, ◌*◌, length}
use Rattle.world.specs.Prelude.{Command, data_count}
use Rattle.log_codec.specs.declared.limits.TheConstants.{SLOTS_START, SLOT_BYTES}
use Rattle.log_codec.specs.Prelude.{IsCommand}
use Rattle.nvram_log.specs.declared.record.Record.{Record}

-- the command that a record brings
abbrev pub command_of : Record → Command
command_of r = record { request = r.request.now; sectors = r.sectors.now }

-- a logged command in its bounds, with as many sectors as it names
pub record IsRecord (r : Record) : Type 0 where
  pub command : IsCommand r.request.now
  pub count : length r.sectors.now ≡ data_count r.request.now

-- where a slot begins on a device
abbrev pub slot_place : ℕ → ℕ
slot_place i = SLOTS_START + SLOT_BYTES * i
