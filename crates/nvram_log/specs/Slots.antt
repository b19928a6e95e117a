-- What an NVRAM device shows of a log.
use Rattle.std.specs.Prelude.{◌≡◌, ℕ, ◌<◌, ◌≤◌, false, List, length, Some, slice_get}
use Rattle.world.specs.Prelude.{is_open, Command}
use Rattle.log_codec.specs.declared.limits.TheConstants.{LOG_SLOTS}
use Rattle.log_codec.specs.Prelude.{ShowsIn}

-- the bytes show all of the first log, and nothing that isn't in the second
pub record IsBetween (bytes : List ℕ) (flushed : ℕ) (least most : List Command) : Type 0 where
  pub all : (i : ℕ) (c : Command) → slice_get least i ≡ Some c → ShowsIn bytes flushed i c
  pub no_other : (i : ℕ) (c : Command) → ShowsIn bytes flushed i c → slice_get most i ≡ Some c

-- they show exactly this log, and the gates behind it are closed
pub record IsLog (bytes : List ℕ) (flushed : ℕ) (commands : List Command) : Type 0 where
  pub room : length commands ≤ LOG_SLOTS
  pub between : IsBetween bytes flushed commands commands
  pub shut : (i : ℕ) → length commands ≤ i → i < LOG_SLOTS → is_open i bytes ≡ false
