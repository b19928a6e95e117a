-- What a device showed of each slot when it was read.
use Rattle.std.specs.Prelude.{◌≡◌, ℕ, ◌<◌, true, false, List, slice_index_or}
use Rattle.world.specs.Prelude.{is_open, Command}
use Rattle.log_codec.specs.declared.limits.TheConstants.{LOG_SLOTS}
use Rattle.log_codec.specs.Prelude.{ShowsIn}
use Rattle.nvram_log.specs.declared.seen.SeenSlots.{SeenSlots}

-- the flags tell of each slot of the device whether its gate is open, and whether it shows a command
pub record AreSeen (bytes : List ℕ) (flushed : ℕ) (seen : SeenSlots) : Type 0 where
  pub gates : (i : ℕ) → i < LOG_SLOTS → slice_index_or seen.open i false ≡ is_open i bytes
  pub some : (i : ℕ) → i < LOG_SLOTS → slice_index_or seen.shown i false ≡ true → (c : Command) × ShowsIn bytes flushed i c
  pub none : (i : ℕ) → i < LOG_SLOTS → slice_index_or seen.shown i false ≡ false → (c : Command) → ¬ (ShowsIn bytes flushed i c)
