-- What was said is stored.
use Rattle.std.specs.Prelude.{◌≡◌, ◌⊎◌, ◌+◌, ◌<◌, ◌≤◌, ℕ, List, [], length, slice_index, Result, Ok, Err}
use Rattle.world.specs.Prelude.{Device, Rises, Stop, Shelved, Disk, OneRange, LeavesBut, Streamed}
use Rattle.world.specs.declared.streams.Failed.{Failed}

-- the world tells all of its contents
pub record IsToldBy (shelf : Shelved) (source sink : Streamed) : Type 0 where
  pub shelf_is : shelf.honest
  pub source_is : source.honest
  pub sink_is : sink.honest

-- the byte stands there, and no stop takes it away
pub record StoredByte (disk : Disk) (at byte : ℕ) : Type 0 where
  pub stands : slice_index disk.bytes at ≡ byte
  pub clean : disk.dirty ≡ []

-- Other bytes are as they were. There was no more output by then, or one byte more and the device has the byte.
pub record StoredWhenSaid (old : Shelved) (device : Device) (at byte : ℕ) (stop : Stop) : Type 0 where
  pub rest : LeavesBut (OneRange device at 1) old stop
  pub stored : (stop.output ≡ old.output) ⊎ ((slice_index (stop.image device) at ≡ byte) × (length stop.output ≤ length old.output + 1))

-- each byte that was said by then stands in its place
abbrev pub EachIsStoredWhenSaid : Shelved → Device → ℕ → List ℕ → Stop → Type 0
EachIsStoredWhenSaid old device at bytes stop = (k : ℕ) → length old.output + k < length stop.output → slice_index (stop.image device) (at + k) ≡ slice_index bytes k

-- An answer leaves the counts of the source, of the device's failed writes and of the sink. A failure raises one of them.
abbrev pub CountsOne : {T : Type 0} → Result T Failed → (source write sink source' write' sink' : ℕ) → Type 0
CountsOne (Ok _) source write sink source' write' sink' = (source' ≡ source) × (write' ≡ write) × (sink' ≡ sink)
CountsOne (Err _) source write sink source' write' sink' = Rises source source' ⊎ Rises write write' ⊎ Rises sink sink'
