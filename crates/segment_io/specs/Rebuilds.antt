-- A shard is rebuilt.
use Rattle.std.specs.Prelude.{◌≡◌, ◌≢◌, ℕ, ◌==◌, ◌||◌, ◌+◌, ◌*◌, ◌<◌, true, false, Bool, List}
use Rattle.world.specs.Prelude.{Device, Place, Rises, Shelved, IsSame, Continues, OneRange, WritesOnly, SEGMENT_SHARDS}
use Rattle.parity72.specs.Parity.{IsCodeword, shard_of}
use Rattle.segment_codec.specs.declared.position.TheConstants.{WRITE_UNIT_BYTES}
use Rattle.segment_io.specs.declared.rebuilding.RebuildFault.{RebuildFault}
use Rattle.segment_io.specs.declared.rebuilding.RebuildFault.TheVariants.{Lost, Target}
use Rattle.segment_io.specs.Places.{place_of, drive_of, write_unit_at, OthersStayOf}
use Rattle.segment_io.specs.Stripes.{bytes_of, unit_in}
use Rattle.segment_io.specs.Reads.{AreLost, Tried, is_unknown, is_missing_in}

-- whether a shard is that one, or its drive is missing
abbrev pub is_wanted : ℕ → List Bool → List Place → ℕ → Bool
is_wanted target missing places shard = (shard == target) || is_missing_in missing places shard

-- three of the nine drives are lost, or a write or a sync of the target failed
abbrev pub IsFaultOf : Shelved → Shelved → List Place → (ℕ → Bool) → ℕ → RebuildFault → Type 0
IsFaultOf old new places said target (Lost lost) = AreLost old new places said lost.drives
IsFaultOf old new places said target Target = Rises (old.disk (drive_of places target)).faults (new.disk (drive_of places target)).faults × Rises (old.disk (drive_of places target)).write_faults (new.disk (drive_of places target)).write_faults

-- each other device holds what it held
abbrev pub OthersAreSame : Device → Shelved → Shelved → Type 0
OthersAreSame device old new = (d : Device) → d ≢ device → IsSame (old.disk d) (new.disk d)

-- Only some write units of the target are written, the shards of which it was said are unknown, and those on whose drives a call failed.
pub record Rebuilds (old new : Shelved) (places : List Place) (target from count : ℕ) (said : ℕ → Bool) (unknown : List Bool) : Type 0 where
  pub continues : Continues old new
  pub tried : Tried old new places said unknown
  pub wanted : is_unknown unknown target ≡ true
  pub same : old.honest → OthersAreSame (drive_of places target) old new
  pub writes : old.honest → WritesOnly (OneRange (drive_of places target) (write_unit_at (place_of places target) from) (WRITE_UNIT_BYTES * count)) old new
  pub others : OthersStayOf places old new

-- in each of the first stripes the target's unit holds the shard of the codeword that agrees with what stands on the others but the unknown ones
abbrev pub AreRebuilt : Shelved → Shelved → List Place → ℕ → (ℕ → Bool) → ℕ → Type 0
AreRebuilt old new places target said stripes = (stripe : ℕ) (whole : List (List ℕ)) → stripe < stripes → IsCodeword whole
    → ((shard : ℕ) → shard < SEGMENT_SHARDS → said shard ≡ false → unit_in (bytes_of old) places (stripe + 1) shard ≡ shard_of whole shard)
    → unit_in (bytes_of new) places (stripe + 1) target ≡ shard_of whole target
