-- What a view of the devices shows of a segment.
use Rattle.std.specs.Prelude.{◌≡◌, ◌⊎◌, ℕ, ◌<◌, ◌≤◌, false, Bool, List, Some, None, is_none, count_by}
use Rattle.world.specs.Prelude.{Image, View, drive, SEGMENT_SHARDS, Place}
use Rattle.segment_io.specs.Lost.{is_in}
use Rattle.segment_io.specs.Places.{place_of, drive_of}

-- of the nine drives the view shows none that is lost, the others as they stand, and at most two are missing in it
pub record ShowsMost (image : Image) (places : List Place) (lost : List Bool) (view : View) : Type 0 where
  pub each : (shard : ℕ) → shard < SEGMENT_SHARDS → (view (drive_of places shard) ≡ None)
      ⊎ ((view (drive_of places shard) ≡ Some (image (drive_of places shard))) × (is_in lost (place_of places shard).slot ≡ false))
  pub missing : count_by (λ place. is_none (view (drive place.slot))) places ≤ 2
