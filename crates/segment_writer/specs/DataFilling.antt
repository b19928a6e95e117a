-- Sectors in the stripes of a segment, and zeros behind the last one.
use Rattle.std.specs.Prelude.{◌≡◌, ℕ, ◌+◌, ◌*◌, ◌/◌, ◌%◌, ◌<◌, List, [], slice_get, slice_index_or}
use Rattle.std.specs.Option.{MatchOption}
use Rattle.array_spec.specs.Prelude.{bytes_at, filled, SECTOR_BYTES, SHARD_SECTORS, STRIPE_SECTORS}
use Rattle.parity72.specs.Parity.{shard_of}

-- a sector of a shard
abbrev pub sector_of_shard : List ℕ → ℕ → List ℕ
sector_of_shard shard k = bytes_at (SECTOR_BYTES * k) SECTOR_BYTES shard

-- a sector of a stripe, whose shards are filled one behind another
abbrev pub sector_of_stripe : List (List ℕ) → ℕ → List ℕ
sector_of_stripe shards k = sector_of_shard (shard_of shards (k / SHARD_SECTORS)) (k % SHARD_SECTORS)

-- that is the staged sector that is placed there, and behind the last one it is zeros
abbrev pub IsSectorOf : List (List ℕ) → List ℕ → ℕ → List ℕ → Type 0
IsSectorOf staged order place sector = MatchOption (slice_get order place) (sector ≡ filled 0) (λ i. sector ≡ slice_index_or staged i [])

-- the stripe of that number holds its sectors
abbrev pub HoldsSectors : List (List ℕ) → List ℕ → ℕ → List (List ℕ) → Type 0
HoldsSectors staged order stripe shards = (k : ℕ) → k < STRIPE_SECTORS → IsSectorOf staged order (STRIPE_SECTORS * stripe + k) (sector_of_stripe shards k)
