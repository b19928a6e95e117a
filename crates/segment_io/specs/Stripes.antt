-- Stripes in the units of a segment.
use Rattle.std.specs.Prelude.{◌≡◌, ℕ, ◌+◌, ◌*◌, ◌<◌, false, Bool, List, [], ◌∷◌, ◌++◌, length, slice_index_or}
use Rattle.world.specs.Prelude.{bytes_at, Image, SEGMENT_SHARDS, Place, Shelved}
use Rattle.parity72.specs.Parity.{IsCodeword, shard_of}
use Rattle.segment_codec.specs.declared.position.TheConstants.{WRITE_UNIT_BYTES, DATA_SHARDS}
use Rattle.segment_io.specs.Lost.{is_in}
use Rattle.segment_io.specs.Places.{place_of, drive_of, write_unit_at}

-- what reads give of each device
abbrev pub bytes_of : Shelved → Image
bytes_of shelf = λ device. (shelf.disk device).bytes

-- what stands in a write unit of a shard's unit
abbrev pub unit_in : Image → List Place → ℕ → ℕ → List ℕ
unit_in image places n shard = bytes_at (write_unit_at (place_of places shard) n) WRITE_UNIT_BYTES (image (drive_of places shard))

-- what stands in so many write units of a shard's unit, from the n-th on
abbrev pub part_in : Image → List Place → ℕ → ℕ → ℕ → List ℕ
part_in image places n count shard = bytes_at (write_unit_at (place_of places shard) n) (WRITE_UNIT_BYTES * count) (image (drive_of places shard))

-- in the n-th write units stand these, but for those on lost drives
abbrev pub UnitsHold : Image → List Place → List Bool → ℕ → (ℕ → List ℕ) → Type 0
UnitsHold image places lost n units = (shard : ℕ) → shard < SEGMENT_SHARDS → is_in lost (place_of places shard).slot ≡ false → unit_in image places n shard ≡ units shard

-- the shards of a codeword stand in a stripe, but for those on lost drives
pub record HoldsStripe (image : Image) (places : List Place) (lost : List Bool) (stripe : ℕ) (shards : List (List ℕ)) : Type 0 where
  pub codeword : IsCodeword shards
  pub units : UnitsHold image places lost (stripe + 1) (shard_of shards)

-- seven shards of data, with two behind them
abbrev pub IsStripeOf : List (List ℕ) → List (List ℕ) → Type 0
IsStripeOf data_shards shards = (p : List ℕ) × (q : List ℕ) × (shards ≡ data_shards ++ p ∷ q ∷ [])

-- ---- runs of stripes that follow each other

-- a stripe's data in a list of them
abbrev pub stripe_in : List (List (List ℕ)) → ℕ → List (List ℕ)
stripe_in stripes number = slice_index_or stripes number []

-- the shards of a stripe of a run: its data, its P and its Q
abbrev pub shards_in : List (List (List ℕ)) → List (List ℕ) → List (List ℕ) → ℕ → List (List ℕ)
shards_in stripes p q number = stripe_in stripes number ++ shard_of p number ∷ shard_of q number ∷ []

-- write units, one behind another
abbrev pub IsRunOf : (ℕ → List ℕ) → ℕ → List ℕ → Type 0
IsRunOf units count bytes = (number : ℕ) → number < count → bytes_at (WRITE_UNIT_BYTES * number) WRITE_UNIT_BYTES bytes ≡ units number

-- in a run of more than one stripe, a shard of data of each of them
abbrev pub IsGathered : List (List (List ℕ)) → ℕ → List (List ℕ) → Type 0
IsGathered stripes shard run = 1 < length stripes → shard < DATA_SHARDS → (number : ℕ) → number < length stripes → shard_of run number ≡ shard_of (stripe_in stripes number) shard

-- in the write units from the n-th on stand those of a run, but for those on lost drives
abbrev pub RunHolds : Image → List Place → List Bool → ℕ → ℕ → (ℕ → ℕ → List ℕ) → Type 0
RunHolds image places lost n count units = (number : ℕ) → number < count → UnitsHold image places lost (n + number) (units number)
