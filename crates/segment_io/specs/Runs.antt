-- Runs of bytes in the data of a stripe, whose seven shards of data stand one behind another.
use Rattle.std.specs.Prelude.{◌≡◌, ℕ, ◌+◌, ◌/◌, ◌%◌, ◌<◌, false, Bool, List, slice_index}
use Rattle.world.specs.Prelude.{SEGMENT_SHARDS, Place, Shelved}
use Rattle.parity72.specs.Parity.{IsCodeword, shard_of}
use Rattle.segment_codec.specs.declared.position.TheConstants.{WRITE_UNIT_BYTES}
use Rattle.segment_io.specs.Stripes.{bytes_of, unit_in}
use Rattle.segment_io.specs.Reads.{HasAnswered}

-- a byte of a stripe's data
abbrev pub data_byte : List (List ℕ) → ℕ → ℕ
data_byte shards at = slice_index (shard_of shards (at / WRITE_UNIT_BYTES)) (at % WRITE_UNIT_BYTES)

-- the first bytes are those of the stripe's data from there on
abbrev pub IsDataFrom : List (List ℕ) → ℕ → ℕ → List ℕ → Type 0
IsDataFrom shards offset count bytes = (i : ℕ) → i < count → slice_index bytes i ≡ data_byte shards (offset + i)

-- a codeword that agrees with what stands on the drives of the shards of which it wasn't said that they are unknown
pub record StandsBut (shelf : Shelved) (places : List Place) (said : ℕ → Bool) (stripe : ℕ) (whole : List (List ℕ)) : Type 0 where
  pub codeword : IsCodeword whole
  pub agrees : (shard : ℕ) → shard < SEGMENT_SHARDS → said shard ≡ false → unit_in (bytes_of shelf) places (stripe + 1) shard ≡ shard_of whole shard

-- a byte of a stripe's data, as it stands on the drive of its shard
abbrev pub byte_on : Shelved → List Place → ℕ → ℕ → ℕ
byte_on shelf places stripe at = slice_index (unit_in (bytes_of shelf) places (stripe + 1) (at / WRITE_UNIT_BYTES)) (at % WRITE_UNIT_BYTES)

-- The first bytes are those of the stripe's data from there on, where it stands but for what was said. Those of a shard whose drive has answered are what stands on it, codeword or not.
pub record IsReadFrom (old new : Shelved) (places : List Place) (said : ℕ → Bool) (stripe offset count : ℕ) (bytes : List ℕ) : Type 0 where
  pub whole : (whole : List (List ℕ)) → StandsBut old places said stripe whole → IsDataFrom whole offset count bytes
  pub shown : (i : ℕ) → i < count → HasAnswered old new places said ((offset + i) / WRITE_UNIT_BYTES) → slice_index bytes i ≡ byte_on old places stripe (offset + i)
