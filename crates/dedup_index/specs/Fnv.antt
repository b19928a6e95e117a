-- FNV-1a of 64 bits.
use Rattle.std.specs.Prelude.{ℕ, List, [], ◌∷◌, ◌*◌, ◌%◌, ◌^◌, bit_xor}
use Rattle.dedup_index.specs.declared.fnv.TheConstants.{START, PRIME}

-- the state after one more byte
abbrev pub mixed : ℕ → ℕ → ℕ
mixed state byte = bit_xor state byte * PRIME % 2 ^ 64

-- the state after more bytes
abbrev pub hash_from : ℕ → List ℕ → ℕ
hash_from state [] = state
hash_from state (byte ∷ bytes) = hash_from (mixed state byte) bytes

-- The hash of bytes. It unfolds only on request, so that no goal holds its numbers.
unfoldable pub hash_of : List ℕ → ℕ
hash_of bytes = hash_from START bytes
