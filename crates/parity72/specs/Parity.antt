-- The two parities of seven data shards. A shard is a list of bytes, and shard 7 is P and shard 8 is Q.
use Rattle.std.specs.Prelude.{◌≡◌, ℕ, zero, suc, ◌<◌, ◌≤◌, List, [], bit_xor, length, slice_index, slice_index_or}
use Rattle.parity72.specs.Field.{power_of_two, times}

-- shard i
abbrev pub shard_of : List (List ℕ) → ℕ → List ℕ
shard_of shards i = slice_index_or shards i []

-- byte k of shard i
abbrev pub byte_of : List (List ℕ) → ℕ → ℕ → ℕ
byte_of shards i k = slice_index (shard_of shards i) k

-- the sum of f i over each i below n
unfoldable pub sum_below : (ℕ → ℕ) → ℕ → ℕ
sum_below f zero = 0
sum_below f (suc n) = bit_xor (sum_below f n) (f n)

-- P at byte k: the sum of the bytes of the seven data shards
abbrev pub p_of : List (List ℕ) → ℕ → ℕ
p_of shards k = sum_below (λ i. byte_of shards i k) 7

-- Q at byte k: the sum of two to the i times the byte of shard i
abbrev pub q_of : List (List ℕ) → ℕ → ℕ
q_of shards k = sum_below (λ i. times (power_of_two i) (byte_of shards i k)) 7

-- nine shards of 4096 bytes, of which shard 7 is P of the first seven and shard 8 is Q of them
pub record IsCodeword (shards : List (List ℕ)) : Type 0 where
  pub count : length shards ≡ 9
  pub sizes : (i : ℕ) → i < 9 → length (shard_of shards i) ≡ 4096
  pub bytes : (i k : ℕ) → i < 9 → k < 4096 → byte_of shards i k < 256
  pub p : (k : ℕ) → k < 4096 → byte_of shards 7 k ≡ p_of shards k
  pub q : (k : ℕ) → k < 4096 → byte_of shards 8 k ≡ q_of shards k

-- what a read of the first n shards from byte `from` up to `to` tells: each shard has 4096 bytes, and those are below 256
pub record IsRead (n : ℕ) (shards : List (List ℕ)) (from to : ℕ) : Type 0 where
  pub sizes : (i : ℕ) → i < length shards → from < to → length (shard_of shards i) ≡ 4096
  pub bytes : (i k : ℕ) → i < n → from ≤ k → k < to → byte_of shards i k < 256
