-- What it is to recover lost shards.
use Rattle.std.specs.Prelude.{◌==◌, nat_lt, if◌then◌else◌, ◌≡◌, ◌≢◌, ◌⊎◌, ℕ, ◌<◌, ◌≤◌, List, bit_xor, length}
use Rattle.std.specs.List.{Contains}
use Rattle.parity72.specs.Field.{power_of_two, times}
use Rattle.parity72.specs.Parity.{shard_of, byte_of, sum_below, p_of, q_of, IsCodeword}

-- the shards are those of `whole` at each number but the lost ones
abbrev pub AgreesOutside : List ℕ → List (List ℕ) → List (List ℕ) → Type 0
AgreesOutside lost shards whole = (i : ℕ) → i < 9 → ¬ Contains lost i → shard_of shards i ≡ shard_of whole i

-- A codeword that the old shards agree with outside the lost numbers, the new ones agree with. A shard that isn't lost is as it was, codeword or not.
pub record Restores (lost : List ℕ) (old new : List (List ℕ)) : Type 0 where
  pub same_count : length new ≡ length old
  pub agrees : (whole : List (List ℕ)) → IsCodeword whole → AgreesOutside lost old whole → (i : ℕ) → i < 9 → shard_of new i ≡ shard_of whole i
  pub kept : (i : ℕ) → i < 9 → ¬ Contains lost i → shard_of new i ≡ shard_of old i

-- the bytes at k, one of each shard
abbrev pub column_of : List (List ℕ) → ℕ → ℕ → ℕ
column_of shards k = λ i. byte_of shards i k

-- the sum of the data bytes of a column, each times its power of two
abbrev pub weighted : (ℕ → ℕ) → ℕ
weighted column = sum_below (λ i. times (power_of_two i) (column i)) 7

-- a column with x as its byte a
abbrev pub with_byte : ℕ → ℕ → (ℕ → ℕ) → ℕ → ℕ
with_byte a x column i = if i == a then x else column i

-- a column with nothing as its bytes a and b
abbrev pub without : ℕ → ℕ → (ℕ → ℕ) → ℕ → ℕ
without a b column = with_byte a 0 (with_byte b 0 column)

-- what bytes a and b add up to by P, or byte a where b is Q: the sum of P and the data bytes but these
abbrev pub both_of : ℕ → ℕ → (ℕ → ℕ) → ℕ
both_of a b column = sum_below (without a b column) 8

-- a column with that as byte a, and nothing as byte b
abbrev pub filled : ℕ → ℕ → (ℕ → ℕ) → ℕ → ℕ
filled a b column = with_byte a (both_of a b column) (without a b column)

-- a column with data byte a as P tells it
abbrev pub with_data : ℕ → (ℕ → ℕ) → ℕ → ℕ
with_data a column = with_byte a (both_of a 8 column) column

-- that, and with Q of it
abbrev pub with_data_and_q : ℕ → (ℕ → ℕ) → ℕ → ℕ
with_data_and_q a column = with_byte 8 (weighted (filled a 8 column)) (with_data a column)

-- what byte b is then: Q's syndrome times the factor
abbrev pub second_of : ℕ → ℕ → ℕ → (ℕ → ℕ) → ℕ
second_of a b by column = times by (bit_xor (weighted (filled a b column)) (column 8))

-- a column with that as byte b, and as byte a what the two add up to and that
abbrev pub with_pair : ℕ → ℕ → ℕ → (ℕ → ℕ) → ℕ → ℕ
with_pair a b by column = with_byte a (bit_xor (both_of a b column) (second_of a b by column)) (with_byte b (second_of a b by column) column)

-- what Q multiplies data byte a by, and 0 for P
abbrev pub weight_of : ℕ → ℕ
weight_of a = if nat_lt a 7 then power_of_two a else 0

-- each column from byte `from` up to `to` is what `fix` makes of it, and the others are what they were
pub record Fixes (fix : (ℕ → ℕ) → ℕ → ℕ) (old new : List (List ℕ)) (from to : ℕ) : Type 0 where
  pub sizes : (i : ℕ) → i < length old → from < to → length (shard_of old i) ≡ 4096
  pub fixed : (i k : ℕ) → from ≤ k → k < to → byte_of new i k ≡ fix (column_of old k) i
  pub outside : (i k : ℕ) → (k < from) ⊎ (to ≤ k) → byte_of new i k ≡ byte_of old i k
  pub same_count : length new ≡ length old
  pub same_sizes : (i : ℕ) → length (shard_of new i) ≡ length (shard_of old i)

-- up to byte `to`, shards 7 and 8 are P and Q, and the others are what they were
pub record Encodes (old new : List (List ℕ)) (to : ℕ) : Type 0 where
  pub was_read : (i : ℕ) → i < 9 → 0 < to → length (shard_of old i) ≡ 4096
  pub p : (k : ℕ) → k < to → byte_of new 7 k ≡ p_of old k
  pub q : (k : ℕ) → k < to → byte_of new 8 k ≡ q_of old k
  pub others : (i : ℕ) → i ≢ 7 → i ≢ 8 → shard_of new i ≡ shard_of old i
  pub same_count : length new ≡ length old
  pub same_sizes : (i : ℕ) → length (shard_of new i) ≡ length (shard_of old i)
