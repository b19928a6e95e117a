-- Data is put together piece by piece, each within one shard.
use Rattle.segment_io.proofs.Prelude.{nat_tests, ◌≡◌, ℕ, ◌+◌, ◌-◌, ◌/◌, ◌%◌, ◌<◌, ◌≤◌, List, length, slice_index, arith, get_or-take, length-take-le, get_or_append_left, get_or-append_right, bytes_at, shard_of, data_byte, IsDataFrom, at_part}
use borrow.Rule.Slice.PartMut.{put_mid}

-- a place a little behind another, in the same shard
pub same_shard : (y o : ℕ) → y % 4096 + o < 4096 → (y + o) / 4096 ≡ y / 4096
same_shard y o lt = omega (arith, lt)

pub further_in : (y o : ℕ) → y % 4096 + o < 4096 → (y + o) % 4096 ≡ y % 4096 + o
further_in y o lt = omega (arith, lt, same_shard y o lt)

-- what a piece of a shard holds
pub piece_holds : (units : ℕ → List ℕ) (at size : ℕ) (o : ℕ) → at % 4096 + size ≤ 4096 → o < size → slice_index (bytes_at (at % 4096) size (units (at / 4096))) o ≡ slice_index (units ((at + o) / 4096)) ((at + o) % 4096)
piece_holds units at size o fits lt = grind (arith, nat_tests, at_part, slice_index, same_shard, further_in)

pub put_below : (at k i : ℕ) (xs ys : List ℕ) → i < at → at ≤ length xs → slice_index (put_mid at k xs ys) i ≡ slice_index xs i
put_below at k i xs ys lt fits = grind (arith, nat_tests, get_or_append_left, length-take-le, slice_index, get_or-take)

pub put_in : (at k i : ℕ) (xs ys : List ℕ) → at ≤ i → i < at + length ys → at ≤ length xs → slice_index (put_mid at k xs ys) i ≡ slice_index ys (i - at)
put_in at k i xs ys le lt fits = grind (arith, nat_tests, length-take-le, get_or-append_right, slice_index, get_or_append_left)

-- what holds of each of the first bytes and of each of the piece behind them holds of each
pub put_each : (Holds : ℕ → ℕ → Type 0) (done size k : ℕ) (into part : List ℕ) → ((i : ℕ) → i < done → Holds i (slice_index into i)) → done + size ≤ length into → length part ≡ size
    → ((o : ℕ) → o < size → Holds (done + o) (slice_index part o)) → (i : ℕ) → i < done + size → Holds i (slice_index (put_mid done k into part) i)
put_each Holds done size k into part so_far fits long here i lt = grind (arith, nat_tests, put_below, put_in, slice_index)

-- a piece of a shard, byte by byte
pub piece_at : (units : ℕ → List ℕ) (offset done size : ℕ) (part : List ℕ) → (offset + done) % 4096 + size ≤ 4096 → part ≡ bytes_at ((offset + done) % 4096) size (units ((offset + done) / 4096))
    → (o : ℕ) → o < size → slice_index part o ≡ slice_index (units ((offset + (done + o)) / 4096)) ((offset + (done + o)) % 4096)
piece_at units offset done size part within is o lt = grind (arith, nat_tests, slice_index, piece_holds)

-- one more piece
pub one_piece : (whole : List (List ℕ)) (offset done size k : ℕ) (into part : List ℕ) → IsDataFrom whole offset done into → done + size ≤ length into → length part ≡ size → (offset + done) % 4096 + size ≤ 4096
    → part ≡ bytes_at ((offset + done) % 4096) size (shard_of whole ((offset + done) / 4096)) → IsDataFrom whole offset (done + size) (put_mid done k into part)
one_piece whole offset done size k into part so_far fits long within is =
    put_each (λ i x. x ≡ data_byte whole (offset + i)) done size k into part so_far fits long (piece_at (shard_of whole) offset done size part within is)
