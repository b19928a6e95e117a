-- What was read is shown by the drives that answered, whether the stripe stands or not.
use Rattle.segment_io.proofs.Prelude.{nat_tests, ◌≡◌, ℕ, ◌+◌, ◌/◌, ◌%◌, ◌<◌, ◌≤◌, Bool, false, List, length, slice_index, ◌∙◌, ap, arith, bytes_at, Device, Place, Shelved, IsSame, Continues, not_risen, not_risen_before, not_risen_since, place_of, drive_of, write_unit_at, bytes_of, unit_in, is_unknown, HasAnswered, AreShown, Tried, IsOn, byte_on, IsDataFrom, IsReadFrom}
use borrow.Rule.Slice.PartMut.{put_mid}
use Rattle.segment_io.proofs.Pieces.{one_piece, put_each, piece_at}
use Rattle.segment_io.proofs.Tries.{on_after}

-- what has answered in two runs has in each
module _ (a b c : Shelved) (places : List Place) (said : ℕ → Bool) (shard : ℕ) (bc : Continues b c) (answered : HasAnswered a c places said shard) where
  pub answered_first : HasAnswered a b places said shard
  answered_first = (answered.0, not_risen_before (a.disk (drive_of places shard)).faults (b.disk (drive_of places shard)).faults (c.disk (drive_of places shard)).faults (bc.faults (drive_of places shard)) answered.1)

  pub answered_then : (flags : List Bool) → shard < 9 → Continues a b → Tried a b places said flags → HasAnswered b c places (is_unknown flags) shard
  answered_then flags lt ab tried = grind (arith, nat_tests, not_risen_since, not_risen, answered_first)

-- what stands on a drive stands there later
pub unit_same : (a b : Shelved) (places : List Place) (n shard : ℕ) → ((d : Device) → IsSame (a.disk d) (b.disk d)) → unit_in (bytes_of b) places n shard ≡ unit_in (bytes_of a) places n shard
unit_same a b places n shard same = ap (bytes_at (write_unit_at (place_of places shard) n) 4096) (same (drive_of places shard)).bytes

-- one more piece, which was read from its drive
pub piece_read : (a b c : Shelved) (places : List Place) (said : ℕ → Bool) (stripe offset done size k : ℕ) (into part : List ℕ) → IsReadFrom a b places said stripe offset done into → Continues b c
    → done + size ≤ length into → length part ≡ size → (offset + done) % 4096 + size ≤ 4096 → (offset + done) / 4096 < 9 → said ((offset + done) / 4096) ≡ false
    → part ≡ bytes_at ((offset + done) % 4096) size (unit_in (bytes_of a) places (stripe + 1) ((offset + done) / 4096)) → IsReadFrom a c places said stripe offset (done + size) (put_mid done k into part)
piece_read a b c places said stripe offset done size k into part so_far bc fits long within lt known is = record {
  whole = λ whole stands. one_piece whole offset done size k into part (so_far.whole whole stands) fits long within (is ∙ ap (bytes_at ((offset + done) % 4096) size) (stands.agrees ((offset + done) / 4096) lt known));
  shown = put_each (λ i x. HasAnswered a c places said ((offset + i) / 4096) → x ≡ byte_on a places stripe (offset + i)) done size k into part
      (λ i less answered. so_far.shown i less (answered_first a b c places said ((offset + i) / 4096) bc answered)) fits long
      (λ o less answered. piece_at (unit_in (bytes_of a) places (stripe + 1)) offset done size part within is o less);
}

-- what was copied of the whole stripe
pub stripe_read : (a b c : Shelved) (places : List Place) (said : ℕ → Bool) (flags : List Bool) (stripe offset count : ℕ) (shards : List (List ℕ)) (into : List ℕ) → ((d : Device) → IsSame (a.disk d) (b.disk d)) → Continues a b → Continues b c
    → Tried a b places said flags → offset + count ≤ 28672 → ((whole : List (List ℕ)) → IsOn b c places flags stripe whole → shards ≡ whole) → AreShown b c places (is_unknown flags) stripe shards → IsDataFrom shards offset count into
    → IsReadFrom a c places said stripe offset count into
stripe_read a b c places said flags stripe offset count shards into same ab bc tried fits read shown copied = grind (arith, nat_tests, on_after, slice_index, answered_then, unit_same)
