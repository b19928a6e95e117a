-- What stands in one segment stays where another is written.
use Rattle.segment_writer.proofs.Prelude.{nat_tests, ◌≡◌, ◌⊎◌, ℕ, ◌+◌, ◌*◌, ◌<◌, ◌≤◌, Bool, true, false, List, [], ◌∙◌, ap, arith, ◌↔◌, Image, Device, Drive, Nv, Place, LeavesBut, Shelved, Stop, WritesOnly, none_dirty, is_in, LosesOnly, place_of, drive_of, write_unit_at, OnUnits, bytes_of, unit_in, HoldsStripe, not_before, part_stays, same_at, HoldsSegment}

-- no unit stands in both
abbrev pub AreDisjoint : List Place → List Place → Type 0
AreDisjoint places others = (j k : ℕ) → j < 9 → k < 9 → (place_of places j).slot ≡ (place_of others k).slot → (place_of places j).unit ≡ (place_of others k).unit → ⊥

-- the slot of a drive
abbrev pub slot_of : Device → ℕ
slot_of (Drive d) = d.0
slot_of (Nv n) = 0

-- bytes of two units are apart
pub units_apart : (u v m n count i : ℕ) → (u ≡ v → ⊥) → m < 16 → n + count ≤ 16 → 65536 * u + 4096 * m ≤ i → i < 65536 * u + 4096 * m + 4096 → 65536 * v + 4096 * n ≤ i → i < 65536 * v + 4096 * n + 4096 * count → ⊥
units_apart u v m n count i ne low fits from to after below = ne (omega (arith, low, fits, from, to, after, below))

pub unit_kept : (a b : Shelved) (places others : List Place) (n count m shard : ℕ) → AreDisjoint places others → shard < 9 → m < 16 → n + count ≤ 16 → WritesOnly (OnUnits others n count) a b → unit_in (bytes_of b) places m shard ≡ unit_in (bytes_of a) places m shard
unit_kept a b places others n count m shard apart lt low fits writes =
    let d = drive_of places shard in
    part_stays (OnUnits others n count d) (a.disk d) (b.disk d) (write_unit_at (place_of places shard) m) 4096 (writes.device d) outside
  where
    outside : (i : ℕ) → write_unit_at (place_of places shard) m ≤ i → i < write_unit_at (place_of places shard) m + 4096 → OnUnits others n count (drive_of places shard) i → ⊥
    outside i from to (k, within, (same, range)) =
        let slots : (place_of places shard).slot ≡ (place_of others k).slot = ap slot_of same in
        units_apart (place_of places shard).unit (place_of others k).unit m n count i (apart shard k lt within slots) low fits from to range.0 range.1

pub stripe_kept : (a b : Shelved) (places others : List Place) (n count stripe : ℕ) (was now : List Bool) (shards : List (List ℕ)) → AreDisjoint places others → stripe < 15 → n + count ≤ 16 → LosesOnly a b was now → WritesOnly (OnUnits others n count) a b
    → HoldsStripe (bytes_of a) places was stripe shards → HoldsStripe (bytes_of b) places now stripe shards
stripe_kept a b places others n count stripe was now shards apart low fits loses writes holds = record {
  codeword = holds.codeword;
  units = λ shard lt none. unit_kept a b places others n count (stripe + 1) shard apart lt (omega (arith, low)) fits writes ∙ holds.units shard lt (not_before a b was now (place_of places shard).slot loses none);
}

-- what a segment holds stays where each of its stripes does
pub segment_kept : (image next : Image) (places : List Place) (was now : List Bool) (count : ℕ) (Holds : ℕ → List (List ℕ) → Type 0) → count ≤ 15
    → ((stripe : ℕ) (shards : List (List ℕ)) → stripe < 15 → HoldsStripe image places was stripe shards → HoldsStripe next places now stripe shards) → HoldsSegment image places was count Holds → HoldsSegment next places now count Holds
segment_kept image next places was now count Holds few kept holds stripe lt =
    let x = holds stripe lt in
    (x.0, kept stripe x.0 (omega (arith, lt, few)) x.1, x.2)

-- drives are lost from the same set, said in other words
pub loses_as : (a b : Shelved) (was other now : List Bool) → ((slot : ℕ) → (is_in was slot ≡ true) ↔ (is_in other slot ≡ true)) → LosesOnly a b was now → LosesOnly a b other now
loses_as a b was other now same loses = grind (arith, nat_tests)

-- the drives that a fresh segment takes as lost
pub same_lost : (fresh was lost : List Bool) → ((slot : ℕ) → is_in fresh slot ≡ false) → ((slot : ℕ) → (is_in was slot ≡ true) ↔ ((is_in fresh slot ≡ true) ⊎ (is_in lost slot ≡ true))) → (slot : ℕ) → (is_in was slot ≡ true) ↔ (is_in lost slot ≡ true)
same_lost fresh was lost none both slot = grind (arith, nat_tests)

-- the drives that an open segment takes as lost
pub joined_lost : (own was lost : List Bool) → ((slot : ℕ) → is_in own slot ≡ true → is_in lost slot ≡ true) → ((slot : ℕ) → (is_in was slot ≡ true) ↔ ((is_in own slot ≡ true) ⊎ (is_in lost slot ≡ true))) → (slot : ℕ) → (is_in was slot ≡ true) ↔ (is_in lost slot ≡ true)
joined_lost own was lost known both slot = grind (arith, nat_tests)

-- a stripe stands while other bytes are written, and nothing is dirty on its drives
pub stripe_there : {W : Device → ℕ → Type 0} (m : Shelved) (places : List Place) (lost : List Bool) (stripe : ℕ) (shards : List (List ℕ)) (stop : Stop) → LeavesBut W m stop
    → ((shard : ℕ) → shard < 9 → is_in lost (place_of places shard).slot ≡ false → (m.disk (drive_of places shard)).dirty ≡ [])
    → ((shard i : ℕ) → shard < 9 → write_unit_at (place_of places shard) (stripe + 1) ≤ i → i < write_unit_at (place_of places shard) (stripe + 1) + 4096 → W (drive_of places shard) i → ⊥)
    → HoldsStripe (bytes_of m) places lost stripe shards → HoldsStripe stop.image places lost stripe shards
stripe_there m places lost stripe shards stop leaves clean out stands = record {
  codeword = stands.codeword;
  units = λ shard lt none.
      let d = drive_of places shard in
      same_at (stop.image d) (m.disk d).bytes (write_unit_at (place_of places shard) (stripe + 1)) 4096 (leaves.bytes d).size (λ i from to. (leaves.bytes d).same i (none_dirty (m.disk d) (clean shard lt none) i) (out shard i lt from to)) ∙ stands.units shard lt none;
}

-- a stripe that stands but for some drives stands but for more
pub stripe_more : (image : Image) (places : List Place) (was now : List Bool) (stripe : ℕ) (shards : List (List ℕ)) → ((slot : ℕ) → is_in was slot ≡ true → is_in now slot ≡ true) → HoldsStripe image places was stripe shards → HoldsStripe image places now stripe shards
stripe_more image places was now stripe shards stays holds = grind (arith, nat_tests, place_of, is_in)

-- a stripe stands but for the same drives, said in other words
pub stripe_as : (image : Image) (places : List Place) (was lost : List Bool) (stripe : ℕ) (shards : List (List ℕ)) → ((slot : ℕ) → (is_in was slot ≡ true) ↔ (is_in lost slot ≡ true)) → HoldsStripe image places lost stripe shards → HoldsStripe image places was stripe shards
stripe_as image places was lost stripe shards same holds = grind (arith, nat_tests, place_of, is_in)
