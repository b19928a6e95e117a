-- What stands in segments stays where others are written.
use Rattle.segment_writer.proofs.Prelude.{nat_tests, ◌≡◌, ◌≢◌, ℕ, ◌+◌, ◌<◌, ◌≤◌, Bool, List, length, ◌∙◌, ap, arith, Some, slice_get, Device, AnyFact, SegmentFact, Place, Patch, places_of_part, Shelved, WritesOnly, LosesOnly, place_of, drive_of, write_unit_at, bytes_of, unit_in, HoldsStripe, not_before, part_stays, HoldsPatch, OnPatch, places_in, HoldsData, OnData, Layout, units_of, HoldAllHeaders, LieApart, LieApartOf, OnPatches}
use Rattle.segment_writer.proofs.Apart.{slot_of, units_apart}
use Rattle.segment_writer.proofs.PatchLayout.{patch_kept}
use Rattle.segment_writer.proofs.DataLayout.{data_kept}

-- the bytes lie in no write unit of the segment
abbrev pub IsOff : (Device → ℕ → Type 0) → List Place → Type 0
IsOff On places = (shard m i : ℕ) → shard < 9 → m < 16 → write_unit_at (place_of places shard) m ≤ i → i < write_unit_at (place_of places shard) m + 4096 → On (drive_of places shard) i → ⊥

-- ---- what is off stays

module _ (On : Device → ℕ → Type 0) (a b : Shelved) (was now : List Bool) (loses : LosesOnly a b was now) (writes : WritesOnly On a b) where
  unit_off : (places : List Place) (m shard : ℕ) → IsOff On places → shard < 9 → m < 16 → unit_in (bytes_of b) places m shard ≡ unit_in (bytes_of a) places m shard
  unit_off places m shard off lt low =
      let d = drive_of places shard in
      part_stays (On d) (a.disk d) (b.disk d) (write_unit_at (place_of places shard) m) 4096 (writes.device d) (λ i from to. off shard m i lt low from to)

  stripe_off : (places : List Place) (stripe : ℕ) (shards : List (List ℕ)) → IsOff On places → stripe < 15 → HoldsStripe (bytes_of a) places was stripe shards → HoldsStripe (bytes_of b) places now stripe shards
  stripe_off places stripe shards off low holds = record {
    codeword = holds.codeword;
    units = λ shard lt none. unit_off places (stripe + 1) shard off lt (omega (arith, low)) ∙ holds.units shard lt (not_before a b was now (place_of places shard).slot loses none);
  }

  pub patch_off : (p : Patch) (facts : List AnyFact) → ((part : ℕ) → part < length p.segments → IsOff On (places_of_part p part)) → HoldsPatch (bytes_of a) p was facts → HoldsPatch (bytes_of b) p now facts
  patch_off p facts off holds = patch_kept (bytes_of a) (bytes_of b) p was now facts (λ part stripe shards within low stands. stripe_off (places_of_part p part) stripe shards (off part within) low stands) holds

  pub headers_off : (l : Layout) → ((number : ℕ) → number < l.count → IsOff On (units_of l number)) → HoldAllHeaders (bytes_of a) l was → HoldAllHeaders (bytes_of b) l now
  headers_off l off holds number within shard lt none =
      unit_off (units_of l number) 0 shard (off number within) lt (omega arith) ∙ holds number within shard lt (not_before a b was now (place_of (units_of l number) shard).slot loses none)

  pub data_off : (segments : List SegmentFact) (staged : List (List ℕ)) (order : List ℕ) → ((number : ℕ) → number < length segments → IsOff On (places_in segments number)) → HoldsData (bytes_of a) segments was staged order → HoldsData (bytes_of b) segments now staged order
  data_off segments staged order off holds =
      data_kept (bytes_of a) (bytes_of b) segments was now staged order (λ number stripe shards within low stands. stripe_off (places_in segments number) stripe shards (off number within) low stands) holds

-- ---- patches that lie apart are off

-- no unit of the patch is one of these
abbrev pub LiesOff : List Place → Patch → Type 0
LiesOff places q = (part j k : ℕ) → part < length q.segments → j < 9 → k < 9 → (place_of places j).slot ≡ (place_of (places_of_part q part) k).slot → (place_of places j).unit ≢ (place_of (places_of_part q part) k).unit

off_units : (places : List Place) (q : Patch) (n count : ℕ) → n + count ≤ 16 → LiesOff places q → IsOff (OnPatch q n count) places
off_units places q n count fits apart shard m i lt low from to (part, within, (k, k_lt, (same, range))) =
    units_apart (place_of places shard).unit (place_of (places_of_part q part) k).unit m n count i (apart part shard k within lt k_lt (ap slot_of same)) low fits from to range.0 range.1

-- of another patch
pub off_patch : (p q : Patch) (n count part : ℕ) → n + count ≤ 16 → LieApart p q → part < length p.segments → IsOff (OnPatch q n count) (places_of_part p part)
off_patch p q n count part fits apart within = off_units (places_of_part p part) q n count fits (λ other j k within_too j_lt k_lt. apart part other j k within within_too j_lt k_lt)

-- of data segments
pub off_data : (segments : List SegmentFact) (p : Patch) (part : ℕ) → LieApartOf segments p → part < length p.segments → IsOff (OnData segments 0 16) (places_of_part p part)
off_data segments p part apart within shard m i lt low from to (number, within_too, (k, k_lt, (same, range))) = grind (arith, nat_tests, units_apart, place_of, places_of_part, slot_of)

-- of all patches
pub off_patches : (segments : List SegmentFact) (ps : List Patch) (number : ℕ) → ((i : ℕ) (p : Patch) → slice_get ps i ≡ Some p → LieApartOf segments p) → number < length segments → IsOff (OnPatches ps 0 16) (places_in segments number)
off_patches segments ps number apart within shard m i lt low from to (index, p, at, on) =
    off_units (places_in segments number) p 0 16 (omega arith) (λ part j k within_too j_lt k_lt. apart index p at number part j k within within_too j_lt k_lt) shard m i lt low from to on
