-- One shard after another is read.
use Rattle.segment_io.proofs.Prelude.{nat_tests, ◌≡◌, ◌≢◌, ℕ, ◌+◌, ◌<◌, ◌≤◌, Bool, false, List, [], length, refl, sym, ◌∙◌, ap, arith, below_more, slice_set, get_or-set_same, get_or-set_other, bytes_at, Place, Shelved, Disk, IsShelf, IsSame, OthersStay, Continues, WritesOnly, continues_refl, continues_trans, writes_then, nothing_written, shard_of, NoByte, ArePlaces, place_of, drive_of, write_unit_at, OthersStayOf, bytes_of, unit_in, is_unknown, OnlyLooks, PartRead}
use Rattle.segment_io.proofs.Progress.{apart}

pub same_then : {a b c : Disk} → IsSame a b → IsSame b c → IsSame a c
same_then {a} {b} {c} ab bc = record { bytes = bc.bytes ∙ ab.bytes; dirty = bc.dirty ∙ ab.dirty }

pub looks_none : (a : Shelved) → OnlyLooks a a
looks_none a = record { same = λ h d. record { bytes = refl; dirty = refl }; write_faults = λ d. refl }

pub looks_then : {a b c : Shelved} → Continues a b → OnlyLooks a b → OnlyLooks b c → OnlyLooks a c
looks_then ab first next = record { same = λ h d. same_then (first.same h d) (next.same (ab.honest h) d); write_faults = λ d. next.write_faults d ∙ first.write_faults d }

pub record Gathers (a b : Shelved) (places : List Place) (stripe : ℕ) (was now : List Bool) (shards : List (List ℕ)) (upto : ℕ) : Type 0 where
  pub continues : Continues a b
  pub looks : OnlyLooks a b
  pub writes : a.honest → WritesOnly NoByte a b
  pub others : OthersStayOf places a b
  pub passed : (k : ℕ) → k < upto → PartRead a.honest (is_unknown was k) (is_unknown now k) (unit_in (bytes_of a) places (stripe + 1) k) (shard_of shards k) (a.disk (drive_of places k)) (b.disk (drive_of places k))
  pub flag_ahead : (k : ℕ) → upto ≤ k → is_unknown now k ≡ is_unknown was k
  pub disk_ahead : (k : ℕ) → upto ≤ k → k < 9 → b.disk (drive_of places k) ≡ a.disk (drive_of places k)

pub gathers_none : (a : Shelved) (places : List Place) (stripe : ℕ) (was : List Bool) (shards : List (List ℕ)) → IsShelf a → Gathers a a places stripe was was shards 0
gathers_none a places stripe was shards is = record {
  continues = continues_refl a;
  looks = looks_none a;
  writes = λ h. nothing_written a is;
  others = λ d none. refl;
  passed = λ k lt. absurd (omega (arith, lt));
  flag_ahead = λ k le. refl;
  disk_ahead = λ k le lt. refl;
}

-- the same read, told of the same things
along : {honest more : Type 0} {was was2 is is2 : Bool} {bytes bytes2 into into2 : List ℕ} {old old2 new new2 : Disk} → (more → honest) → was ≡ was2 → is ≡ is2 → bytes ≡ bytes2 → into ≡ into2 → old ≡ old2 → new ≡ new2
    → PartRead honest was is bytes into old new → PartRead more was2 is2 bytes2 into2 old2 new2
along {honest} {more} {was} {was2} {is} {is2} {bytes} {bytes2} {into} {into2} {old} {old2} {new} {new2} to w i b n o e part = grind (arith, nat_tests)

pub gathers_one : (a b c : Shelved) (places : List Place) (stripe : ℕ) (was mid : List Bool) (shards : List (List ℕ)) (shard : ℕ) (is : Bool) (bytes into : List ℕ) → ArePlaces a places → shard < 9 → length mid ≡ 9 → length shards ≡ 9
    → Gathers a b places stripe was mid shards shard
    → Continues b c → OnlyLooks b c → (b.honest → WritesOnly NoByte b c) → OthersStay (drive_of places shard) b c
    → PartRead b.honest (is_unknown mid shard) is bytes into (b.disk (drive_of places shard)) (c.disk (drive_of places shard)) → bytes ≡ unit_in (bytes_of b) places (stripe + 1) shard
    → Gathers a c places stripe was (slice_set mid shard is) (slice_set shards shard into) (shard + 1)
gathers_one a b c places stripe was mid shards shard is bytes into are within flags nine so_far continues looks writes others part standing = record {
  continues = continues_trans so_far.continues continues;
  looks = looks_then so_far.continues so_far.looks looks;
  writes = λ h. writes_then so_far.continues (so_far.writes h) (writes (so_far.continues.honest h));
  others = λ d none. others d (λ e. none (shard, within, e)) ∙ so_far.others d none;
  passed = below_more (λ k. PartRead a.honest (is_unknown was k) (is_unknown (slice_set mid shard is) k) (unit_in (bytes_of a) places (stripe + 1) k) (shard_of (slice_set shards shard into) k) (a.disk (drive_of places k)) (c.disk (drive_of places k))) shard earlier here;
  flag_ahead = λ k le. let ne : k ≢ shard = omega (arith, le) in get_or-set_other mid shard k is false ne ∙ so_far.flag_ahead k (omega (arith, le));
  disk_ahead = λ k le lt. others (drive_of places k) (apart a places k shard are (omega (arith, le)) lt within) ∙ so_far.disk_ahead k (omega (arith, le)) lt;
}
  where
    earlier : (k : ℕ) → k < shard → PartRead a.honest (is_unknown was k) (is_unknown (slice_set mid shard is) k) (unit_in (bytes_of a) places (stripe + 1) k) (shard_of (slice_set shards shard into) k) (a.disk (drive_of places k)) (c.disk (drive_of places k))
    earlier k lt =
        let ne : k ≢ shard = omega (arith, lt) in
        along (λ h. h) refl (sym (get_or-set_other mid shard k is false ne)) refl (sym (get_or-set_other shards shard k into [] ne)) refl
        (sym (others (drive_of places k) (apart a places k shard are ne (omega (arith, lt, within)) within))) (so_far.passed k lt)

    here : PartRead a.honest (is_unknown was shard) (is_unknown (slice_set mid shard is) shard) (unit_in (bytes_of a) places (stripe + 1) shard) (shard_of (slice_set shards shard into) shard) (a.disk (drive_of places shard)) (c.disk (drive_of places shard))
    here =
        let old : b.disk (drive_of places shard) ≡ a.disk (drive_of places shard) = so_far.disk_ahead shard (omega arith) within in
        along so_far.continues.honest (so_far.flag_ahead shard (omega arith)) (sym (get_or-set_same mid shard is false (omega (arith, within, flags))))
        (standing ∙ ap (λ (d : Disk). bytes_at (write_unit_at (place_of places shard) (stripe + 1)) 4096 d.bytes) old)
        (sym (get_or-set_same shards shard into [] (omega (arith, within, nine)))) old refl part

-- the whole of a write unit
pub whole_unit : (b : Shelved) (places : List Place) (n shard size : ℕ) → size ≡ 4096 → bytes_at (write_unit_at (place_of places shard) n + 0) size (b.disk (drive_of places shard)).bytes ≡ unit_in (bytes_of b) places n shard
whole_unit b places n shard size is =
    let at : write_unit_at (place_of places shard) n + 0 ≡ write_unit_at (place_of places shard) n = omega arith in
    ap (λ (k : ℕ). bytes_at k size (b.disk (drive_of places shard)).bytes) at ∙ ap (λ (k : ℕ). bytes_at (write_unit_at (place_of places shard) n) k (b.disk (drive_of places shard)).bytes) is
