-- Reads of one part after another.
use Rattle.segment_io.proofs.Prelude.{arith, slice_set, ◌≡◌, ℕ, ◌+◌, ◌<◌, ◌≤◌, Bool, false, List, length, refl, ◌∙◌, ap, nat_tests, bytes_at, Device, Place, Shelved, IsShelf, IsSame, Continues, OthersStay, WritesOnly, continues_trans, writes_then, NoByte, ArePlaces, place_of, drive_of, write_unit_at, OthersStayOf, bytes_of, unit_in, is_unknown, OnlyLooks, PartRead, Tried, IsOn, StandsBut}
use Rattle.segment_io.proofs.Gathers.{looks_then}
use Rattle.segment_io.proofs.Tried.{tried_one, tried_then, part_of_part}

-- nothing is written, and the unknown shards are those of which it was said, and those on whose drives a call failed
pub record Tries (a b : Shelved) (places : List Place) (said : ℕ → Bool) (now : List Bool) : Type 0 where
  pub continues : Continues a b
  pub tried : Tried a b places said now
  pub looks : OnlyLooks a b
  pub writes : a.honest → WritesOnly NoByte a b
  pub others : OthersStayOf places a b

pub tries_one : (a b c : Shelved) (places : List Place) (said : ℕ → Bool) (mid : List Bool) (shard : ℕ) (is : Bool) {honest : Type 0} {bytes into : List ℕ} → ArePlaces a places → IsShelf c → shard < 9 → length mid ≡ 9 → Tries a b places said mid
    → Continues b c → PartRead honest (is_unknown mid shard) is bytes into (b.disk (drive_of places shard)) (c.disk (drive_of places shard))
    → OnlyLooks b c → (b.honest → WritesOnly NoByte b c) → OthersStay (drive_of places shard) b c → Tries a c places said (slice_set mid shard is)
tries_one a b c places said mid shard is {honest} {bytes} {into} are is_c within nine so_far continues part looks writes others = record {
  continues = continues_trans so_far.continues continues;
  tried = tried_one a b c places said mid shard is honest bytes into are is_c so_far.continues continues within nine so_far.tried part others;
  looks = looks_then so_far.continues so_far.looks looks;
  writes = λ h. writes_then so_far.continues (so_far.writes h) (writes (so_far.continues.honest h));
  others = λ d none. others d (λ e. none (shard, within, e)) ∙ so_far.others d none;
}

pub tries_then : (a b c : Shelved) (places : List Place) (said : ℕ → Bool) (mid now : List Bool) → IsShelf c → Tries a b places said mid → Tries b c places (is_unknown mid) now → Tries a c places said now
tries_then a b c places said mid now is_c one two = record {
  continues = continues_trans one.continues two.continues;
  tried = tried_then a b c places said mid now is_c one.continues two.continues one.tried two.tried;
  looks = looks_then one.continues one.looks two.looks;
  writes = λ h. writes_then one.continues (one.writes h) (two.writes (one.continues.honest h));
  others = λ d none. two.others d none ∙ one.others d none;
}

-- a part that was read is that of its unit, of which it wasn't said that it is unknown
module _ (a b c : Shelved) (places : List Place) (said : ℕ → Bool) (mid : List Bool) (shard stripe within size n : ℕ) (into : List ℕ) (long : n ≡ size) (lt : shard < 9) (fits : within + size ≤ 4096) (so_far : Tries a b places said mid)
    (part : PartRead b.honest (is_unknown mid shard) false (bytes_at (write_unit_at (place_of places shard) (stripe + 1) + within) n (b.disk (drive_of places shard)).bytes) into (b.disk (drive_of places shard)) (c.disk (drive_of places shard))) where
  pub part_is : a.honest → into ≡ bytes_at within size (unit_in (bytes_of a) places (stripe + 1) shard)
  part_is h =
      part.read (so_far.continues.honest h) refl
      ∙ ap (λ (k : ℕ). bytes_at (write_unit_at (place_of places shard) (stripe + 1) + within) k (b.disk (drive_of places shard)).bytes) long
      ∙ part_of_part (write_unit_at (place_of places shard) (stripe + 1)) 4096 within size (b.disk (drive_of places shard)).bytes fits
      ∙ ap (λ (l : List ℕ). bytes_at within size (bytes_at (write_unit_at (place_of places shard) (stripe + 1)) 4096 l)) (so_far.looks.same h (drive_of places shard)).bytes

  pub part_known : said shard ≡ false
  part_known = grind (arith, nat_tests)

-- a codeword that stands but for what was said is what the stripe is recovered to
pub on_after : (a b c : Shelved) (places : List Place) (said : ℕ → Bool) (flags : List Bool) (stripe : ℕ) (whole : List (List ℕ)) → ((d : Device) → IsSame (a.disk d) (b.disk d)) → Tried a b places said flags → StandsBut a places said stripe whole → IsOn b c places flags stripe whole
on_after a b c places said flags stripe whole same tried stands = grind (arith, nat_tests, bytes_at)

pub stands_after : (a b : Shelved) (places : List Place) (said : ℕ → Bool) (flags : List Bool) (stripe : ℕ) (whole : List (List ℕ)) → a.honest → Tries a b places said flags → StandsBut a places said stripe whole → StandsBut b places (is_unknown flags) stripe whole
stands_after a b places said flags stripe whole h tries stands = grind (arith, nat_tests, bytes_at)
