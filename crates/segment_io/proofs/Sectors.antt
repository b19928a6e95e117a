-- A run of sectors is put together stripe by stripe.
use Rattle.segment_io.proofs.Prelude.{nat_tests, ◌≡◌, ◌⊎◌, inl, inr, ℕ, ◌+◌, ◌*◌, ◌/◌, ◌%◌, ◌<◌, ◌≤◌, Bool, false, List, length, get_or, slice_index, sym, ◌∙◌, ap, subst, arith, Option, Some, None, IfSome, option_map, slice_index_or, ext_get_or, get_or-map, bytes_at, View, Place, Shelved, IsShelf, Continues, has_risen, shard_of, StripeStands, SectorStands, shards_shown, write_unit, IsShownAt, IsPlace, ArePlaces, place_of, drive_of, write_unit_at, bytes_of, unit_in, is_unknown, is_missing_in, HasAnswered, ShowsNoOther, ShowsPresent, data_byte, byte_on, IsReadFrom, StandsBut, part_length, at_part}
use borrow.Rule.Slice.PartMut.{put_mid}
use Rattle.segment_codec.specs.Position as position
use Rattle.segment_io.proofs.Pieces.{put_each}
use Rattle.segment_io.proofs.Tried.{agrees_at}
use Rattle.segment_io.proofs.Tries.{Tries, stands_after}
use Rattle.segment_io.proofs.Shown.{answered_first, answered_then, unit_same}

-- the first bytes of the run are those of the stripes on which they stand
abbrev pub HoldsRun : Shelved → List Place → (ℕ → Bool) → ℕ → ℕ → List ℕ → Type 0
HoldsRun a places said start done into = (stripe : ℕ) (whole : List (List ℕ)) → StandsBut a places said stripe whole → (i : ℕ) → i < done → (start + i) / 28672 ≡ stripe → slice_index into i ≡ data_byte whole ((start + i) % 28672)

same_stripe : (y o : ℕ) → y % 28672 + o < 28672 → (y + o) / 28672 ≡ y / 28672
same_stripe y o lt = omega (arith, lt)

further_on : (y o : ℕ) → y % 28672 + o < 28672 → (y + o) % 28672 ≡ y % 28672 + o
further_on y o lt = omega (arith, lt, same_stripe y o lt)

-- those of a shard whose drive has answered are what stands on it
abbrev pub ShowsRun : Shelved → Shelved → List Place → (ℕ → Bool) → ℕ → ℕ → List ℕ → Type 0
ShowsRun a b places said start done into = (i : ℕ) → i < done → HasAnswered a b places said (((start + i) % 28672) / 4096) → slice_index into i ≡ byte_on a places ((start + i) / 28672) ((start + i) % 28672)

-- one more stripe
module _ (a b c : Shelved) (places : List Place) (said : ℕ → Bool) (flags : List Bool) (start done size n k : ℕ) (into part : List ℕ) (fits : done + size ≤ length into) (long : length part ≡ size) (cut : n ≡ size) (inside : (start + done) % 28672 + size ≤ 28672)
    (h : a.honest) (tries : Tries a b places said flags) (bc : Continues b c) (read : IsReadFrom b c places (is_unknown flags) ((start + done) / 28672) ((start + done) % 28672) n part) where
  on : (o : ℕ) → start + done + o ≡ start + (done + o)
  on o = omega arith

  stripe_at : (o : ℕ) → o < size → (start + (done + o)) / 28672 ≡ (start + done) / 28672
  stripe_at o lt = sym (ap (λ (x : ℕ). x / 28672) (on o)) ∙ same_stripe (start + done) o (omega (arith, inside, lt))

  data_at : (o : ℕ) → o < size → (start + (done + o)) % 28672 ≡ (start + done) % 28672 + o
  data_at o lt = sym (ap (λ (x : ℕ). x % 28672) (on o)) ∙ further_on (start + done) o (omega (arith, inside, lt))

  pub run_holds : HoldsRun a places said start done into → HoldsRun a places said start (done + size) (put_mid done k into part)
  run_holds so_far stripe whole stands =
      put_each (λ i x. (start + i) / 28672 ≡ stripe → x ≡ data_byte whole ((start + i) % 28672)) done size k into part (so_far stripe whole stands) fits long
      (λ o lt at.
      read.whole whole (stands_after a b places said flags ((start + done) / 28672) whole h tries (subst (λ (s : ℕ). StandsBut a places said s whole) (sym at ∙ stripe_at o lt) stands)) o (omega (arith, lt, cut))
      ∙ ap (data_byte whole) (sym (data_at o lt)))

  pub run_shows : ShowsRun a b places said start done into → ShowsRun a c places said start (done + size) (put_mid done k into part)
  run_shows so_far =
      put_each (λ i x. HasAnswered a c places said (((start + i) % 28672) / 4096) → x ≡ byte_on a places ((start + i) / 28672) ((start + i) % 28672)) done size k into part
      (λ i lt answered. so_far i lt (answered_first a b c places said (((start + i) % 28672) / 4096) bc answered)) fits long
      (λ o lt answered.
      let at = (start + done) % 28672 + o in
      let nine : at / 4096 < 9 = omega (arith, inside, lt) in
      let here : HasAnswered a c places said (at / 4096) = subst (λ (x : ℕ). HasAnswered a c places said (x / 4096)) (data_at o lt) answered in
      read.shown o (omega (arith, lt, cut)) (answered_then a b c places said (at / 4096) bc here flags nine tries.continues tries.tried)
      ∙ ap (λ (l : List ℕ). slice_index l (at % 4096)) (unit_same a b places ((start + done) / 28672 + 1) (at / 4096) (tries.looks.same h))
      ∙ sym (ap (λ (x : ℕ). byte_on a places x ((start + (done + o)) % 28672)) (stripe_at o lt) ∙ ap (byte_on a places ((start + done) / 28672)) (data_at o lt)))

-- what the view shows stands but for the missing drives
pub stands_shown : (a : Shelved) (places : List Place) (missing flags : List Bool) (view : View) (stripe : ℕ) (whole : List (List ℕ)) → ArePlaces a places → ((k : ℕ) → k < 9 → is_unknown flags k ≡ is_missing_in missing places k)
    → ShowsPresent a places missing view → StripeStands view places stripe whole → StandsBut a places (is_unknown flags) stripe whole
stands_shown a places missing flags view stripe whole are as_missing shows stands = record {
  codeword = stands.codeword;
  agrees = λ k lt known. agrees_at view (stripe + 1) whole places k (bytes_of a (drive_of places k)) stands.agrees (omega (arith, lt, are.nine)) (shows k lt (sym (as_missing k lt) ∙ known));
}

-- where a byte of a sector stands
module _ (index o : ℕ) (lt : o < 512) where
  pub in_stripe : (512 * index + o) / 28672 ≡ position.stripe_of index
  in_stripe = omega (arith, lt)

  pub in_data : (512 * index + o) % 28672 ≡ 512 * (index % 56) + o
  in_data = omega (arith, lt, in_stripe)

  pub in_shard : ((512 * index + o) % 28672) / 4096 ≡ position.shard_of index
  in_shard = grind (arith, nat_tests, in_data)

  pub in_eighth : ((512 * index + o) % 28672) % 4096 ≡ 512 * position.eighth_of index + o
  in_eighth = grind (arith, nat_tests, in_data)

-- a sector of the run is that of the units of its stripe
pub sector_in_units : (units : ℕ → List ℕ) (index j : ℕ) (into : List ℕ) → 512 * j + 512 ≤ length into → length (units (position.shard_of (index + j))) ≡ 4096
    → ((o : ℕ) → o < 512 → slice_index into (512 * j + o) ≡ slice_index (units (((512 * index + (512 * j + o)) % 28672) / 4096)) (((512 * index + (512 * j + o)) % 28672) % 4096))
    → bytes_at (512 * j) 512 into ≡ bytes_at (512 * position.eighth_of (index + j)) 512 (units (position.shard_of (index + j)))
sector_in_units units index j into fits size same = ext_get_or 0 (bytes_at (512 * j) 512 into) (bytes_at (512 * position.eighth_of (index + j)) 512 unit) lengths each
  where
    unit : List ℕ
    unit = units (position.shard_of (index + j))

    eighth_lt : position.eighth_of (index + j) < 8
    eighth_lt = omega arith

    left : length (bytes_at (512 * j) 512 into) ≡ 512
    left = omega (arith, part_length (512 * j) 512 into, fits)

    right : length (bytes_at (512 * position.eighth_of (index + j)) 512 unit) ≡ 512
    right = omega (arith, part_length (512 * position.eighth_of (index + j)) 512 unit, size, eighth_lt)

    lengths : length (bytes_at (512 * j) 512 into) ≡ length (bytes_at (512 * position.eighth_of (index + j)) 512 unit)
    lengths = left ∙ sym right

    here : (o : ℕ) → 512 * index + (512 * j + o) ≡ 512 * (index + j) + o
    here o = omega arith

    byte : (o : ℕ) → o < 512 → slice_index (units (((512 * index + (512 * j + o)) % 28672) / 4096)) (((512 * index + (512 * j + o)) % 28672) % 4096) ≡ slice_index unit (512 * position.eighth_of (index + j) + o)
    byte o lt =
        ap (λ (x : ℕ). slice_index (units ((x % 28672) / 4096)) ((x % 28672) % 4096)) (here o)
        ∙ ap (λ (s : ℕ). slice_index (units s) (((512 * (index + j) + o) % 28672) % 4096)) (in_shard (index + j) o lt)
        ∙ ap (λ (e : ℕ). slice_index unit e) (in_eighth (index + j) o lt)

    each : (o : ℕ) → o < length (bytes_at (512 * j) 512 into) → get_or (bytes_at (512 * j) 512 into) o 0 ≡ get_or (bytes_at (512 * position.eighth_of (index + j)) 512 unit) o 0
    each o below =
        let lt : o < 512 = omega (arith, below, left) in
        at_part (512 * j) 512 into o lt ∙ same o lt ∙ byte o lt ∙ sym (at_part (512 * position.eighth_of (index + j)) 512 unit o lt)

pub sector_of_run : (a : Shelved) (places : List Place) (missing flags : List Bool) (index j done : ℕ) (into : List ℕ) (view : View) (bytes : List ℕ) → ArePlaces a places → ((k : ℕ) → k < 9 → is_unknown flags k ≡ is_missing_in missing places k)
    → HoldsRun a places (is_unknown flags) (512 * index) done into → 512 * j + 512 ≤ done → done ≤ length into → ShowsPresent a places missing view → SectorStands view places (index + j) bytes → bytes_at (512 * j) 512 into ≡ bytes
sector_of_run a places missing flags index j done into view bytes are as_missing holds fits within shows (shards, stands, is) =
    sector_in_units (shard_of shards) index j into (omega (arith, fits, within)) (stands.codeword.sizes (position.shard_of (index + j)) (omega (arith, shard_lt)))
    (λ o lt. holds (position.stripe_of (index + j)) shards (stands_shown a places missing flags view (position.stripe_of (index + j)) shards are as_missing shows stands) (512 * j + o) (omega (arith, lt, fits)) (ap (λ (x : ℕ). x / 28672) (here o) ∙ in_stripe (index + j) o lt))
    ∙ sym is
  where
    shard_lt : position.shard_of (index + j) < 7
    shard_lt = omega arith

    here : (o : ℕ) → 512 * index + (512 * j + o) ≡ 512 * (index + j) + o
    here o = omega arith

-- a write unit of a place has its length
unit_size : (a : Shelved) (places : List Place) (n shard : ℕ) → IsShelf a → a.honest → IsPlace a (place_of places shard) → n < 16 → length (unit_in (bytes_of a) places n shard) ≡ 4096
unit_size a places n shard is h place lt =
    let size : length (a.disk (drive_of places shard)).bytes ≡ 65536 * a.units = is.sizes h (drive_of places shard) place.slot in
    omega (arith, part_length (write_unit_at (place_of places shard) n) 4096 (a.disk (drive_of places shard)).bytes, size, place.unit, lt)

-- a sector of the run is what its own drive shows of it
pub sector_shown : (a c : Shelved) (places : List Place) (missing flags : List Bool) (index j done : ℕ) (into : List ℕ) (view : View) → IsShelf a → a.honest → ArePlaces a places → ((k : ℕ) → k < 9 → is_unknown flags k ≡ is_missing_in missing places k)
    → ShowsRun a c places (is_unknown flags) (512 * index) done into → 512 * j + 512 ≤ done → done ≤ length into → index + j < 840 → ShowsNoOther a c places missing view → IsShownAt view places (index + j) (bytes_at (512 * j) 512 into)
sector_shown a c places missing flags index j done into view is h are as_missing shown fits within lt shows =
    subst (λ (o : Option (List ℕ)). IfSome o (λ shard. sector ≡ bytes_at (512 * position.eighth_of (index + j)) 512 shard)) (sym unit_shown) (by_drive (view (drive_of places shard)) (shows shard shard_lt))
  where
    stripe : ℕ
    stripe = position.stripe_of (index + j)

    shard : ℕ
    shard = position.shard_of (index + j)

    sector : List ℕ
    sector = bytes_at (512 * j) 512 into

    shard_lt : shard < 9
    shard_lt = omega arith

    stripe_lt : stripe + 1 < 16
    stripe_lt = omega (arith, lt)

    unit_shown : slice_index_or (shards_shown view places stripe) shard None ≡ write_unit (stripe + 1) (place_of places shard) view
    unit_shown = get_or-map (λ p. write_unit (stripe + 1) p view) places shard (record { slot = 0; unit = 0 }) None (omega (arith, shard_lt, are.nine))

    here : (o : ℕ) → 512 * index + (512 * j + o) ≡ 512 * (index + j) + o
    here o = omega arith

    byte_at : HasAnswered a c places (is_unknown flags) shard → (o : ℕ) → o < 512
        → slice_index into (512 * j + o) ≡ slice_index (unit_in (bytes_of a) places (stripe + 1) (((512 * index + (512 * j + o)) % 28672) / 4096)) (((512 * index + (512 * j + o)) % 28672) % 4096)
    byte_at answered o less =
        let at : ((512 * index + (512 * j + o)) % 28672) / 4096 ≡ shard = ap (λ (x : ℕ). (x % 28672) / 4096) (here o) ∙ in_shard (index + j) o less in
        shown (512 * j + o) (omega (arith, less, fits)) (subst (HasAnswered a c places (is_unknown flags)) (sym at) answered)
        ∙ ap (λ (s : ℕ). byte_on a places s ((512 * index + (512 * j + o)) % 28672)) (ap (λ (x : ℕ). x / 28672) (here o) ∙ in_stripe (index + j) o less)

    by_drive : (o : Option (List ℕ)) → (o ≡ None) ⊎ ((o ≡ Some (bytes_of a (drive_of places shard))) × (is_missing_in missing places shard ≡ false) × (has_risen (a.disk (drive_of places shard)).faults (c.disk (drive_of places shard)).faults ≡ false))
        → IfSome (option_map (bytes_at (write_unit_at (place_of places shard) (stripe + 1)) 4096) o) (λ unit. sector ≡ bytes_at (512 * position.eighth_of (index + j)) 512 unit)
    by_drive o (inl none) = subst (λ (x : Option (List ℕ)). IfSome (option_map (bytes_at (write_unit_at (place_of places shard) (stripe + 1)) 4096) x) (λ unit. sector ≡ bytes_at (512 * position.eighth_of (index + j)) 512 unit)) (sym none) tt
    by_drive o (inr some) = subst (λ (x : Option (List ℕ)). IfSome (option_map (bytes_at (write_unit_at (place_of places shard) (stripe + 1)) 4096) x) (λ unit. sector ≡ bytes_at (512 * position.eighth_of (index + j)) 512 unit)) (sym some.0)
        (sector_in_units (unit_in (bytes_of a) places (stripe + 1)) index j into (omega (arith, fits, within)) (unit_size a places (stripe + 1) shard is h (are.each shard shard_lt) stripe_lt) (byte_at (as_missing shard shard_lt ∙ some.1, some.2)))
