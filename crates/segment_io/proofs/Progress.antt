-- The same write units are written on one drive after another.
use Rattle.segment_io.proofs.Prelude.{nat_tests, ◌≡◌, ◌≢◌, ℕ, ◌+◌, ◌*◌, ◌<◌, Bool, false, List, refl, sym, ◌∙◌, ap, subst, arith, below_more, cases_order, bytes_at, Device, Place, drives_apart, Shelved, Disk, IsShelf, OthersStay, Continues, OneRange, WritesOnly, continues_refl, continues_trans, writes_then, writes_more, nothing_written, is_in, LosesOnly, ArePlaces, place_of, drive_of, write_unit_at, OnUnits, OthersStayOf, bytes_of, part_in, loses_none, loses_then, not_before}

-- the drives of two shards are apart
pub apart : (a : Shelved) (places : List Place) (first second : ℕ) → ArePlaces a places → first ≢ second → first < 9 → second < 9 → drive_of places first ≢ drive_of places second
apart a places first second are ne in_first in_second = grind (arith, nat_tests, drives_apart, cases_order)

-- what a call on one drive writes is in the nine units
pub in_units : (places : List Place) (n count shard : ℕ) → shard < 9 → (d : Device) (i : ℕ) → OneRange (drive_of places shard) (write_unit_at (place_of places shard) n) (4096 * count) d i → OnUnits places n count d i
in_units places n count shard within d i w = (shard, within, w)

-- what stands in the parts of the first shards is as said, but for those on lost drives
abbrev pub Hold : Shelved → List Place → List Bool → ℕ → ℕ → (ℕ → List ℕ → Type 0) → ℕ → Type 0
Hold b places now n count Stands upto = (shard : ℕ) → shard < upto → is_in now (place_of places shard).slot ≡ false → Stands shard (part_in (bytes_of b) places n count shard)

pub record Progress (a b : Shelved) (places : List Place) (n count : ℕ) (was now : List Bool) (Stands : ℕ → List ℕ → Type 0) (upto : ℕ) : Type 0 where
  pub continues : Continues a b
  pub lost : LosesOnly a b was now
  pub written : a.honest → Hold b places now n count Stands upto
  pub writes : a.honest → WritesOnly (OnUnits places n count) a b
  pub others : OthersStayOf places a b

pub started : (a : Shelved) (places : List Place) (n count : ℕ) (was : List Bool) (Stands : ℕ → List ℕ → Type 0) → IsShelf a → Progress a a places n count was was Stands 0
started a places n count was Stands is = record {
  continues = continues_refl a;
  lost = loses_none a was;
  written = λ h shard lt. absurd (omega (arith, lt));
  writes = λ h. nothing_written a is;
  others = λ d none. refl;
}

pub one_more : (a b c : Shelved) (places : List Place) (n count : ℕ) (was mid now : List Bool) (Stands : ℕ → List ℕ → Type 0) (shard size : ℕ) (from : List ℕ) → ArePlaces a places → shard < 9 → size ≡ 4096 * count → IsShelf c → Progress a b places n count was mid Stands shard
    → Continues b c → LosesOnly b c mid now → Stands shard from
    → (b.honest → is_in now (place_of places shard).slot ≡ false → bytes_at (write_unit_at (place_of places shard) n) size (bytes_of c (drive_of places shard)) ≡ from)
    → (b.honest → WritesOnly (OneRange (drive_of places shard) (write_unit_at (place_of places shard) n) size) b c)
    → OthersStay (drive_of places shard) b c
    → Progress a c places n count was now Stands (shard + 1)
one_more a b c places n count was mid now Stands shard size from are within long is_c so_far continues loses stands written writes others = record {
  continues = continues_trans so_far.continues continues;
  lost = loses_then a b c was mid now is_c so_far.continues continues so_far.lost loses;
  written = λ h. below_more (λ k. is_in now (place_of places k).slot ≡ false → Stands k (part_in (bytes_of c) places n count k)) shard (earlier h) (λ none. subst (Stands shard) (sym (here h none)) stands);
  writes = λ h. writes_then so_far.continues (so_far.writes h) (writes_more (in_units places n count shard within) (sized h));
  others = λ d none. others d (λ e. none (shard, within, e)) ∙ so_far.others d none;
}
  where
    sized : a.honest → WritesOnly (OneRange (drive_of places shard) (write_unit_at (place_of places shard) n) (4096 * count)) b c
    sized h = subst (λ (k : ℕ). WritesOnly (OneRange (drive_of places shard) (write_unit_at (place_of places shard) n) k) b c) long (writes (so_far.continues.honest h))

    here : a.honest → is_in now (place_of places shard).slot ≡ false → part_in (bytes_of c) places n count shard ≡ from
    here h none = ap (λ (k : ℕ). bytes_at (write_unit_at (place_of places shard) n) k (bytes_of c (drive_of places shard))) (sym long) ∙ written (so_far.continues.honest h) none

    same : (k : ℕ) → k < shard → part_in (bytes_of b) places n count k ≡ part_in (bytes_of c) places n count k
    same k lt = sym (ap (λ (d : Disk). bytes_at (write_unit_at (place_of places k) n) (4096 * count) d.bytes) (others (drive_of places k) (apart a places k shard are (omega (arith, lt)) (omega (arith, lt, within)) within)))

    earlier : a.honest → (k : ℕ) → k < shard → is_in now (place_of places k).slot ≡ false → Stands k (part_in (bytes_of c) places n count k)
    earlier h k lt none = subst (Stands k) (same k lt) (so_far.written h k lt (not_before b c mid now (place_of places k).slot loses none))
