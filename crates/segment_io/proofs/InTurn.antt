-- Stripes are synced, headers written, and these synced.
use Rattle.segment_io.proofs.Prelude.{nat_tests, ◌≡◌, inl, inr, ⊎_elim, ℕ, ◌+◌, ◌*◌, ◌<◌, ◌≤◌, Bool, false, List, [], slice_index, ◌∙◌, ap, subst, arith, bytes_at, drive, Device, Place, Shelved, Stop, IsInSome, Continues, LeavesOnly, WritesOnly, LeavesBut, continues_trans, then_run, weaker, writes_more, is_in, LosesOnly, NoByte, IsOnSlot, ArePlaces, place_of, drive_of, write_unit_at, OnUnits, IsOnPlace, bytes_of, UnitsHold, HoldsStripe, AreDrivesOf, AreSynced, HeadersComeLast, not_before}
use Rattle.world.specs.declared.shelf.Span.{Span}
use Rattle.segment_io.proofs.Kept.{elsewhere}

-- nothing written is little of whatever is
pub nothing : (W : Device → ℕ → Type 0) {a b : Shelved} → WritesOnly NoByte a b → WritesOnly W a b
nothing W {a} {b} writes = writes_more (λ d i w. absurd w) writes

pub same_units : (a b : Shelved) (places : List Place) (was now : List Bool) (n : ℕ) (units : ℕ → List ℕ) → LosesOnly a b was now → ((d : Device) → (b.disk d).bytes ≡ (a.disk d).bytes) → UnitsHold (bytes_of a) places was n units → UnitsHold (bytes_of b) places now n units
same_units a b places was now n units loses same holds k lt none =
    ap (bytes_at (write_unit_at (place_of places k) n) 4096) (same (drive_of places k)) ∙ holds k lt (not_before a b was now (place_of places k).slot loses none)

pub same_stripe : (a b : Shelved) (places : List Place) (was now : List Bool) (stripe : ℕ) (shards : List (List ℕ)) → LosesOnly a b was now → ((d : Device) → (b.disk d).bytes ≡ (a.disk d).bytes) → HoldsStripe (bytes_of a) places was stripe shards → HoldsStripe (bytes_of b) places now stripe shards
same_stripe a b places was now stripe shards loses same holds = grind (arith, nat_tests, same_units)

-- a drive of the set is one of the nine
pub on_drives : (places : List Place) (drives : List Bool) → AreDrivesOf places drives → (d : Device) → IsOnSlot drives d → IsOnPlace places d
on_drives places drives of d on = let h = of.no_other on.0 on.1 in (h.0, h.1, on.2 ∙ ap drive h.2)

-- the drives of a segment are one set
pub synced_as : (e : Shelved) (places : List Place) (drives others lost : List Bool) → AreDrivesOf places drives → AreDrivesOf places others → AreSynced e drives lost → AreSynced e others lost
synced_as e places drives others lost of also synced slot is none = grind (arith, nat_tests)

module _ (a b c e : Shelved) (places : List Place) (stripes : ℕ) (drives second third fourth : List Bool)
    (are : ArePlaces a places) (of : AreDrivesOf places drives)
    (ab : Continues a b) (bc : Continues b c) (synced : AreSynced b drives second) (same_b : (d : Device) → (b.disk d).bytes ≡ (a.disk d).bytes)
    (first : WritesOnly NoByte a b) (headers : WritesOnly (OnUnits places 0 1) b c) (last : WritesOnly NoByte c e)
    (lost_c : LosesOnly b c second third) (lost_e : LosesOnly c e third fourth) where
  clean_b : (shard : ℕ) → shard < 9 → is_in fourth (place_of places shard).slot ≡ false → (b.disk (drive_of places shard)).dirty ≡ []
  clean_b shard lt none = grind (arith, nat_tests, not_before)

  in_stripes : (shard i : ℕ) → shard < 9 → write_unit_at (place_of places shard) 1 ≤ i → i < write_unit_at (place_of places shard) 1 + 4096 * stripes → OnUnits places 0 1 (drive_of places shard) i → ⊥
  in_stripes shard i within from to w = elsewhere a places 0 1 1 stripes shard are within (inr (omega arith)) i from to w

  not_dirty : (shard i : ℕ) → shard < 9 → is_in fourth (place_of places shard).slot ≡ false → IsInSome (b.disk (drive_of places shard)).dirty i → ⊥
  not_dirty shard i lt none is = subst (λ (l : List Span). IsInSome l i) (clean_b shard lt none) is

  syncing : (stop : Stop) → LeavesBut NoByte a stop → HeadersComeLast a places stripes fourth stop
  syncing stop left = inl (λ shard lt i is clean. (left.bytes (drive_of places shard)).same i clean (λ w. w))

  heading : (stop : Stop) → LeavesBut (OnUnits places 0 1) b stop → HeadersComeLast a places stripes fourth stop
  heading stop left = inr (λ shard lt none i is.
      let d = drive_of places shard in
      (left.bytes d).same i (not_dirty shard i lt none) (in_stripes shard i lt is.0 is.1) ∙ ap (λ (l : List ℕ). slice_index l i) (same_b d))

  ending : (stop : Stop) → LeavesBut NoByte c stop → HeadersComeLast a places stripes fourth stop
  ending stop left = inr (λ shard lt none i is.
      let d = drive_of places shard in
      (left.bytes d).same i (λ dirty. ⊎_elim (not_dirty shard i lt none) (in_stripes shard i lt is.0 is.1) ((headers.device d).dirty i dirty)) (λ w. w)
      ∙ (headers.device d).bytes i (in_stripes shard i lt is.0 is.1) ∙ ap (λ (l : List ℕ). slice_index l i) (same_b d))

  pub headers_come_last : LeavesOnly a e (HeadersComeLast a places stripes fourth)
  headers_come_last = then_run (continues_trans ab bc) (then_run ab (weaker syncing first.any_moment) (weaker heading headers.any_moment)) (weaker ending last.any_moment)
