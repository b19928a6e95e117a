-- The headers of segments come after their stripes.
use Rattle.segment_writer.proofs.Prelude.{nat_tests, ◌≡◌, ◌⊎◌, inl, inr, ℕ, ◌+◌, ◌<◌, ◌≤◌, Bool, true, List, arith, Place, Shelved, IsShelf, Stop, Continues, LeavesOnly, WritesOnly, LeavesBut, then_run, weaker, started, AreSynced, CleanStay, is_in, ArePlaces, place_of, drive_of, write_unit_at, bytes_of, Layout, units_of, HaveStripes, HoldAll, OnSome, ComesInTurn, AreDrivesOfAll}
use Rattle.segment_writer.specs.Layout.{MayBeHeaded}
use Rattle.segment_writer.proofs.Apart.{slot_of, stripe_more, stripe_there, units_apart}
use Rattle.segment_writer.proofs.Headers.{all_kept}

-- shards of a segment on one drive are one
one_shard : (shelf : Shelved) (places : List Place) (j k : ℕ) → ArePlaces shelf places → j < 9 → k < 9 → (place_of places j).slot ≡ (place_of places k).slot → j ≡ k
one_shard shelf places j k are j_lt k_lt same = grind (arith, nat_tests)

module _ (a : Shelved) (l : Layout) (headed : MayBeHeaded a l) where
  -- a byte of one write unit of them is no byte of others
  pub outside : (number shard m n count i : ℕ) → number < l.count → shard < 9 → m < 16 → n + count ≤ 16 → ((m + 1 ≤ n) ⊎ (n + count ≤ m))
      → write_unit_at (place_of (units_of l number) shard) m ≤ i → i < write_unit_at (place_of (units_of l number) shard) m + 4096 → OnSome l.count (units_of l) n count (drive_of (units_of l number) shard) i → ⊥
  outside number shard m n count i within lt low fits other from to (number2, within2, (shard2, lt2, (same, range))) = grind (arith, nat_tests, units_apart, place_of, slot_of, write_unit_at, one_shard)

  -- while stripes are written and synced no header is there
  pub no_header : (stop : Stop) → LeavesBut (OnSome l.count (units_of l) 1 15) a stop → (number shard : ℕ) → number < l.count → shard < 9 → CleanStay a (units_of l number) shard 0 1 stop
  no_header stop leaves number shard within lt i (from, to) clean =
      (leaves.bytes (drive_of (units_of l number) shard)).same i clean (outside number shard 0 1 15 i within lt (omega arith) (omega arith) (inl (omega arith)) from (omega (arith, to)))

  -- while headers are written and synced all stands
  pub all_there : (m : Shelved) (drives lost : List Bool) (stripes : ℕ → ℕ) (Holds : ℕ → ℕ → List (List ℕ) → Type 0) (some : HaveStripes l stripes) (stop : Stop) → AreDrivesOfAll l.count (units_of l) drives → AreSynced m drives lost → LeavesBut (OnSome l.count (units_of l) 0 1) m stop → HoldAll (bytes_of m) l lost stripes Holds → HoldAll stop.image l lost stripes Holds
  all_there m drives lost stripes Holds some stop has synced leaves holds =
      all_kept (bytes_of m) stop.image l lost lost stripes Holds some (λ number stripe shards within low. stripe_there m (units_of l number) lost stripe shards stop leaves
      (λ shard lt none. synced (place_of (units_of l number) shard).slot (has.each number shard within lt) none)
      (λ shard i lt. outside number shard (stripe + 1) 0 1 i within lt (omega (arith, low)) (omega arith) (inr (omega arith)))) holds

-- so headers come last
pub in_turn : (a m e : Shelved) (l : Layout) (drives lost : List Bool) (stripes : ℕ → ℕ) (Holds : ℕ → ℕ → List (List ℕ) → Type 0) (some : HaveStripes l stripes) → MayBeHeaded a l → AreDrivesOfAll l.count (units_of l) drives → AreSynced m drives lost → HoldAll (bytes_of m) l lost stripes Holds → Continues a m → WritesOnly (OnSome l.count (units_of l) 1 15) a m → WritesOnly (OnSome l.count (units_of l) 0 1) m e
    → LeavesOnly a e (ComesInTurn a l lost stripes Holds)
in_turn a m e l drives lost stripes Holds some headed has synced holds continues first second =
    then_run continues
    (weaker (λ stop leaves. inl (no_header a l headed stop leaves)) first.any_moment)
    (weaker (λ stop leaves. inr (all_there a l headed m drives lost stripes Holds some stop has synced leaves holds)) second.any_moment)

-- all stands but for more lost drives
pub more_lost : (a : Shelved) (l : Layout) (was now : List Bool) (stripes : ℕ → ℕ) (Holds : ℕ → ℕ → List (List ℕ) → Type 0) (some : HaveStripes l stripes) (stop : Stop) → ((slot : ℕ) → is_in was slot ≡ true → is_in now slot ≡ true) → ComesInTurn a l was stripes Holds stop → ComesInTurn a l now stripes Holds stop
more_lost a l was now stripes Holds some stop stays (inl none) = inl none
more_lost a l was now stripes Holds some stop stays (inr holds) = inr (all_kept stop.image stop.image l was now stripes Holds some (λ k stripe shards lt low stands. stripe_more stop.image (units_of l k) was now stripe shards stays stands) holds)

-- nothing was written
pub untouched : (a : Shelved) (l : Layout) (lost : List Bool) (stripes : ℕ → ℕ) (Holds : ℕ → ℕ → List (List ℕ) → Type 0) → IsShelf a → LeavesOnly a a (ComesInTurn a l lost stripes Holds)
untouched a l lost stripes Holds is = started a (ComesInTurn a l lost stripes Holds) is (λ stop may. inl (λ number shard within lt i range clean. (may.device (drive_of (units_of l number) shard)).clean i clean))
