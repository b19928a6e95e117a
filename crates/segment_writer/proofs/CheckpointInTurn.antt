-- The headers of patches come after their stripes.
use Rattle.segment_writer.proofs.Prelude.{nat_tests, ◌≡◌, ◌⊎◌, inl, inr, ℕ, ◌+◌, ◌<◌, ◌≤◌, Bool, true, List, length, sym, subst, arith, Some, slice_get, cases_eq, SegmentFact, Patch, places_of_part, Shelved, Stop, Continues, LeavesOnly, WritesOnly, LeavesBut, then_run, weaker, AreSynced, is_in, place_of, drive_of, write_unit_at, bytes_of, OnPatch, layout_of_patch, places_in, HaveStripes, AreCleanOn, HoldsData, OnData, SectorsOf, DataComesInTurn, layout_of_data, stripes_of_order, Plan, facts_of_tag, MayStandFor, LieApartOf, HoldPatches, OnPatches, HoldDrivesOf, NoHeaders, ComeInTurn}
use Rattle.segment_writer.proofs.PatchLayout.{patch_kept, may_be_headed}
use Rattle.segment_writer.proofs.InTurn.{outside}
use Rattle.segment_writer.proofs.DataLayout.{data_kept}
use Rattle.segment_writer.proofs.InTurn.{more_lost as data_more_lost}
use Rattle.segment_writer.proofs.CheckpointApart.{off_patch, off_patches, off_data}
use Rattle.segment_writer.proofs.CheckpointAppended.{same_patch}
use Rattle.segment_writer.proofs.Apart.{stripe_more, stripe_there}

module _ (a : Shelved) (plan : Plan) (ps : List Patch) (may : MayStandFor a plan ps) where
  -- a byte of one write unit of the patches is no byte of others
  outside_all : (index part shard m n count i : ℕ) (p : Patch) → slice_get ps index ≡ Some p → part < length p.segments → shard < 9 → m < 16 → n + count ≤ 16 → ((m + 1 ≤ n) ⊎ (n + count ≤ m))
      → write_unit_at (place_of (places_of_part p part) shard) m ≤ i → i < write_unit_at (place_of (places_of_part p part) shard) m + 4096 → OnPatches ps n count (drive_of (places_of_part p part) shard) i → ⊥
  outside_all index part shard m n count i p at within lt low fits other from to (index2, q, at2, on) = elim (cases_eq index2 index) [
    | inr ne ↦ off_patch p q n count part fits (may.apart index index2 p q (λ (e : index ≡ index2). ne (sym e)) at at2) within shard m i lt low from to on
    | inl e ↦
        let here = subst (λ (r : Patch). OnPatch r n count (drive_of (places_of_part p part) shard) i) (sym (same_patch ps index index2 p q e at at2)) on in
        outside a (layout_of_patch p 0) (may_be_headed a p 0 (may.headed index p at)) part shard m n count i within lt low fits other from to here
  ]

  -- while stripes are written and synced no header is there
  no_header : (stop : Stop) → LeavesBut (OnPatches ps 1 15) a stop → NoHeaders a ps stop
  no_header stop leaves index part shard p at within lt i (from, to) clean =
      (leaves.bytes (drive_of (places_of_part p part) shard)).same i clean (outside_all index part shard 0 1 15 i p at within lt (omega arith) (omega arith) (inl (omega arith)) from (omega (arith, to)))

  -- while headers are written and synced the facts stand
  facts_there : (m : Shelved) (drives lost : List Bool) (stop : Stop) → HoldDrivesOf ps drives → AreSynced m drives lost → LeavesBut (OnPatches ps 0 1) m stop → HoldPatches (bytes_of m) plan ps lost → HoldPatches stop.image plan ps lost
  facts_there m drives lost stop has synced leaves holds index p at =
      patch_kept (bytes_of m) stop.image p lost lost (facts_of_tag plan p.tag) (λ part stripe shards within low. stripe_there m (places_of_part p part) lost stripe shards stop leaves
      (λ shard lt none. synced (place_of (places_of_part p part) shard).slot (has index part shard p at within lt) none)
      (λ shard i lt. outside_all index part shard (stripe + 1) 0 1 i p at within lt (omega (arith, low)) (omega arith) (inr (omega arith)))) (holds index p at)

  -- so headers come last
  pub in_turn : (m e : Shelved) (drives lost : List Bool) → HoldDrivesOf ps drives → AreSynced m drives lost → HoldPatches (bytes_of m) plan ps lost → Continues a m → WritesOnly (OnPatches ps 1 15) a m → WritesOnly (OnPatches ps 0 1) m e → LeavesOnly a e (ComeInTurn a plan ps lost)
  in_turn m e drives lost has synced holds continues first second =
      then_run continues (weaker (λ stop leaves. inl (no_header stop leaves)) first.any_moment)
      (weaker (λ stop leaves. inr (facts_there m drives lost stop has synced leaves holds)) second.any_moment)

-- the facts stand but for more lost drives
pub more_lost : (a : Shelved) (plan : Plan) (ps : List Patch) (was now : List Bool) (stop : Stop) → ((slot : ℕ) → is_in was slot ≡ true → is_in now slot ≡ true) → ComeInTurn a plan ps was stop → ComeInTurn a plan ps now stop
more_lost a plan ps was now stop stays (inl none) = inl none
more_lost a plan ps was now stop stays (inr holds) = inr (λ index p at. patch_kept stop.image stop.image p was now (facts_of_tag plan p.tag) (λ k stripe shards lt low stands. stripe_more stop.image (places_of_part p k) was now stripe shards stays stands) (holds index p at))

-- ---- behind the data

module _ (a b : Shelved) (segments : List SegmentFact) (ps : List Patch) (apart : (i : ℕ) (p : Patch) → slice_get ps i ≡ Some p → LieApartOf segments p) where
  -- while data is written no header of a patch is there
  pub none_in_data : (stop : Stop) → LeavesBut (OnData segments 0 16) a stop → NoHeaders a ps stop
  none_in_data stop leaves index part shard p at within lt i (from, to) clean =
      (leaves.bytes (drive_of (places_of_part p part) shard)).same i clean (off_data segments p part (apart index p at) within shard 0 i lt (omega arith) from (omega (arith, to)))

  -- and none that was not there before it
  none_since : WritesOnly (OnData segments 0 16) a b → (stop : Stop) → NoHeaders b ps stop → NoHeaders a ps stop
  none_since writes stop none index part shard p at within lt i (from, to) clean = grind (arith, nat_tests, drive_of, places_of_part, off_data)

  pub since_data : (plan : Plan) (lost : List Bool) → WritesOnly (OnData segments 0 16) a b → (stop : Stop) → ComeInTurn b plan ps lost stop → ComeInTurn a plan ps lost stop
  since_data plan lost writes stop (inl none) = inl (none_since writes stop none)
  since_data plan lost writes stop (inr holds) = inr holds

  -- the sectors stand while patches are written
  data_there : (was : List Bool) (staged : List (List ℕ)) (order : List ℕ) (stop : Stop) → AreCleanOn (length segments) (places_in segments) was b → LeavesBut (OnPatches ps 0 16) b stop → HoldsData (bytes_of b) segments was staged order → HoldsData stop.image segments was staged order
  data_there was staged order stop synced leaves holds =
      data_kept (bytes_of b) stop.image segments was was staged order (λ number stripe shards within low. stripe_there b (places_in segments number) was stripe shards stop leaves
      (λ shard lt none. synced number shard within lt none) (λ shard i lt. off_patches segments ps number apart within shard (stripe + 1) i lt (omega (arith, low)))) holds

  -- so the headers of the data come last too
  pub data_in_turn : (e : Shelved) (was now : List Bool) (staged : List (List ℕ)) (order : List ℕ) → HaveStripes (layout_of_data segments 0) (stripes_of_order order) → Continues a b → ((slot : ℕ) → is_in was slot ≡ true → is_in now slot ≡ true) → LeavesOnly a b (DataComesInTurn a segments was staged order)
      → AreCleanOn (length segments) (places_in segments) was b → HoldsData (bytes_of b) segments was staged order → WritesOnly (OnPatches ps 0 16) b e → LeavesOnly a e (DataComesInTurn a segments now staged order)
  data_in_turn e was now staged order some continues stays first synced holds second =
      then_run continues (weaker (λ stop turn. data_more_lost a (layout_of_data segments 0) was now (stripes_of_order order) (SectorsOf staged order) some stop stays turn) first)
      (weaker (λ stop leaves. data_more_lost a (layout_of_data segments 0) was now (stripes_of_order order) (SectorsOf staged order) some stop stays (inr (data_there was staged order stop synced leaves holds))) second.any_moment)
