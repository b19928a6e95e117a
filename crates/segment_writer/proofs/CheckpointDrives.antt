-- The drives of patches.
use Rattle.segment_writer.proofs.Prelude.{nat_tests, ◌≡◌, ◌⊎◌, ◌↔◌, ℕ, ◌+◌, ◌<◌, ◌≤◌, Bool, true, List, length, arith, Some, slice_get, drive, Patch, places_of_part, Device, Ran, Shelved, ran_more, AreDrivesOfAll, is_in, NoByte, IsOnSlot, OthersStayBut, place_of, Plan, MayStandFor, HoldDrivesOf, IsSlotOf, IsOnPatches, OnPatches}
use Rattle.patch_io.proofs.Parts.{places_of}
use Rattle.segment_writer.proofs.CheckpointAppended.{same_patch}

-- the drives of the first patches are in the set
abbrev pub HoldDrivesUpto : List Patch → List Bool → ℕ → Type 0
HoldDrivesUpto ps drives upto = (i part shard : ℕ) (p : Patch) → i < upto → slice_get ps i ≡ Some p → part < length p.segments → shard < 9 → is_in drives (place_of (places_of_part p part) shard).slot ≡ true

-- one more patch's drives
pub drives_more : (ps : List Patch) (index : ℕ) (p : Patch) (was more now : List Bool) → slice_get ps index ≡ Some p → ((slot : ℕ) → (is_in now slot ≡ true) ↔ ((is_in was slot ≡ true) ⊎ (is_in more slot ≡ true)))
    → AreDrivesOfAll (length p.segments) (places_of_part p) more → HoldDrivesUpto ps was index → HoldDrivesUpto ps now (index + 1)
drives_more ps index p was more now at both here before k part shard q lt at_k within shard_lt = grind (arith, nat_tests, place_of, places_of_part, is_in, same_patch)

-- no drive but of a patch
pub only_more : (ps : List Patch) (index : ℕ) (p : Patch) (was more now : List Bool) → slice_get ps index ≡ Some p → ((slot : ℕ) → (is_in now slot ≡ true) ↔ ((is_in was slot ≡ true) ⊎ (is_in more slot ≡ true)))
    → AreDrivesOfAll (length p.segments) (places_of_part p) more → ((slot : ℕ) → is_in was slot ≡ true → IsSlotOf ps slot)
    → (slot : ℕ) → is_in now slot ≡ true → IsSlotOf ps slot
only_more ps index p was more now at both here before slot is = grind (arith, nat_tests)

-- each drive of a unit is one of the shelf
pub slot_below : (a : Shelved) (plan : Plan) (ps : List Patch) (slot : ℕ) → MayStandFor a plan ps → IsSlotOf ps slot → slot < a.drives
slot_below a plan ps slot may of =
    let place = (places_of a of.3 of.1 (may.stored of.0 of.3 of.4).lawful of.5).each of.2 of.6 in
    omega (arith, of.7, place.slot)

-- a sync of the drives is a run on them that writes nothing
pub synced_on : {X : Type 0} {shelf : X → Shelved} {same_rest : X → X → Type 0} {a b : X} (ps : List Patch) (n count : ℕ) (drives : List Bool) → ((slot : ℕ) → is_in drives slot ≡ true → IsSlotOf ps slot) → Ran shelf same_rest (IsOnSlot drives) NoByte a b
    → Ran shelf same_rest (IsOnPatches ps) (OnPatches ps n count) a b
synced_on ps n count drives only ran = grind (arith, nat_tests, ran_more, drive)

-- some write units are some of all of them
pub on_all : {X : Type 0} {shelf : X → Shelved} {same_rest : X → X → Type 0} {a b : X} (ps : List Patch) (n count : ℕ) → n + count ≤ 16 → Ran shelf same_rest (IsOnPatches ps) (OnPatches ps n count) a b → Ran shelf same_rest (IsOnPatches ps) (OnPatches ps 0 16) a b
on_all ps n count fits ran =
    ran_more (λ d on. on) (λ d i (index, p, at, (part, within, (shard, lt, (same, range)))). (index, p, at, (part, within, (shard, lt, (same, (omega (arith, range.0), omega (arith, range.1, fits))))))) ran

-- a drive that isn't of the set stays where the patches are written
pub others_but : (a b : Shelved) (ps : List Patch) (drives : List Bool) → HoldDrivesOf ps drives → ((device : Device) → (IsOnPatches ps device → ⊥) → b.disk device ≡ a.disk device) → OthersStayBut drives a b
others_but a b ps drives has others device none = others device (λ (index, p, at, (part, shard, within, lt, e)). none ((place_of (places_of_part p part) shard).slot, has index part shard p at within lt, e))
