-- Segments that are written whole.
use Rattle.segment_writer.proofs.Prelude.{nat_tests, ◌≡◌, ℕ, ◌+◌, ◌<◌, ◌≤◌, Bool, true, false, List, replicate, arith, get_or-replicate, get_or_past, length-replicate, drive, Device, Ran, Shelved, Stop, MayStop, ran_more, AreSynced, is_in, LosesOnly, NoByte, IsOnSlot, OthersStayBut, ArePlaces, place_of, bytes_of, Layout, units_of, HaveStripes, HoldAll, HoldAllHeaders, IsOnSome, OnSome, AreDrivesOfAll, StaysClean, HasWritten}
use Rattle.segment_io.proofs.InTurn.{same_units, same_stripe}
use Rattle.segment_io.proofs.Views.{holds_at_stop}
use Rattle.segment_writer.proofs.Apart.{slot_of}
use Rattle.segment_writer.proofs.Headers.{all_kept}

-- no drive is in a fresh set
pub fresh_none : (n slot : ℕ) (P : Type 0) → is_in (replicate n false) slot ≡ true → P
fresh_none n slot P is = grind (arith, nat_tests, is_in, replicate, get_or-replicate, get_or_past, length-replicate)

-- the slot of a unit is one of the shelf
pub slot_below : (a : Shelved) (l : Layout) (drives : List Bool) (slot : ℕ) → ((number : ℕ) → number < l.count → ArePlaces a (units_of l number)) → AreDrivesOfAll l.count (units_of l) drives → is_in drives slot ≡ true → slot < a.drives
slot_below a l drives slot places of is = grind (arith, nat_tests)

-- what all hold stays where the drives are synced
pub synced_kept : (a b : Shelved) (l : Layout) (was now : List Bool) (stripes : ℕ → ℕ) (Holds : ℕ → ℕ → List (List ℕ) → Type 0) → HaveStripes l stripes → LosesOnly a b was now → ((device : Device) → (b.disk device).bytes ≡ (a.disk device).bytes)
    → HoldAll (bytes_of a) l was stripes Holds → HoldAll (bytes_of b) l now stripes Holds
synced_kept a b l was now stripes Holds some loses same holds =
    all_kept (bytes_of a) (bytes_of b) l was now stripes Holds some (λ k stripe shards lt low. same_stripe a b (units_of l k) was now stripe shards loses same) holds

-- and so do the headers
pub headers_kept : (a b : Shelved) (l : Layout) (was now : List Bool) → LosesOnly a b was now → ((device : Device) → (b.disk device).bytes ≡ (a.disk device).bytes) → HoldAllHeaders (bytes_of a) l was → HoldAllHeaders (bytes_of b) l now
headers_kept a b l was now loses same holds number within = same_units a b (units_of l number) was now 0 _ loses same (holds number within)

-- what was written stands after a stop
pub holds_after : (e : Shelved) (l : Layout) (lost : List Bool) (stripes : ℕ → ℕ) (Holds : ℕ → ℕ → List (List ℕ) → Type 0) (stop : Stop) → HaveStripes l stripes → HasWritten e l lost stripes Holds → MayStop e stop → HoldAll stop.image l lost stripes Holds
holds_after e l lost stripes Holds stop some written may =
    all_kept (bytes_of e) stop.image l lost lost stripes Holds some (λ k stripe shards lt low stands. holds_at_stop e (units_of l k) lost stripe shards stop may (λ shard shard_lt none. written.synced k shard lt shard_lt none) stands) written.holds

-- ---- runs

-- some write units are some of all of them
pub on_all : {X : Type 0} {shelf : X → Shelved} {same_rest : X → X → Type 0} {a b : X} (l : Layout) (n many : ℕ) → n + many ≤ 16 → Ran shelf same_rest (IsOnSome l.count (units_of l)) (OnSome l.count (units_of l) n many) a b
    → Ran shelf same_rest (IsOnSome l.count (units_of l)) (OnSome l.count (units_of l) 0 16) a b
on_all l n many fits ran = ran_more (λ d on. on) (λ d i (number, within, (shard, lt, (same, range))). (number, within, (shard, lt, (same, (omega (arith, range.0), omega (arith, range.1, fits)))))) ran

-- a sync of the drives is a run on them that writes nothing
pub synced_on : {X : Type 0} {shelf : X → Shelved} {same_rest : X → X → Type 0} {a b : X} (l : Layout) (n many : ℕ) (drives : List Bool) → AreDrivesOfAll l.count (units_of l) drives → Ran shelf same_rest (IsOnSlot drives) NoByte a b
    → Ran shelf same_rest (IsOnSome l.count (units_of l)) (OnSome l.count (units_of l) n many) a b
synced_on l n many drives of ran = grind (arith, nat_tests, ran_more, drive)

-- a drive that isn't of the set stays where the segments are written
pub others_but : (a b : Shelved) (l : Layout) (drives : List Bool) → AreDrivesOfAll l.count (units_of l) drives → ((device : Device) → (IsOnSome l.count (units_of l) device → ⊥) → b.disk device ≡ a.disk device) → OthersStayBut drives a b
others_but a b l drives of others device none = others device (λ on. none ((place_of (units_of l on.0) on.1).slot, of.each on.0 on.1 on.2 on.3, on.4))

-- a drive of the set was synced, and any other stays
pub clean_again : (a e : Shelved) (drives lost : List Bool) → OthersStayBut drives a e → AreSynced e drives lost → StaysClean lost a e
clean_again a e drives lost others synced slot none was = grind (arith, nat_tests, is_in, drive, slot_of)
