-- Sectors that stand one behind another in a segment.
use Rattle.target_io.proofs.Prelude.{◌≡◌, ℕ, zero, suc, ◌+◌, ◌<◌, ◌≤◌, Bool, List, ◌++◌, length, refl, sym, ◌∙◌, ap, subst, arith, Option, Some, slice_index_or, bytes_at, ◌*◌, View, Facts, segment, Location, Place, Target, Zero, SegmentFact, SectorStands, Contents, PlaceReads, TargetReads, ContentsStand, Shelved, ArePlaces, place_of, AreLost, ShowsPresent, is_missing_in, AreReadable, ShowsDrives, AreDrivesLost, AreSectorsOf, target_behind, IsRun, IsInSegment, Stands, All, ◌-◌, inl, inr, Memory}
use Rattle.std.proofs.lemmas.List.Elements.{All-get_or}
use Rattle.target_io.proofs.Reading.{lost_places}
use Rattle.target_io.proofs.Sectors.{front_bytes}

-- a segment that memory gave the places of
abbrev pub HasPlaces : Facts → ℕ → List Place → Type 0
HasPlaces fs id places = (d : SegmentFact) × (segment fs id ≡ Some d) × (d.places ≡ places)

same_some : (o : Option SegmentFact) (x y : SegmentFact) → o ≡ Some x → o ≡ Some y → x ≡ y
same_some o x y e f = cc

sector_stands : (view : View) (fs : Facts) (contents : Contents) (id index j : ℕ) (which : SegmentFact) (places : List Place) → ContentsStand contents view fs → segment fs id ≡ Some which → index + j < which.placed → HasPlaces fs id places
    → SectorStands view places (index + j) (contents id (index + j))
sector_stands view fs contents id index j which places stand there low given =
    let same : which ≡ given.0 = same_some (segment fs id) which given.0 there given.1 in
    let placed : index + j < given.0.placed = omega (arith, low, ap (λ (d : SegmentFact). d.placed) same) in
    subst (λ (units : List Place). SectorStands view units (index + j) (contents id (index + j))) given.2 (stand id (index + j) given.0 given.1 placed)

places_are : (a : Shelved) (fs : Facts) (id : ℕ) (places : List Place) → AreReadable a fs → HasPlaces fs id places → ArePlaces a places
places_are a fs id places readable given = subst (λ (units : List Place). ArePlaces a units) given.2 (readable id given.0 given.1).0

-- so a run of them is read as memory reads it
pub run_read : (a : Shelved) (fs : Facts) (missing : List Bool) (contents : Contents) (view : View) (id index count : ℕ) (which : SegmentFact) (places : List Place) (was out rest : List ℕ) → AreReadable a fs → segment fs id ≡ Some which → index + count ≤ which.placed → length was ≡ 512 * count → HasPlaces fs id places
    → ((view : View) (j : ℕ) (sector : List ℕ) → 512 * j + 512 ≤ length was → ShowsPresent a places missing view → SectorStands view places (index + j) sector → bytes_at (512 * j) 512 out ≡ sector)
    → length out ≡ length was → ShowsDrives a missing view → ContentsStand contents view fs → (j : ℕ) → j < count → bytes_at (512 * j) 512 (out ++ rest) ≡ contents id (index + j)
run_read a fs missing contents view id index count which places was out rest readable there placed whole given read same shows stand j low =
    front_bytes (512 * j) 512 out rest (omega (arith, low, whole, same)) ∙ read view j (contents id (index + j)) (omega (arith, low, whole)) (λ shard within present. shows (place_of places shard).slot ((places_are a fs id places readable given).each shard within).slot present)
    (sector_stands view fs contents id index j which places stand there (omega (arith, low, placed)) given)

-- and where that fails, drives are lost
pub run_lost : (a b : Shelved) (fs : Facts) (missing drives : List Bool) (id : ℕ) (places : List Place) → AreReadable a fs → HasPlaces fs id places → AreLost a b places (is_missing_in missing places) drives → AreDrivesLost a b fs missing drives
run_lost a b fs missing drives id places readable given lost = lost_places a b fs id given.0 given.1 places given.2 missing drives (places_are a fs id places readable given) lost

-- ---- the targets of such sectors

-- where a target leads to a segment, those that follow it were placed there too
pub run_of : (m : Memory) (targets : List Target) (at : Location) (count : ℕ) → All (Stands m) targets → IsInSegment m at → 1 ≤ count → count ≤ length targets
    → ((j : ℕ) → j < count → slice_index_or targets j Zero ≡ target_behind at j) → IsRun m at count
run_of m targets at count stand first some within follow =
    let last = count - 1 in
    let stands : Stands m (target_behind at last) = subst (Stands m) (follow last (omega (arith, some))) (All-get_or (Stands m) targets last Zero (omega (arith, some, within)) stand) in
    elim stands [
      | inl staged ↦ absurd (omega (arith, first.given, staged.0))
      | inr seg ↦ record { given = first.given; which = seg.which; there = seg.there; placed = omega (arith, seg.placed, some) }
    ]

placed_reads : (contents : Contents) (staged : List (List ℕ)) (id index : ℕ) → 1 ≤ id → PlaceReads contents staged id index (contents id index)
placed_reads contents staged zero index given = absurd (omega (arith, given))
placed_reads contents staged (suc id) index given = refl

pub run_sectors : (contents : Contents) (staged : List (List ℕ)) (targets : List Target) (at : Location) (count : ℕ) (bytes : List ℕ) → 1 ≤ at.segment.0 → ((j : ℕ) → j < count → slice_index_or targets j Zero ≡ target_behind at j)
    → ((j : ℕ) → j < count → bytes_at (512 * j) 512 bytes ≡ contents at.segment.0 (at.index + j)) → AreSectorsOf contents staged targets count bytes
run_sectors contents staged targets at count bytes given follow read j low =
    subst (λ (s : List ℕ). TargetReads contents staged (slice_index_or targets j Zero) s) (sym (read j low))
    (subst (λ (t : Target). TargetReads contents staged t (contents at.segment.0 (at.index + j))) (sym (follow j low)) (placed_reads contents staged at.segment.0 (at.index + j) given))
