-- The new segments, one by one.
use Rattle.std.proofs.lemmas.Bool.Decides.{nat_tests}
use Rattle.table_plan.proofs.Prelude.{◌≡◌, ℕ, suc, ◌+◌, ◌-◌, ◌*◌, ◌/◌, ◌%◌, ◌<◌, ◌≤◌, min, List, [], ◌∷◌, length, arith, inl, inr, Some, slice_get, Contains, cases_lt, SEGMENT_SECTORS, Place, SegmentFact, here, there, either, nowhere, segments_from}
use Rattle.std.specs.Int.{div_ceil}

-- what a new segment is
pub record IsNewSegment (first number sectors : ℕ) (units : List (List Place)) (d : SegmentFact) : Type 0 where
  pub at : ℕ
  pub within : at < length units
  pub same : slice_get (segments_from first number sectors units) at ≡ Some d
  pub id : d.segment.0 ≡ first + at
  pub seq : d.seq.0 ≡ number + at
  pub places : Contains units d.places
  pub placed : d.placed ≡ min (sectors - SEGMENT_SECTORS * at) SEGMENT_SECTORS

pub is_new_segment : (first number sectors : ℕ) (units : List (List Place)) (d : SegmentFact) → Contains (segments_from first number sectors units) d → IsNewSegment first number sectors units d
is_new_segment first number sectors [] d c = absurd (nowhere d c)
is_new_segment first number sectors (u ∷ units) d c =
    elim (either (record { segment = record { 0 = first }; places = u; placed = min sectors SEGMENT_SECTORS; seq = record { 0 = number } }) d (segments_from (first + 1) (number + 1) (sectors - min sectors SEGMENT_SECTORS) units) c) [
      | inl is ↦ grind (arith, nat_tests)
      | inr rest ↦
          let w = is_new_segment (first + 1) (number + 1) (sectors - min sectors SEGMENT_SECTORS) units d rest in
          let inside = w.within in
          let i = w.id in
          let n = w.seq in
          let p = w.placed in
          record {
            at = suc w.at;
            within = omega (arith, inside);
            same = w.same;
            id = omega (arith, i);
            seq = omega (arith, n);
            places = there u d.places units w.places;
            placed = omega (arith, p);
          }
    ]

-- the segment of the n-th sector
pub record HoldsRank (first number sectors : ℕ) (units : List (List Place)) (n : ℕ) : Type 0 where
  pub segment : SegmentFact
  pub there : Contains (segments_from first number sectors units) segment
  pub id : segment.segment.0 ≡ first + n / SEGMENT_SECTORS
  pub within : n % SEGMENT_SECTORS < segment.placed

pub holds_rank : (first number sectors : ℕ) (units : List (List Place)) (n : ℕ) → n < sectors → sectors ≤ SEGMENT_SECTORS * length units → HoldsRank first number sectors units n
holds_rank first number sectors [] n l few = absurd (omega (arith, l, few))
holds_rank first number sectors (u ∷ units) n l few = elim (cases_lt n SEGMENT_SECTORS) [
  | inl low ↦ record {
    segment = record { segment = record { 0 = first }; places = u; placed = min sectors SEGMENT_SECTORS; seq = record { 0 = number } };
    there = here (record { segment = record { 0 = first }; places = u; placed = min sectors SEGMENT_SECTORS; seq = record { 0 = number } }) (segments_from (first + 1) (number + 1) (sectors - min sectors SEGMENT_SECTORS) units);
    id = omega (arith, low);
    within = omega (arith, low, l);
  }
  | inr high ↦
      let w = holds_rank (first + 1) (number + 1) (sectors - min sectors SEGMENT_SECTORS) units (n - SEGMENT_SECTORS) (omega (arith, high, l)) (omega (arith, few, high, l)) in
      let i = w.id in
      let p = w.within in
      record {
        segment = w.segment;
        there = there (record { segment = record { 0 = first }; places = u; placed = min sectors SEGMENT_SECTORS; seq = record { 0 = number } }) w.segment (segments_from (first + 1) (number + 1) (sectors - min sectors SEGMENT_SECTORS) units) w.there;
        id = omega (arith, i, high);
        within = omega (arith, p, high);
      }
]

-- the segments have room for the sectors, and each takes one
pub rooms : (sectors units : ℕ) → div_ceil sectors SEGMENT_SECTORS ≡ units → (sectors ≤ SEGMENT_SECTORS * units) × (SEGMENT_SECTORS * units < sectors + SEGMENT_SECTORS)
rooms sectors units e = (omega (arith, e), omega (arith, e))
