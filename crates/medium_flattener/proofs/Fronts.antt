-- Fronts of mediums: where they end, what they take up, and what taking one in makes of an array.
use Rattle.std.proofs.lemmas.Bool.Decides.{nat_tests}
use Rattle.std.proofs.Common.{◌≡◌, ℕ, ◌+◌, ◌<◌, ◌≤◌, ◌∙◌, Result, Ok, Err, OnErr, inr, length, take, nat_lt, if◌then◌else◌, refl, sym, ap, subst, arith}
use Rattle.std.proofs.lemmas.List.{length-take-le}
use Rattle.session_spec.specs.Prelude.{OBJECT_SECTORS, Geometry, Memory, IsSound, facts}
use Rattle.memory_spec.specs.Prelude.{MediumFact}
use Rattle.medium_table.specs.Prelude.{cut_facts}
use Rattle.array_memory.specs.Prelude.{NOTHING, FrontFits, FrontPasses, IsLowestRange, cut_of, front_end, front_facts}
use Rattle.command_spec.proofs.FlattenedLemmas.{leads_down}
use Rattle.array_core.specs.declared.array.Array.{Array}
use Rattle.array_core.specs.Prelude.{IsArrayOf, TakesIn}
use Rattle.medium_flattener.specs.declared.front.Front.{Front}
use Rattle.medium_flattener.specs.Front.{IsFrontOf, facts_of}

-- ---- where it ends

pub end_bounds : (r : MediumFact) → r.start < r.end → (r.start < front_end r) × (front_end r ≤ r.end) × (front_end r ≤ r.start + 64)
end_bounds r some = grind (arith, nat_tests)

-- the lowest range is one of the medium, with sectors
pub lowest_is : (m : Memory) (medium : ℕ) (r : MediumFact) → IsSound m → IsLowestRange (facts m.tables) medium r → (r.medium.0 ≡ medium) × (r.start < r.end) × (r.end ≤ OBJECT_SECTORS)
lowest_is m medium r sound lowest = let down = leads_down m sound medium r lowest.there in (down.1, down.0.some, down.0.end)

-- ---- what it takes up

cut_count : (r : MediumFact) (until seq : ℕ) → length (cut_facts r until seq) ≡ (if nat_lt until r.end then 2 else 1)
cut_count r until seq = grind (arith, nat_tests)

-- how many facts it takes in
front_count : (m : Memory) (medium : ℕ) (f : Front) → IsFrontOf m medium f → front_facts m f.range (take f.len f.given) ≡ facts_of f
front_count m medium f front =
    let given = take f.len f.given in
    let cut = cut_count f.range (front_end f.range) (m.next.sequence + length given) in
    ap (λ (n : ℕ). n + length (cut_of m f.range (front_end f.range) given)) (length-take-le f.len f.given front.places) ∙ ap (λ (n : ℕ). f.len + n) cut ∙ ap (λ (u : ℕ). f.len + (if nat_lt u f.range.end then 2 else 1)) (sym front.until)

module _ (m : Memory) (medium before : ℕ) (f : Front) (front : IsFrontOf m medium f) (facts : ℕ) (are : facts ≡ facts_of f) where
  pub it_fits : before + facts ≤ 2048 → FrontFits medium m before
  it_fits fits = let count = front_count m medium f front in inr (f.range, take f.len f.given, front.front, omega (arith, fits, are, count))

  pub it_passes : 2048 < before + facts → FrontPasses medium m before
  it_passes more = let count = front_count m medium f front in (f.range, take f.len f.given, front.front, omega (arith, more, are, count))

pub on_any : {T E P : Type 0} (r : Result T E) → P → OnErr r P
on_any (Ok x) p = tt
on_any (Err e) p = p

-- ---- taking it in

pub lowest_of : (m : Memory) (medium : ℕ) (f : Front) → IsSound m → IsFrontOf m medium f → IsLowestRange (facts m.tables) f.range.medium.0 f.range
lowest_of m medium f sound front = subst (λ (n : ℕ). IsLowestRange (facts m.tables) n f.range) (sym (lowest_is m medium f.range sound front.front.lowest).0) front.front.lowest

-- nothing is taken in
pub nothing_taken : (shelf : Geometry) (a : Array) → IsArrayOf shelf a → TakesIn a a
nothing_taken shelf a of = record {
  rest = refl;
  sound = of.sound;
  reads = λ contents x reads. reads;
  layered = of.layered;
  patches = record { objects = refl; mediums = refl; addresses = refl; segments = refl; elisions = refl };
  segments = λ id. refl;
  segment_ids = record { segment = refl; patch_segment = refl };
  amounts = NOTHING;
  takes = record {
    room = record { objects = omega arith; mediums = omega arith; addresses = omega arith; elisions = omega arith; staged = omega arith; names = omega arith; ranges = omega arith };
    taken = record { objects = omega arith; mediums = omega arith; addresses = omega arith; elisions = omega arith; staged = omega arith; names = omega arith; ranges = omega arith };
    capacity = record { objects = omega arith; mediums = omega arith; addresses = omega arith; elisions = omega arith; staged = omega arith; names = omega arith; ranges = omega arith };
    segments = refl;
    elisions = λ all. all;
  };
  counted = record { objects = omega arith; mediums = omega arith; addresses = omega arith; elisions = omega arith; staged = omega arith; names = omega arith; ranges = omega arith };
  rested = of.rested;
}
