-- The place of a flagged sector, and the sector of a place.
use Rattle.std.proofs.lemmas.Bool.Decides.{nat_tests}
use Rattle.table_plan.proofs.Prelude.{◌≡◌, ℕ, zero, suc, ◌+◌, ◌-◌, ◌*◌, ◌/◌, ◌%◌, ◌<◌, ◌≤◌, Bool, true, false, List, [], ◌∷◌, length, ap, ◌∙◌, arith, cond, get_or, Some, None, slice_get, slice_index_or, ltb, le-ltb, lt-ltb, slice_get_within, get_or_from_slice_get, get_or-map, SEGMENT_SECTORS, Contents, flagged_from, place_of, places_from, sectors_at, extended}

-- a flagged index is placed, at its place in the order
pub record IsFlagged (first n j : ℕ) (flags : List Bool) (i : ℕ) : Type 0 where
  pub rank : ℕ
  pub listed : slice_get (flagged_from j flags) rank ≡ Some (j + i)
  pub placed : slice_index_or (places_from first n flags) i None ≡ Some (place_of first (n + rank))

pub is_flagged : (first n j : ℕ) (flags : List Bool) (i : ℕ) → slice_index_or flags i false ≡ true → IsFlagged first n j flags i
is_flagged first n j [] i e = absurd cc
is_flagged first n j (true ∷ flags) zero e = record {
  rank = 0;
  listed = ap (λ k. Some k) (omega arith);
  placed = ap (λ k. Some (place_of first k)) (omega arith);
}
is_flagged first n j (false ∷ flags) zero e = absurd cc
is_flagged first n j (true ∷ flags) (suc i) e =
    let w = is_flagged first (n + 1) (j + 1) flags i e in
    record {
      rank = suc w.rank;
      listed = w.listed ∙ ap (λ k. Some k) (omega arith);
      placed = w.placed ∙ ap (λ k. Some (place_of first k)) (omega arith);
    }
is_flagged first n j (false ∷ flags) (suc i) e =
    let w = is_flagged first n (j + 1) flags i e in
    record { rank = w.rank; listed = w.listed ∙ ap (λ k. Some k) (omega arith); placed = w.placed }

-- there are no more places than flags
pub few_flagged : (j : ℕ) (flags : List Bool) → length (flagged_from j flags) ≤ length flags
few_flagged j [] = omega arith
few_flagged j (true ∷ flags) = let l = few_flagged (j + 1) flags in omega (arith, l)
few_flagged j (false ∷ flags) = let l = few_flagged (j + 1) flags in omega (arith, l)

-- the contents at the place of the n-th sector
pub placed_contents : (contents : Contents) (first : ℕ) (order : List ℕ) (staged : List (List ℕ)) (n i : ℕ) → slice_get order n ≡ Some i
    → extended contents first (sectors_at order staged) (place_of first n).segment.0 (place_of first n).index ≡ slice_index_or staged i []
placed_contents contents first order staged n i e =
    let above : ltb (first + n / SEGMENT_SECTORS) first ≡ false = le-ltb (first + n / SEGMENT_SECTORS) first (omega arith) in
    let at : SEGMENT_SECTORS * ((first + n / SEGMENT_SECTORS) - first) + n % SEGMENT_SECTORS ≡ n = omega arith in
    let within : n < length order = slice_get_within order n i e in
    ap (λ b. cond b (contents (first + n / SEGMENT_SECTORS) (n % SEGMENT_SECTORS)) (get_or (sectors_at order staged) (SEGMENT_SECTORS * ((first + n / SEGMENT_SECTORS) - first) + n % SEGMENT_SECTORS) [])) above
    ∙ ap (λ k. get_or (sectors_at order staged) k []) at
    ∙ get_or-map (λ k. slice_index_or staged k []) order n i [] within
    ∙ ap (λ k. slice_index_or staged k []) (get_or_from_slice_get order n i i e)

-- the contents of older segments
pub older_contents : (contents : Contents) (first : ℕ) (sectors : List (List ℕ)) (id index : ℕ) → id < first → extended contents first sectors id index ≡ contents id index
older_contents contents first sectors id index l = grind (arith, nat_tests, lt-ltb)
