-- Stripes are filled sector by sector.
use Rattle.segment_writer.proofs.Prelude.{nat_tests, ◌≡◌, ◌≢◌, ℕ, ◌+◌, ◌*◌, ◌<◌, List, length, arith, below_more, slice_set, get_or-set_same, get_or-set_other, stripe_in, sector_of_stripe, IsSectorOf, HoldsSectors}

-- one more sector is put in
pub fill_more : (staged : List (List ℕ)) (order : List ℕ) (number place : ℕ) (stripe new : List (List ℕ)) (sector : List ℕ) → place < 56 → ((k : ℕ) → k < place → IsSectorOf staged order (56 * number + k) (sector_of_stripe stripe k)) → IsSectorOf staged order (56 * number + place) sector
    → sector_of_stripe new place ≡ sector → ((other : ℕ) → other < 56 → other ≢ place → sector_of_stripe new other ≡ sector_of_stripe stripe other) → (k : ℕ) → k < place + 1 → IsSectorOf staged order (56 * number + k) (sector_of_stripe new k)
fill_more staged order number place stripe new sector lt before is here others = grind (arith, nat_tests, below_more)

-- one more stripe is filled
pub stripes_more : (staged : List (List ℕ)) (order : List ℕ) (number : ℕ) (stripes : List (List (List ℕ))) (new : List (List ℕ)) → number < length stripes → ((k : ℕ) → k < number → HoldsSectors staged order k (stripe_in stripes k)) → HoldsSectors staged order number new
    → (k : ℕ) → k < number + 1 → HoldsSectors staged order k (stripe_in (slice_set stripes number new) k)
stripes_more staged order number stripes new lt before is = grind (arith, nat_tests, below_more, stripe_in, slice_set, get_or-set_other, get_or-set_same)
