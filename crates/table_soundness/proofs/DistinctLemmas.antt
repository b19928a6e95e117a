-- Numbers of which no two are the same, in whatever order.
use Rattle.std.proofs.lemmas.Map.Keys.{IsDistinct-IsPermutation, IsDistinct-from_apart}
use Rattle.table_soundness.proofs.Prelude.{AllPairs-from_IsDistinct, IsSortedByKey, nat_eq, nat_tests, ne_eqb, nat_cmp, ◌↔◌, ◌≢◌, ℕ, ◌<◌, List, arith, AllPairs, IsPermutation, IsNonDecreasingBy-from_sort, IsPermutation-sym}
use Rattle.std.specs.Cmp.{unsigned_Decides}

-- no two are the same
abbrev pub AreDistinct : List ℕ → Type 0
AreDistinct xs = AllPairs (λ m n. m ≢ n) xs

pub distinct-permutation : (old new : List ℕ) → IsPermutation old new → AreDistinct old → AreDistinct new
distinct-permutation old new moved h =
    AllPairs-from_IsDistinct unsigned_Decides new (IsDistinct-IsPermutation nat_eq (λ m n. grind (arith, nat_tests)) old new moved (IsDistinct-from_apart nat_eq old (λ i j d low l. ne_eqb _ _ (h i j d low l))))

-- where they are in order, each is then below the next one
pub rising_from_distinct : (old new : List ℕ) → IsPermutation old new → IsSortedByKey (λ n. n) nat_cmp new → AreDistinct old ↔ AllPairs (λ m n. m < n) new
rising_from_distinct old new moved sorted = (
  λ h i j d low l. let apart = distinct-permutation old new moved h in let up = IsNonDecreasingBy-from_sort (λ n. n) new sorted in grind (arith, nat_tests, apart, up),
  λ up. distinct-permutation new old (IsPermutation-sym old new moved) (λ i j d low l same. let less = up i j d low l in omega (arith, less, same)),
)
