-- Each byte but 0 has an inverse: the table's.
use Rattle.parity72.proofs.Prelude.{◌≡◌, ◌<◌, ◌||◌, ℕ, Bool, true, eqb, ltb, get_or, refl, arith, nat_tests, times, times_bits}
use Rattle.parity72.specs.declared.bytes.TheConstants.{INVERSES}
use Rattle.parity72.proofs.Checks.{all_below, all_below-at}

unfoldable inverts : ℕ → Bool
inverts b = eqb b 0 || eqb (times (get_or INVERSES b 0) b) 1

inverts-all : all_below inverts 256 ≡ true
unfolding inverts times times_bits
inverts-all = refl

pub inverse-times : (b : ℕ) → 0 < b → b < 256 → times (get_or INVERSES b 0) b ≡ 1
unfolding inverts
inverse-times b pos lt =
    let h = all_below-at inverts 256 inverts-all b lt in
    grind (arith, nat_tests)

fits : ℕ → Bool
fits b = ltb (get_or INVERSES b 0) 256

fits-all : all_below fits 256 ≡ true
unfolding fits
fits-all = refl

-- and it is a byte
pub inverse-fits : (b : ℕ) → b < 256 → get_or INVERSES b 0 < 256
unfolding fits
inverse-fits b lt =
    let h = all_below-at fits 256 fits-all b lt in
    grind (arith, nat_tests)

-- some byte that gives 1
pub has_inverse : (b : ℕ) → 0 < b → b < 256 → (i : ℕ) × (i < 256) × (times i b ≡ 1)
has_inverse b pos lt = (get_or INVERSES b 0, inverse-fits b lt, inverse-times b pos lt)
