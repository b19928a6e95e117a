-- Zeros up to the end, and the first byte that is none.
use Rattle.boot_codec.proofs.Prelude.{nat_tests, ◌≡◌, ℕ, zero, suc, ◌+◌, ◌<◌, List, [], ◌∷◌, ◌++◌, length, take, drop, get_or, Ok, Err, bit_or, refl, sym, ap, ◌∙◌, arith, add-one, drop-cons, ne_eqb, take-suc, le_or_l, le_or_r, zeros, fault_at, these, padding}

zeros-more : (n : ℕ) → zeros n ++ 0 ∷ [] ≡ zeros (suc n)
zeros-more zero = refl
zeros-more (suc n) = ap (λ (x : List ℕ). 0 ∷ x) (zeros-more n)

-- one more byte, where all so far are zero
pub one_more_zero : (bytes : List ℕ) (any i : ℕ) → i < length bytes → (any ≡ 0 → take i bytes ≡ zeros i) → bit_or any (get_or bytes i 0) ≡ 0 → take (i + 1) bytes ≡ zeros (i + 1)
one_more_zero bytes any i lt so_far e =
    let before : any ≡ 0 = omega (arith, le_or_l any (get_or bytes i 0)) in
    let byte : get_or bytes i 0 ≡ 0 = omega (arith, le_or_r any (get_or bytes i 0)) in
    rw add-one (take-suc bytes i 0 lt ∙ ap (λ (x : List ℕ). x ++ get_or bytes i 0 ∷ []) (so_far before) ∙ ap (λ (b : ℕ). zeros i ++ b ∷ []) byte ∙ zeros-more i)

padding-zero : (bytes : List ℕ) → padding (0 ∷ bytes) ≡ padding bytes
unfolding padding these
padding-zero bytes = refl

pub padding-zeros : (n : ℕ) → padding (zeros n) ≡ Ok (tt, [])
padding-zeros zero = unfold padding in unfold these in refl
padding-zeros (suc n) = padding-zero (zeros n) ∙ padding-zeros n

pub padding_of_zeros : (bytes : List ℕ) → bytes ≡ zeros (length bytes) → padding bytes ≡ Ok (tt, [])
padding_of_zeros bytes e = ap padding e ∙ padding-zeros (length bytes)

-- a block of zeros in front changes nothing
pub padding_block : (n : ℕ) (bytes : List ℕ) → take n bytes ≡ zeros n → padding (drop n bytes) ≡ padding bytes
padding_block zero bytes e = refl
padding_block (suc n) [] e = refl
padding_block (suc n) (b ∷ bytes) e =
    let byte : b ≡ 0 = cc in
    let others : take n bytes ≡ zeros n = cc in
    padding_block n bytes others ∙ sym (ap (λ (x : ℕ). padding (x ∷ bytes)) byte ∙ padding-zero bytes)

pub padding_goes_on : (bytes : List ℕ) (i : ℕ) → i < length bytes → get_or bytes i 0 ≡ 0 → padding (drop (i + 1) bytes) ≡ padding (drop i bytes)
padding_goes_on bytes i lt e = grind (arith, nat_tests, add-one, drop-cons, padding-zero)

fails_on : (b : ℕ) (bytes : List ℕ) → (b ≡ 0 → ⊥) → padding (b ∷ bytes) ≡ Err (fault_at (b ∷ bytes))
unfolding padding these
fails_on b bytes h = rw (ne_eqb b 0 h) refl

pub padding_fails : (bytes : List ℕ) (i : ℕ) → i < length bytes → (get_or bytes i 0 ≡ 0 → ⊥) → padding (drop i bytes) ≡ Err (fault_at (drop i bytes))
padding_fails bytes i lt h = grind (arith, nat_tests, drop-cons, fails_on)
