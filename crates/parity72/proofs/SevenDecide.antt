-- Any seven shards decide a codeword: two that agree but for two shards are one.
use Rattle.parity72.proofs.Prelude.{◌≡◌, ◌≢◌, ℕ, ◌<◌, List, [], get_or, ap, sym, ◌∙◌, arith, bit_xor, inl, inr, ext_get_or, cases_eq, cases_lt, times, power_of_two, same_number_lists, IsCodeword, shard_of, byte_of, weighted}
use lib.Bits.{xor_zero_l, xor_zero_r, xor_self, xor_lt}
use Rattle.parity72.proofs.Laws.{times-zero}
use Rattle.parity72.proofs.Linear.{times-xor_left}
use Rattle.parity72.proofs.Inverses.{has_inverse}
use Rattle.parity72.proofs.Sums.{sum-same, sum-two, power-fits, power-positive, sum-positive}
use Rattle.parity72.proofs.Errors.{error, error-none, plain, p-errors, weighted-errors, plain-one, weighted-one, weighted-two, solved, xor-undone_right}

-- a sum that is 0 has equal terms
same-terms : (x y : ℕ) → bit_xor x y ≡ 0 → x ≡ y
same-terms x y e = sym (xor-undone_right x y) ∙ ap (λ t. bit_xor t y) e ∙ xor_zero_l y

-- a column of a codeword
pub record IsColumn (o : ℕ → ℕ) : Type 0 where
  pub fits : (i : ℕ) → i < 9 → o i < 256
  pub p : o 7 ≡ plain o
  pub q : o 8 ≡ weighted o

-- two columns that agree but at a and b
module _ (o w : ℕ → ℕ) (first : IsColumn o) (second : IsColumn w) (a b : ℕ) (same : (i : ℕ) → i < 9 → i ≢ a → i ≢ b → o i ≡ w i) where
  e : ℕ → ℕ
  e = error o w

  e-fits : (i : ℕ) → i < 9 → e i < 256
  unfolding e
  e-fits i l = xor_lt 8 (o i) (w i) (first.fits i l) (second.fits i l)

  e-none : (i : ℕ) → i < 9 → i ≢ a → i ≢ b → e i ≡ 0
  unfolding e
  e-none i l na nb = error-none o w i (same i l na nb)

  p-none : bit_xor (plain e) (e 7) ≡ 0
  unfolding e
  p-none = sym (p-errors o w second.p) ∙ ap (bit_xor (plain o)) first.p ∙ xor_self (plain o)

  q-none : bit_xor (weighted e) (e 8) ≡ 0
  unfolding e
  q-none =
      let is : e 8 ≡ weighted e = ap (λ t. bit_xor t (w 8)) first.q ∙ ap (bit_xor (weighted o)) second.q ∙ weighted-errors o w in
      ap (bit_xor (weighted e)) is ∙ xor_self (weighted e)

  no-error : (i : ℕ) → e i ≡ 0 → o i ≡ w i
  unfolding e
  no-error i h = same-terms (o i) (w i) h

  module _ (la : a < 7) where
    pa : ℕ
    pa = power_of_two a

    -- both of data
    two-data : b < 7 → a ≢ b → (e a ≡ 0) × (e b ≡ 0)
    unfolding pa
    two-data lb ne =
        let pb = power_of_two b in
        let none : (i : ℕ) → i < 7 → i ≢ a → i ≢ b → e i ≡ 0 = λ i l na nb. e-none i (omega arith) na nb in
        let n7a : 7 ≢ a = omega arith in
        let n7b : 7 ≢ b = omega arith in
        let n8a : 8 ≢ a = omega arith in
        let n8b : 8 ≢ b = omega arith in
        let p_is : bit_xor (e a) (e b) ≡ 0 =
        sym (xor_zero_r (bit_xor (e a) (e b))) ∙ ap (bit_xor (bit_xor (e a) (e b))) (sym (e-none 7 (omega arith) n7a n7b))
        ∙ ap (λ t. bit_xor t (e 7)) (sym (sum-two 7 e a b la lb ne none)) ∙ p-none in
        let alike : e a ≡ e b = same-terms (e a) (e b) p_is in
        let q_is : bit_xor (times (power_of_two a) (e a)) (times pb (e b)) ≡ 0 =
        sym (weighted-two e a b la lb ne none) ∙ same-terms (weighted e) (e 8) q-none ∙ e-none 8 (omega arith) n8a n8b in
        let sum = bit_xor (power_of_two a) pb in
        let ls : sum < 256 = xor_lt 8 (power_of_two a) pb (power-fits a) (power-fits b) in
        let inv = has_inverse sum (sum-positive a b la lb ne) ls in
        let product : times sum (e b) ≡ 0 =
        times-xor_left (power_of_two a) pb (e b) (power-fits a) (power-fits b)
        ∙ ap (λ t. bit_xor (times (power_of_two a) t) (times pb (e b))) (sym alike) ∙ q_is in
        let eb : e b ≡ 0 = sym (solved sum inv.0 (e b) ls inv.1 (e-fits b (omega arith)) inv.2) ∙ ap (times inv.0) product ∙ times-zero inv.0 in
        (alike ∙ eb, eb)

    -- data and P
    data-and-p : b ≡ 7 → (e a ≡ 0) × (e b ≡ 0)
    unfolding pa
    data-and-p is =
        let none : (i : ℕ) → i < 7 → i ≢ a → e i ≡ 0 = λ i l na. let nb : i ≢ b = omega arith in e-none i (omega arith) na nb in
        let n8a : 8 ≢ a = omega arith in
        let n8b : 8 ≢ b = omega arith in
        let q_is : times (power_of_two a) (e a) ≡ 0 =
        sym (weighted-one e a la none) ∙ same-terms (weighted e) (e 8) q-none ∙ e-none 8 (omega arith) n8a n8b in
        let inv = has_inverse (power_of_two a) (power-positive a la) (power-fits a) in
        let ea : e a ≡ 0 = sym (solved (power_of_two a) inv.0 (e a) (power-fits a) inv.1 (e-fits a (omega arith)) inv.2) ∙ ap (times inv.0) q_is ∙ times-zero inv.0 in
        let p_is : bit_xor (e a) (e 7) ≡ 0 = ap (λ t. bit_xor t (e 7)) (sym (plain-one e a la none)) ∙ p-none in
        (ea, ap e is ∙ sym (same-terms (e a) (e 7) p_is) ∙ ea)

    -- data and Q
    data-and-q : b ≡ 8 → (e a ≡ 0) × (e b ≡ 0)
    unfolding pa
    data-and-q is =
        let none : (i : ℕ) → i < 7 → i ≢ a → e i ≡ 0 = λ i l na. let nb : i ≢ b = omega arith in e-none i (omega arith) na nb in
        let n7a : 7 ≢ a = omega arith in
        let n7b : 7 ≢ b = omega arith in
        let ea : e a ≡ 0 =
        sym (plain-one e a la none) ∙ same-terms (plain e) (e 7) p-none ∙ e-none 7 (omega arith) n7a n7b in
        let q_is : times (power_of_two a) (e a) ≡ e 8 = sym (weighted-one e a la none) ∙ same-terms (weighted e) (e 8) q-none in
        (ea, ap e is ∙ sym q_is ∙ ap (times (power_of_two a)) ea ∙ times-zero (power_of_two a))

  -- P and Q
  parities : a ≡ 7 → b ≡ 8 → (e a ≡ 0) × (e b ≡ 0)
  unfolding e
  parities is is2 =
      let same_data : (i : ℕ) → i < 7 → o i ≡ w i = λ i l. let na : i ≢ a = omega arith in let nb : i ≢ b = omega arith in same i (omega arith) na nb in
      let seven : o 7 ≡ w 7 = first.p ∙ sum-same 7 o w same_data ∙ sym second.p in
      let eight : o 8 ≡ w 8 = first.q ∙ sum-same 7 (λ i. times (power_of_two i) (o i)) (λ i. times (power_of_two i) (w i)) (λ i l. ap (times (power_of_two i)) (same_data i l)) ∙ sym second.q in
      (ap (error o w) is ∙ error-none o w 7 seven, ap (error o w) is2 ∙ error-none o w 8 eight)

  -- the lower one first
  ordered : a < b → b < 9 → (e a ≡ 0) × (e b ≡ 0)
  ordered below lb = elim (cases_lt a 7) [
    | inl la ↦ elim (cases_lt b 7) [
      | inl lb7 ↦ let ne : a ≢ b = omega arith in two-data la lb7 ne
      | inr hb ↦ elim (cases_eq b 7) [
        | inl is ↦ data-and-p la is
        | inr other ↦ data-and-q la (omega arith)
      ]
    ]
    | inr ha ↦ parities (omega arith) (omega arith)
  ]

  pub decided : a < b → b < 9 → (i : ℕ) → i < 9 → o i ≡ w i
  unfolding e
  decided below lb i l = elim (cases_eq i a) [
    | inl is ↦ no-error i (ap (error o w) is ∙ (ordered below lb).0)
    | inr na ↦ elim (cases_eq i b) [
      | inl is ↦ no-error i (ap (error o w) is ∙ (ordered below lb).1)
      | inr nb ↦ same i l na nb
    ]
  ]

-- the bytes at k of a codeword
columns : (a : List (List ℕ)) (k : ℕ) → IsCodeword a → k < 4096 → IsColumn (λ i. byte_of a i k)
columns a k code small = record { fits = λ i l. code.bytes i k l small; p = code.p k small; q = code.q k small }

-- two codewords that agree but for two shards are one
pub seven-decide : (a b : List (List ℕ)) (i j : ℕ) → IsCodeword a → IsCodeword b → i < j → j < 9
    → ((k : ℕ) → k < 9 → k ≢ i → k ≢ j → shard_of a k ≡ shard_of b k) → a ≡ b
seven-decide a b i j first second below lj same =
    ext_get_or [] a b (first.count ∙ sym second.count) (λ s lt. shards s (omega (arith, lt, first.count)))
  where
    shards : (s : ℕ) → s < 9 → shard_of a s ≡ shard_of b s
    shards s l =
        same_number_lists (shard_of a s) (shard_of b s) (first.sizes s l ∙ sym (second.sizes s l))
        (λ k small. decided (λ n. byte_of a n k) (λ n. byte_of b n k)
        (columns a k first (omega (arith, small, first.sizes s l))) (columns b k second (omega (arith, small, first.sizes s l)))
        i j (λ n ln ni nj. ap (λ x. get_or x k 0) (same n ln ni nj)) below lj s l)
