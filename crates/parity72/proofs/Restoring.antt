-- From what is corrected to what is restored.
use Rattle.parity72.proofs.Prelude.{◌≡◌, ◌≢◌, ℕ, zero, suc, ◌<◌, ◌≤◌, List, [], ◌∷◌, length, get_or, refl, ap, sym, ◌∙◌, arith, bit_xor, inl, inr, subst, set, length-set, ext_get_or, Contains, cases_eq, cases_lt, same_number_lists, times, power_of_two, byte_of, shard_of, sum_below, IsCodeword, AgreesOutside, Encodes, Fixes, Restores, both_of, column_of, filled, second_of, weight_of, weighted, with_byte, with_data, with_data_and_q, with_pair, without}
use lib.Bits.{xor_lt, xor_zero_l, xor_zero_r, xor_self, xor_comm}
use Rattle.parity72.proofs.Linear.{times-xor_left}
use Rattle.parity72.proofs.Sums.{power-fits, sum-eight, sum-one, sum-same, sum-two, sum-xor, weight-data, weight-fits, weight-p}
use Rattle.parity72.proofs.Codewords.{p_of-same, q_of-same}
use Rattle.parity72.proofs.Corrections.{byte-here, byte-other, set-other, set-same}
use Rattle.parity72.proofs.Errors.{error, error-none, plain, weighted-errors, weighted-one, weighted-two, solved, xor-undone_right}

-- ---- numbers that are not lost
not-one : (a i k : ℕ) → k < 1 → get_or (a ∷ []) k i ≡ i → i ≢ a → ⊥
not-one a i zero lt e na = na (sym e)
not-one a i (suc k) lt e na = absurd (omega arith)

not-two : (a b i k : ℕ) → k < 2 → get_or (a ∷ b ∷ []) k i ≡ i → i ≢ a → i ≢ b → ⊥
not-two a b i zero lt e na nb = na (sym e)
not-two a b i (suc zero) lt e na nb = nb (sym e)
not-two a b i (suc (suc k)) lt e na nb = absurd (omega arith)

pub not-in_one : (a i : ℕ) → i ≢ a → ¬ Contains (a ∷ []) i
not-in_one a i na = λ h. not-one a i h.0 h.1 h.2 na

pub not-in_two : (a b i : ℕ) → i ≢ a → i ≢ b → ¬ Contains (a ∷ b ∷ []) i
not-in_two a b i na nb = λ h. not-two a b i h.0 h.1 h.2 na nb

pub in_first : (a : ℕ) (rest : List ℕ) → Contains (a ∷ rest) a
in_first a rest = (0, omega arith, refl)

in_second : (a b : ℕ) → Contains (a ∷ b ∷ []) b
in_second a b = (1, omega arith, refl)

-- what isn't in a list of two is neither
not-first : (a : ℕ) (rest : List ℕ) (i : ℕ) → ¬ Contains (a ∷ rest) i → i ≢ a
not-first a rest i not e = not (subst (Contains (a ∷ rest)) (sym e) (in_first a rest))

not-second : (a b i : ℕ) → ¬ Contains (a ∷ b ∷ []) i → i ≢ b
not-second a b i not e = not (subst (Contains (a ∷ b ∷ [])) (sym e) (in_second a b))

-- the same lost shards, listed otherwise
restores-listed : (one other : List ℕ) (old new : List (List ℕ)) → ((i : ℕ) → Contains one i → Contains other i) → ((i : ℕ) → Contains other i → Contains one i)
    → Restores one old new → Restores other old new
restores-listed one other old new there back restored =
    record {
      same_count = restored.same_count;
      agrees = λ whole code outside. restored.agrees whole code (λ i lt not. outside i lt (λ h. not (back i h)));
      kept = λ i lt not. restored.kept i lt (λ h. not (there i h));
    }

-- a shard that has each byte of another
same-shard : (new whole : List (List ℕ)) (i : ℕ) → length (shard_of new i) ≡ 4096 → length (shard_of whole i) ≡ 4096
    → ((k : ℕ) → k < 4096 → byte_of new i k ≡ byte_of whole i k) → shard_of new i ≡ shard_of whole i
same-shard new whole i ln lw same =
    same_number_lists (shard_of new i) (shard_of whole i) (ln ∙ sym lw) (λ k lt. same k (omega arith))

-- ---- P and Q written anew
restores-parities : (old new : List (List ℕ)) → Encodes old new 4096 → Restores (7 ∷ 8 ∷ []) old new
restores-parities old new done =
    record {
      same_count = done.same_count;
      agrees = λ whole code outside.
          let sizes : (i : ℕ) → i < 9 → length (shard_of new i) ≡ 4096 = λ i lt. done.same_sizes i ∙ done.was_read i lt (omega arith) in
          let data_is : (k i : ℕ) → i < 7 → byte_of old i k ≡ byte_of whole i k =
          λ k i lt. let np : i ≢ 7 = omega arith in let nq : i ≢ 8 = omega arith in
          ap (λ s. get_or s k 0) (outside i (omega arith) (not-in_two 7 8 i np nq)) in
          λ i lt. elim (cases_eq i 7) [
            | inl e ↦ ap (shard_of new) e
                ∙ same-shard new whole 7 (sizes 7 (omega arith)) (code.sizes 7 (omega arith))
                (λ k small. done.p k small ∙ p_of-same old whole k (data_is k) ∙ sym (code.p k small))
                ∙ ap (shard_of whole) (sym e)
            | inr np ↦ elim (cases_eq i 8) [
              | inl e ↦ ap (shard_of new) e
                  ∙ same-shard new whole 8 (sizes 8 (omega arith)) (code.sizes 8 (omega arith))
                  (λ k small. done.q k small ∙ q_of-same old whole k (data_is k) ∙ sym (code.q k small))
                  ∙ ap (shard_of whole) (sym e)
              | inr nq ↦ done.others i np nq ∙ outside i lt (not-in_two 7 8 i np nq)
            ]
          ];
      kept = λ i lt not. done.others i (not-first 7 (8 ∷ []) i not) (not-second 7 8 i not);
    }

-- ---- shards whose columns are fixed
-- each column of a codeword, and of the shards that agree with it, is fixed to that of the codeword
restores-fixed : (fix : (ℕ → ℕ) → ℕ → ℕ) (lost : List ℕ) (old new : List (List ℕ)) → length old ≡ 9 → Fixes fix old new 0 4096
    → ((i : ℕ) → ¬ Contains lost i → (o : ℕ → ℕ) → fix o i ≡ o i)
    → ((whole : List (List ℕ)) → IsCodeword whole → AgreesOutside lost old whole → (k : ℕ) → k < 4096 → (i : ℕ) → i < 9 → fix (column_of old k) i ≡ byte_of whole i k)
    → Restores lost old new
restores-fixed fix lost old new nine done leaves right =
    record {
      same_count = done.same_count;
      agrees = λ whole code outside i lt.
          same-shard new whole i (done.same_sizes i ∙ done.sizes i (omega arith) (omega arith)) (code.sizes i lt)
          (λ k small. done.fixed i k (omega arith) small ∙ right whole code outside k small i lt);
      kept = λ i lt not.
          same-shard new old i (done.same_sizes i ∙ done.sizes i (omega arith) (omega arith)) (done.sizes i (omega arith) (omega arith))
          (λ k small. done.fixed i k (omega arith) small ∙ leaves i not (column_of old k));
    }

-- ---- a column f, and the column w of a codeword
-- whose data bytes and P add up to nothing, so that those of f add up to its errors
sum-errors : (f w : ℕ → ℕ) → w 7 ≡ plain w → sum_below f 8 ≡ sum_below (error f w) 8
sum-errors f w p_is =
    let nothing : sum_below w 8 ≡ 0 = sum-eight w ∙ ap (bit_xor (plain w)) p_is ∙ xor_self (plain w) in
    sym (xor_zero_r (sum_below f 8)) ∙ ap (bit_xor (sum_below f 8)) (sym nothing) ∙ sym (sum-xor 8 f w)

-- ---- a data shard, and Q
module _ (a : ℕ) (o w : ℕ → ℕ) (lt : a < 7) (p_is : w 7 ≡ plain w) (same : (i : ℕ) → i < 8 → i ≢ a → o i ≡ w i) where
  without-is : (i : ℕ) → i < 8 → i ≢ a → without a 8 o i ≡ w i
  without-is i l ne =
      let nq : i ≢ 8 = omega arith in
      byte-other a 0 (with_byte 8 0 o) i ne ∙ byte-other 8 0 o i nq ∙ same i l ne

  data-is : both_of a 8 o ≡ w a
  data-is =
      let f = without a 8 o in
      sum-errors f w p_is
      ∙ sum-one 8 (error f w) a (omega arith) (λ i l ne. error-none f w i (without-is i l ne))
      ∙ ap (λ x. bit_xor x (w a)) (byte-here a 0 (with_byte 8 0 o) a refl) ∙ xor_zero_l (w a)

  put-back : (column : ℕ → ℕ) (i : ℕ) → (i ≢ a → column i ≡ w i) → with_byte a (both_of a 8 o) column i ≡ w i
  put-back column i else =
      elim (cases_eq i a) [
        | inl e ↦ byte-here a (both_of a 8 o) column i e ∙ data-is ∙ ap w (sym e)
        | inr ne ↦ byte-other a (both_of a 8 o) column i ne ∙ else ne
      ]

  q-is : weighted (filled a 8 o) ≡ weighted w
  q-is =
      sum-same 7 (λ i. times (power_of_two i) (filled a 8 o i)) (λ i. times (power_of_two i) (w i))
      (λ i l. ap (times (power_of_two i)) (put-back (without a 8 o) i (without-is i (omega arith))))

pub restores-data : (a : ℕ) (old new : List (List ℕ)) → length old ≡ 9 → a < 7 → Fixes (with_data a) old new 0 4096 → Restores (a ∷ []) old new
restores-data a old new nine lt done =
    restores-fixed (with_data a) (a ∷ []) old new nine done
    (λ i not o. byte-other a (both_of a 8 o) o i (not-first a [] i not))
    (λ whole code outside k small i li.
    let o = column_of old k in
    let w = column_of whole k in
    let same : (i : ℕ) → i < 9 → i ≢ a → o i ≡ w i = λ i l ne. ap (λ s. get_or s k 0) (outside i l (not-in_one a i ne)) in
    put-back a o w lt (code.p k small) (λ i l ne. same i (omega arith) ne) o i (same i li))

pub restores-data-and-q : (a : ℕ) (old new : List (List ℕ)) → length old ≡ 9 → a < 7 → Fixes (with_data_and_q a) old new 0 4096 → Restores (a ∷ 8 ∷ []) old new
restores-data-and-q a old new nine lt done =
    restores-fixed (with_data_and_q a) (a ∷ 8 ∷ []) old new nine done
    (λ i not o. byte-other 8 (weighted (filled a 8 o)) (with_data a o) i (not-second a 8 i not) ∙ byte-other a (both_of a 8 o) o i (not-first a (8 ∷ []) i not))
    (λ whole code outside k small i li.
    let o = column_of old k in
    let w = column_of whole k in
    let q = weighted (filled a 8 o) in
    let same : (i : ℕ) → i < 8 → i ≢ a → o i ≡ w i = λ i l ne. let nq : i ≢ 8 = omega arith in ap (λ s. get_or s k 0) (outside i (omega arith) (not-in_two a 8 i ne nq)) in
    elim (cases_eq i 8) [
      | inl e ↦ byte-here 8 q (with_data a o) i e ∙ q-is a o w lt (code.p k small) same ∙ sym (code.q k small) ∙ ap w (sym e)
      | inr nq ↦ byte-other 8 q (with_data a o) i nq ∙ put-back a o w lt (code.p k small) same o i (same i (omega arith))
    ])

-- ---- a data shard b, and another or P, which is a
-- without the two, what is left adds up to the two
both-is : (a b : ℕ) (o w : ℕ → ℕ) → a < 8 → b < 8 → a ≢ b → w 7 ≡ plain w → ((i : ℕ) → i < 8 → i ≢ a → i ≢ b → o i ≡ w i) → both_of a b o ≡ bit_xor (w a) (w b)
both-is a b o w la lb ne p_is same =
    let f = without a b o in
    let e = error f w in
    let at_a : e a ≡ w a = ap (λ x. bit_xor x (w a)) (byte-here a 0 (with_byte b 0 o) a refl) ∙ xor_zero_l (w a) in
    let turned : b ≢ a = λ h. ne (sym h) in
    let at_b : e b ≡ w b = ap (λ x. bit_xor x (w b)) (byte-other a 0 (with_byte b 0 o) b turned ∙ byte-here b 0 o b refl) ∙ xor_zero_l (w b) in
    let else : (i : ℕ) → i < 8 → i ≢ a → i ≢ b → e i ≡ 0 =
    λ i l na nb. ap (λ x. bit_xor x (w i)) (byte-other a 0 (with_byte b 0 o) i na ∙ byte-other b 0 o i nb ∙ same i l na nb) ∙ xor_self (w i) in
    sum-errors f w p_is ∙ sum-two 8 e a b la lb ne else ∙ ap (λ x. bit_xor x (e b)) at_a ∙ ap (bit_xor (w a)) at_b

-- with their sum for a and nothing for b, Q is wrong by the sum of their weights times what b was
filled-syndrome : (a b : ℕ) (o w : ℕ → ℕ) → a < 8 → b < 7 → a ≢ b → w 7 ≡ plain w → w 8 ≡ weighted w → w b < 256
    → ((i : ℕ) → i < 9 → i ≢ a → i ≢ b → o i ≡ w i) → bit_xor (weighted (filled a b o)) (o 8) ≡ times (bit_xor (weight_of a) (power_of_two b)) (w b)
filled-syndrome a b o w la lb ne p_is q_is fits same =
    let f = filled a b o in
    let both = both_of a b o in
    let e = error f w in
    let pb = power_of_two b in
    let na8 : 8 ≢ a = omega arith in
    let nb8 : 8 ≢ b = omega arith in
    let turned : b ≢ a = λ h. ne (sym h) in
    let at_a : e a ≡ w b =
    ap (λ x. bit_xor x (w a)) (byte-here a both (without a b o) a refl ∙ both-is a b o w la (omega arith) ne p_is (λ i l na nb. same i (omega arith) na nb) ∙ xor_comm (w a) (w b))
    ∙ xor-undone_right (w b) (w a) in
    let at_b : e b ≡ w b =
    ap (λ x. bit_xor x (w b)) (byte-other a both (without a b o) b turned ∙ byte-other a 0 (with_byte b 0 o) b turned ∙ byte-here b 0 o b refl) ∙ xor_zero_l (w b) in
    let else : (i : ℕ) → i < 9 → i ≢ a → i ≢ b → e i ≡ 0 =
    λ i l na nb. ap (λ x. bit_xor x (w i)) (byte-other a both (without a b o) i na ∙ byte-other a 0 (with_byte b 0 o) i na ∙ byte-other b 0 o i nb ∙ same i l na nb) ∙ xor_self (w i) in
    let of_errors : bit_xor (weighted f) (o 8) ≡ weighted e =
    ap (bit_xor (weighted f)) (same 8 (omega arith) na8 nb8 ∙ q_is) ∙ weighted-errors f w in
    of_errors ∙ elim (cases_lt a 7) [
      | inl l ↦
          weighted-two e a b l lb ne (λ i small na nb. else i (omega arith) na nb)
          ∙ ap (λ x. bit_xor (times (power_of_two a) x) (times pb (e b))) at_a
          ∙ ap (λ x. bit_xor (times (power_of_two a) (w b)) (times pb x)) at_b
          ∙ sym (times-xor_left (power_of_two a) pb (w b) (power-fits a) (power-fits b))
          ∙ ap (λ x. times (bit_xor x pb) (w b)) (sym (weight-data a l))
      | inr r ↦
          let not_a : (i : ℕ) → i < 7 → i ≢ a = λ i small h. absurd (omega arith) in
          weighted-one e b lb (λ i small nb. else i (omega arith) (not_a i small) nb)
          ∙ ap (times pb) at_b
          ∙ ap (λ x. times x (w b)) (sym (xor_zero_l pb) ∙ ap (λ x. bit_xor x pb) (sym (weight-p a r)))
    ]

pair-fixed : (a b by : ℕ) (o w : ℕ → ℕ) → a < 8 → b < 7 → a ≢ b → by < 256 → times by (bit_xor (weight_of a) (power_of_two b)) ≡ 1
    → w 7 ≡ plain w → w 8 ≡ weighted w → w b < 256
    → ((i : ℕ) → i < 9 → i ≢ a → i ≢ b → o i ≡ w i) → (i : ℕ) → i < 9 → with_pair a b by o i ≡ w i
pair-fixed a b by o w la lb ne ly factor p_is q_is fits same i li =
    let both = both_of a b o in
    let second = second_of a b by o in
    let sum = bit_xor (weight_of a) (power_of_two b) in
    let sum_fits : sum < 256 = xor_lt 8 (weight_of a) (power_of_two b) (weight-fits a) (power-fits b) in
    let second_is : second ≡ w b = ap (times by) (filled-syndrome a b o w la lb ne p_is q_is fits same) ∙ solved sum by (w b) sum_fits ly fits factor in
    let first_is : bit_xor both second ≡ w a =
    ap (λ x. bit_xor x second) (both-is a b o w la (omega arith) ne p_is (λ i l na nb. same i (omega arith) na nb))
    ∙ ap (bit_xor (bit_xor (w a) (w b))) second_is ∙ xor-undone_right (w a) (w b) in
    elim (cases_eq i a) [
      | inl h ↦ byte-here a (bit_xor both second) (with_byte b second o) i h ∙ first_is ∙ ap w (sym h)
      | inr na ↦ byte-other a (bit_xor both second) (with_byte b second o) i na ∙ elim (cases_eq i b) [
        | inl h ↦ byte-here b second o i h ∙ second_is ∙ ap w (sym h)
        | inr nb ↦ byte-other b second o i nb ∙ same i li na nb
      ]
    ]

pub restores-pair : (a b by : ℕ) (old new : List (List ℕ)) → length old ≡ 9 → a < 8 → b < 7 → a ≢ b → by < 256 → times by (bit_xor (weight_of a) (power_of_two b)) ≡ 1
    → Fixes (with_pair a b by) old new 0 4096 → Restores (a ∷ b ∷ []) old new
restores-pair a b by old new nine la lb ne ly factor done =
    restores-fixed (with_pair a b by) (a ∷ b ∷ []) old new nine done
    (λ i not o. byte-other a (bit_xor (both_of a b o) (second_of a b by o)) (with_byte b (second_of a b by o) o) i (not-first a (b ∷ []) i not)
    ∙ byte-other b (second_of a b by o) o i (not-second a b i not))
    (λ whole code outside k small i li.
    pair-fixed a b by (λ i. byte_of old i k) (λ i. byte_of whole i k) la lb ne ly factor (code.p k small) (code.q k small) (code.bytes b k (omega arith) small)
    (λ i l na nb. ap (λ s. get_or s k 0) (outside i l (not-in_two a b i na nb))) i li)

-- ---- the whole
pub restored-whole : (lost : List ℕ) (old new : List (List ℕ)) → length old ≡ 9 → Restores lost old new
    → (whole : List (List ℕ)) → IsCodeword whole → AgreesOutside lost old whole → new ≡ whole
restored-whole lost old new nine restored whole code outside =
    ext_get_or [] new whole (restored.same_count ∙ nine ∙ sym code.count)
    (λ i lt. restored.agrees whole code outside i (omega (arith, restored.same_count)))

pub restores-nothing : (old : List (List ℕ)) → Restores [] old old
restores-nothing old = record { same_count = refl; agrees = λ whole code outside i lt. outside i lt (λ h. absurd (omega (arith, h.1))); kept = λ i lt not. refl }

-- ---- the lost numbers in another order, or one of them
only-at : (a i k : ℕ) → k < 1 → get_or (a ∷ []) k i ≡ i → i ≡ a
only-at a i zero lt e = sym e
only-at a i (suc k) lt e = absurd (omega arith)

only : (a i : ℕ) → Contains (a ∷ []) i → i ≡ a
only a i h = only-at a i h.0 h.1 h.2

either-at : (a b i k : ℕ) → k < 2 → get_or (a ∷ b ∷ []) k i ≡ i → Contains (b ∷ a ∷ []) i
either-at a b i zero lt e = (1, omega arith, e)
either-at a b i (suc zero) lt e = (0, omega arith, e)
either-at a b i (suc (suc k)) lt e = absurd (omega arith)

pub restores-turned : (a b : ℕ) (old new : List (List ℕ)) → Restores (a ∷ b ∷ []) old new → Restores (b ∷ a ∷ []) old new
restores-turned a b old new restored = restores-listed (a ∷ b ∷ []) (b ∷ a ∷ []) old new (λ i h. either-at a b i h.0 h.1 h.2) (λ i h. either-at b a i h.0 h.1 h.2) restored

pub restores-two-parities : (i j : ℕ) (old new : List (List ℕ)) → 7 ≤ i → i < 9 → 7 ≤ j → j < 9 → i ≢ j → Encodes old new 4096 → Restores (i ∷ j ∷ []) old new
restores-two-parities i j old new fi ti fj tj ne done =
    let restored = restores-parities old new done in
    elim (cases_eq i 7) [
      | inl e ↦
          let f : j ≡ 8 = omega arith in
          subst (λ a. Restores (a ∷ j ∷ []) old new) (sym e) (subst (λ b. Restores (7 ∷ b ∷ []) old new) (sym f) restored)
      | inr other ↦
          let e : i ≡ 8 = omega arith in
          let f : j ≡ 7 = omega arith in
          subst (λ a. Restores (a ∷ j ∷ []) old new) (sym e) (subst (λ b. Restores (8 ∷ b ∷ []) old new) (sym f) (restores-turned 7 8 old new restored))
    ]

-- one of two, where the other is put back
pub restores-but : (i other : ℕ) (old mid : List (List ℕ)) → length old ≡ 9 → other < 9 → i ≢ other → Restores (i ∷ other ∷ []) old mid
    → Restores (i ∷ []) old (set mid other (shard_of old other))
restores-but i other old mid nine lt ne restored =
    let s = shard_of old other in
    let turned : other ≢ i = λ e. ne (sym e) in
    let back : shard_of (set mid other s) other ≡ s = set-same mid other s (omega (arith, restored.same_count)) in
    record {
      same_count = length-set mid other s ∙ restored.same_count;
      agrees = λ whole code outside j lj. elim (cases_eq j other) [
        | inl e ↦ ap (shard_of (set mid other s)) e ∙ back ∙ outside other lt (not-in_one i other turned) ∙ ap (shard_of whole) (sym e)
        | inr apart ↦ set-other mid other j s apart ∙ restored.agrees whole code (λ k lk not. outside k lk (not-in_one i k (not-first i (other ∷ []) k not))) j lj
      ];
      kept = λ j lj not. elim (cases_eq j other) [
        | inl e ↦ ap (shard_of (set mid other s)) e ∙ back ∙ ap (shard_of old) (sym e)
        | inr apart ↦ set-other mid other j s apart ∙ restored.kept j lj (not-in_two i other j (not-first i [] j not) apart)
      ];
    }

-- ---- a list by its length
pub none-listed : (l : List ℕ) → length l < 1 → l ≡ []
none-listed [] lt = refl
none-listed (a ∷ l) lt = absurd (omega arith)

pub one-listed : (l : List ℕ) → 1 ≤ length l → length l < 2 → l ≡ get_or l 0 0 ∷ []
one-listed [] le lt = absurd (omega arith)
one-listed (a ∷ []) le lt = refl
one-listed (a ∷ b ∷ l) le lt = absurd (omega arith)

pub two-listed : (l : List ℕ) → 2 ≤ length l → length l ≤ 2 → l ≡ get_or l 0 0 ∷ get_or l 1 0 ∷ []
two-listed [] le lt = absurd (omega arith)
two-listed (a ∷ []) le lt = absurd (omega arith)
two-listed (a ∷ b ∷ []) le lt = refl
two-listed (a ∷ b ∷ c ∷ l) le lt = absurd (omega arith)
