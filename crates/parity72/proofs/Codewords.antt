-- P and Q of shards that agree, and what it takes to be a codeword.
use Rattle.parity72.proofs.Prelude.{◌≡◌, ℕ, ◌+◌, ◌<◌, List, [], ◌∷◌, ◌++◌, length, get_or, ap, sym, ◌∙◌, arith, inl, inr, subst, length-append, cases_lt, get_or_append_left, get_or-append_right, power_of_two, times, byte_of, shard_of, p_of, q_of, IsCodeword, IsRead}
use Rattle.parity72.proofs.Linear.{times-fits}
use Rattle.parity72.proofs.Sums.{sum-same, sum-fits, power-fits}

pub p_of-same : (a b : List (List ℕ)) (k : ℕ) → ((i : ℕ) → i < 7 → byte_of a i k ≡ byte_of b i k) → p_of a k ≡ p_of b k
p_of-same a b k h = sum-same 7 (λ i. byte_of a i k) (λ i. byte_of b i k) h

pub q_of-same : (a b : List (List ℕ)) (k : ℕ) → ((i : ℕ) → i < 7 → byte_of a i k ≡ byte_of b i k) → q_of a k ≡ q_of b k
q_of-same a b k h =
    sum-same 7 (λ i. times (power_of_two i) (byte_of a i k)) (λ i. times (power_of_two i) (byte_of b i k)) (λ i lt. ap (times (power_of_two i)) (h i lt))

p_of-fits : (a : List (List ℕ)) (k : ℕ) → ((i : ℕ) → i < 7 → byte_of a i k < 256) → p_of a k < 256
p_of-fits a k h = sum-fits 7 (λ i. byte_of a i k) h

q_of-fits : (a : List (List ℕ)) (k : ℕ) → q_of a k < 256
q_of-fits a k = sum-fits 7 (λ i. times (power_of_two i) (byte_of a i k)) (λ i lt. times-fits (power_of_two i) (byte_of a i k) (power-fits i))

-- ---- seven data shards, with P and Q behind them
with_data : (d : List (List ℕ)) (p q : List ℕ) → length d ≡ 7 → (i : ℕ) → i < 7 → shard_of (d ++ p ∷ q ∷ []) i ≡ shard_of d i
with_data d p q seven i lt = get_or_append_left d (p ∷ q ∷ []) [] i (omega arith)

with_p : (d : List (List ℕ)) (p q : List ℕ) → length d ≡ 7 → shard_of (d ++ p ∷ q ∷ []) 7 ≡ p
with_p d p q seven = get_or-append_right d (p ∷ q ∷ []) 7 7 [] seven (omega arith)

with_q : (d : List (List ℕ)) (p q : List ℕ) → length d ≡ 7 → shard_of (d ++ p ∷ q ∷ []) 8 ≡ q
with_q d p q seven = get_or-append_right d (p ∷ q ∷ []) 7 8 [] seven (omega arith)

-- what holds of each of the data shards, of P and of Q, holds of each of the nine
of_nine : (X : List ℕ → Type 0) (d : List (List ℕ)) (p q : List ℕ) → length d ≡ 7
    → ((i : ℕ) → i < 7 → X (shard_of d i)) → X p → X q → (i : ℕ) → i < 9 → X (shard_of (d ++ p ∷ q ∷ []) i)
of_nine X d p q seven data_is p_is q_is i lt =
    elim (cases_lt i 7) [
      | inl l ↦ subst X (sym (with_data d p q seven i l)) (data_is i l)
      | inr r ↦ elim (cases_lt i 8) [
        | inl m ↦ let e : 7 ≡ i = omega arith in subst (λ j. X (shard_of (d ++ p ∷ q ∷ []) j)) e (subst X (sym (with_p d p q seven)) p_is)
        | inr m ↦ let e : 8 ≡ i = omega arith in subst (λ j. X (shard_of (d ++ p ∷ q ∷ []) j)) e (subst X (sym (with_q d p q seven)) q_is)
      ]
    ]

pub IsCodeword-encoded : (d : List (List ℕ)) (p q : List ℕ) → length d ≡ 7 → length p ≡ 4096 → length q ≡ 4096 → IsRead 7 d 0 4096
    → ((k : ℕ) → k < 4096 → get_or p k 0 ≡ p_of d k) → ((k : ℕ) → k < 4096 → get_or q k 0 ≡ q_of d k) → IsCodeword (d ++ p ∷ q ∷ [])
IsCodeword-encoded d p q seven lp lq read p_is q_is =
    let nine = d ++ p ∷ q ∷ [] in
    let same : (k i : ℕ) → i < 7 → byte_of nine i k ≡ byte_of d i k = λ k i lt. ap (λ s. get_or s k 0) (with_data d p q seven i lt) in
    record {
      count = length-append d (p ∷ q ∷ []) ∙ ap (λ n. n + 2) seven;
      sizes = λ i lt. of_nine (λ s. length s ≡ 4096) d p q seven (λ i small. read.sizes i (omega arith) (omega arith)) lp lq i lt;
      bytes = λ i k lt small. of_nine (λ s. get_or s k 0 < 256) d p q seven (λ i l. read.bytes i k l (omega arith) small)
          (subst (λ x. x < 256) (sym (p_is k small)) (p_of-fits d k (λ i l. read.bytes i k l (omega arith) small)))
          (subst (λ x. x < 256) (sym (q_is k small)) (q_of-fits d k)) i lt;
      p = λ k lt. ap (λ s. get_or s k 0) (with_p d p q seven) ∙ p_is k lt ∙ sym (p_of-same nine d k (same k));
      q = λ k lt. ap (λ s. get_or s k 0) (with_q d p q seven) ∙ q_is k lt ∙ sym (q_of-same nine d k (same k));
    }

-- up to `mid`, and from there on
pub IsRead-more : (n : ℕ) (shards : List (List ℕ)) (mid to : ℕ) → IsRead n shards 0 mid → IsRead n shards mid to → mid < to → IsRead n shards 0 to
IsRead-more n shards mid to done more some =
    record {
      sizes = λ i lt _. more.sizes i lt some;
      bytes = λ i k lt from upto. elim (cases_lt k mid) [ inl l ↦ done.bytes i k lt from l | inr r ↦ more.bytes i k lt r upto ];
    }
