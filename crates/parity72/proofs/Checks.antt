-- Tests of every number below a bound, which compute.
use Rattle.parity72.proofs.Prelude.{◌≡◌, ℕ, zero, suc, ◌<◌, Bool, true, false, ◌&&◌, refl, arith, subst, inl, inr, cases_lt, false≢true}

abbrev pub all_below : (ℕ → Bool) → ℕ → Bool
all_below f zero = true
all_below f (suc n) = f n && all_below f n

and_left : (a b : Bool) → (a && b) ≡ true → a ≡ true
and_left true b h = refl
and_left false b h = absurd (false≢true h)

and_right : (a b : Bool) → (a && b) ≡ true → b ≡ true
and_right true b h = h
and_right false b h = absurd (false≢true h)

-- a test that passed below n passes at each number below n
pub all_below-at : (f : ℕ → Bool) (n : ℕ) → all_below f n ≡ true → (k : ℕ) → k < n → f k ≡ true
all_below-at f zero h k lt = absurd (omega arith)
all_below-at f (suc n) h k lt =
    elim (cases_lt k n) [
      | inl l ↦ all_below-at f n (and_right (f n) (all_below f n) h) k l
      | inr r ↦ let e : n ≡ k = omega arith in subst (λ m. f m ≡ true) e (and_left (f n) (all_below f n) h)
    ]
