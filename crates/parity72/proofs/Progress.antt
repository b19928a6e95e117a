-- A loop that writes a slice from its front.
use Rattle.parity72.proofs.Prelude.{◌≡◌, ℕ, ◌+◌, ◌-◌, ◌<◌, ◌≤◌, List, get_or, arith, subst, inl, inr, cases_lt}

-- below `at` each byte is what `done` says, and from there on it is what it was
pub record ChangedBelow (done : ℕ → ℕ) (old now : List ℕ) (at : ℕ) : Type 0 where
  pub before : (k : ℕ) → k < at → get_or now k 0 ≡ done k
  pub after : (k : ℕ) → at ≤ k → get_or now k 0 ≡ get_or old k 0

back : (at k : ℕ) → at ≤ k → at + (k - at) ≡ k
back at k le = omega arith

-- what holds below `at`, and of the n places from there on, holds below `at + n`
pub below_block : (P : ℕ → Type 0) (at n : ℕ) → ((k : ℕ) → k < at → P k) → ((k : ℕ) → k < n → P (at + k)) → (k : ℕ) → k < at + n → P k
below_block P at n low here k lt =
    elim (cases_lt k at) [ inl l ↦ low k l | inr r ↦ subst P (back at k r) (here (k - at) (omega arith)) ]
