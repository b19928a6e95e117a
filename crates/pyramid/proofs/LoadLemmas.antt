-- What is asked of patches that are loaded.
use Rattle.pyramid.proofs.Prelude.{nat_tests, ◌≡◌, ℕ, zero, suc, ◌<◌, ◌≤◌, List, [], ◌∷◌, ◌++◌, length, get_or, take, refl, arith, inl, inr, All, Some, cases_lt, All-contains, Ascends, facts_of, AreBelow, Rises, IsPast, either, nowhere, all_contained, below_at, all_below, rises_with}
use Rattle.pyramid.proofs.PlaceLemmas.{rises_flushed}
use Rattle.pyramid.proofs.SpanLemmas.{below_next}

pub all_one : {X : Type 0} (P : X → Type 0) (x : X) → P x → All P (x ∷ [])
all_one P x h = all_contained P (x ∷ []) (λ y c. elim (either x y [] c) [ inl same ↦ rw same h | inr z ↦ absurd (nowhere y z) ])

module _ {F : Type 0} (key : F → ℕ) where
  -- of the first facts each is below the next one
  abbrev pub AreUp : List F → ℕ → Type 0
  AreUp fs n = (j : ℕ) (d : F) → suc j < n → key (get_or fs j d) < key (get_or fs (suc j) d)

  pub from_neighbours : (fs : List F) → AreUp fs (length fs) → Ascends key fs
  from_neighbours fs up i j d low l = go j low l
    where
      go : (j : ℕ) → i < j → j < length fs → key (get_or fs i d) < key (get_or fs j d)
      go zero low l = absurd (omega (arith, low))
      go (suc j) low l = elim (cases_lt i j) [
        | inl under ↦ let a = go j under (omega (arith, l)) in let b = up j d l in omega (arith, a, b)
        | inr over ↦ let is : i ≡ j = omega (arith, low, over) in rw is (up j d l)
      ]

module _ {F : Type 0} (number : F → ℕ) where
  pub past_none : IsPast number [] 0
  past_none = record { above = λ i d l. absurd (omega (arith, l)); least = inl refl }

  -- a patch more, of no number below the others'
  pub rises_more : (ps : List (List F)) (p : List F) (past : ℕ) → IsPast number (facts_of ps) past → All (λ f. past ≤ number f) p → Rises number ps [] → Rises number (ps ++ p ∷ []) []
  rises_more ps p past h from rises = rises_flushed number ps p (Some p) (rises_with number ps [] p rises below) (λ f c. c)
    where
      below : AreBelow number (facts_of ps) p
      below = all_below number (facts_of ps) p (λ f g c d.
          let a = All-contains (λ f. number f < past) (facts_of ps) f h.above c in
          let b = All-contains (λ f. past ≤ number f) p g from d in
          omega (arith, a, b))

  -- where numbers rise, no patch has one below those in front
  pub rises_from : (key : F → ℕ) (ps : List (List F)) (i : ℕ) (p : List F) (past : ℕ) → i < length ps → p ≡ get_or ps i p → IsPast number (facts_of (take i ps)) past → Rises number ps []
      → All (λ f. past ≤ number f) p
  rises_from key ps i p past l is h rises = grind (arith, nat_tests, all_contained, below_at, below_next)
