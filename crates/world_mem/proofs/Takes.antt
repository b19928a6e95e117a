-- The first bytes of what is left.
use Rattle.world_mem.proofs.Prelude.{◌≡◌, ◌⊎◌, inl, inr, ℕ, ◌+◌, ◌-◌, ◌<◌, ◌≤◌, min, List, [], ◌++◌, length, take, drop, sym, ◌∙◌, ap, arith, length-drop, take-append-drop, drop-drop, take_all, nil_from_length, cases_lt}

pub the_rest : (input : List ℕ) (taken : ℕ) (from : List ℕ) → from ≡ input → take (length from - taken) (drop taken from) ≡ drop taken input
the_rest input taken from is = ap (λ (l : List ℕ). take (length l - taken) (drop taken l)) is ∙ take_all (length input - taken) (drop taken input) (omega (arith, length-drop taken input))

pub took : (input into : List ℕ) (taken n : ℕ) → take n into ≡ take n (drop taken input) → take n into ++ drop (taken + n) input ≡ drop taken input
took input into taken n copied =
    ap (λ (l : List ℕ). l ++ drop (taken + n) input) copied ∙ ap (λ (l : List ℕ). take n (drop taken input) ++ l) (sym (drop-drop n taken input)) ∙ take-append-drop n (drop taken input)

-- what was taken is no longer left
pub told : (input : List ℕ) (taken n : ℕ) → n ≤ length (drop taken input) → taken + n + length (drop (taken + n) input) ≡ taken + length (drop taken input)
told input taken n inside = omega (arith, length-drop taken input, length-drop (taken + n) input, inside)

-- nothing is copied where there is no room, or nothing
pub none : (from into : List ℕ) (n most : ℕ) → n ≡ min (min (length into) (length from)) most → 0 < most → n ≡ 0 → (into ≡ []) ⊎ (from ≡ [])
none from into n most least some zero_n = elim (cases_lt (length into) 1) [
  | inl no_room ↦ inl (nil_from_length into (omega (arith, no_room)))
  | inr room ↦ inr (nil_from_length from (omega (arith, room, least, some, zero_n)))
]
