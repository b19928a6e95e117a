-- Marks of the keys of a patch.
use Rattle.pyramid.proofs.Prelude.{◌≡◌, ◌⊎◌, ℕ, ◌+◌, ◌/◌, ◌<◌, true, false, Bool, List, length, get_or, set, get_or-set_same, get_or-set_other, sym, subst, ◌∙◌, arith, inl, inr, None, cases_eq, false≢true, newest_of, ◌≤◌, Contains-get_or}
use Rattle.std.proofs.Common.{◌%◌}
use Rattle.std.specs.Int.{div_ceil}
use Rattle.std.proofs.lemmas.Grind.{div_ceil_times}
use Rattle.pyramid.specs.Marks.{group_of, mark_of, AreMarked}
use Rattle.pyramid.proofs.WalkLemmas.{none_of}

-- a mark more
pub set_marked : (marks : List Bool) (m n : ℕ) → m < length marks → (get_or marks n false ≡ true) ⊎ (n ≡ m) → get_or (set marks m true) n false ≡ true
set_marked marks m n l h = elim (cases_eq n m) [
  | inl same ↦ rw same (get_or-set_same marks m true false l)
  | inr other ↦ elim h [
    | inl was ↦ get_or-set_other marks m n true false other ∙ was
    | inr same ↦ absurd (other same)
  ]
]

-- the group of a key that stands so far behind another one
pub group_behind : (from i : ℕ) → group_of (from + i) ≡ group_of from + (from % 64 + i) / 64
group_behind from i = omega arith

-- a key of a run is of one of its groups
pub within_groups : (start i len groups count : ℕ) → i < len → groups ≡ div_ceil (start + len) 64 → groups ≤ count → (start + i) / 64 < count
within_groups start i len groups count l is within = let over = (div_ceil_times (start + len) 64 (omega arith)).0 in omega (arith, l, is, within, over)

-- of a key without a mark the patch has no fact
pub unmarked : {F : Type 0} (key number : F → ℕ) (facts : List F) (marks : List Bool) (k : ℕ) → AreMarked key facts marks → get_or marks (mark_of (group_of k)) false ≡ false → newest_of key number k facts ≡ None
unmarked key number facts marks k h none = none_of key number k facts (λ i d l same.
    let set : get_or marks (mark_of (group_of k)) false ≡ true = subst (λ n. get_or marks (mark_of (group_of n)) false ≡ true) same (h (get_or facts i d) (Contains-get_or facts i d l)) in
    absurd (false≢true (sym none ∙ set)))
