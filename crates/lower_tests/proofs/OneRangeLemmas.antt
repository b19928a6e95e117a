-- A table that has taken in its first range.
use Rattle.lower_tests.proofs.Prelude.{◌≡◌, ◌↔◌, ◌⊎◌, ℕ, zero, suc, ◌<◌, Bool, true, false, List, [], ◌∷◌, ◌++◌, length, get_or, lit<, sym, subst, ◌∙◌, arith, inl, inr, All, Contains, Some, None, ◌==◌, if◌then◌else◌, option_and_then, id_of, key_of, unless_empty, facts_of, nowhere, all_contained, All-contains}
use Rattle.std.specs.Option.{option_or}
use Rattle.array_spec.specs.Prelude.{MediumFact, is_empty_range, medium_key}
use Rattle.medium_table.specs.Prelude.{range_from, AreDisjoint, AreDescending}

module _ (facts : List MediumFact) (elided : ℕ → Bool) (r : MediumFact) (same : (medium start : ℕ) → range_from facts elided medium start ≡ option_or (range_from (r ∷ []) elided medium start) (range_from [] elided medium start)) where
  -- it is the only one that is visible
  pub only_range : (medium start : ℕ) (x : MediumFact) → range_from facts elided medium start ≡ Some x → x ≡ r
  only_range medium start x e = one (elided (id_of (key_of medium start))) (medium_key r == key_of medium start) (sym (same medium start) ∙ e)
    where
      two : (b : Bool) → option_or (if b then None else Some r) None ≡ Some x → x ≡ r
      two true e = cc
      two false e = cc

      one : (w h : Bool) → option_or (if w then None else option_and_then (unless_empty is_empty_range) (if h then Some r else None)) (if w then None else None) ≡ Some x → x ≡ r
      one true h e = cc
      one false false e = cc
      one false true e = two (is_empty_range r) e

  pub one_disjoint : (medium : ℕ) → r.start < r.end → AreDisjoint facts elided medium
  one_disjoint medium whole = record {
    whole = λ x e. subst (λ (y : MediumFact). y.start < y.end) (sym (only_range medium x.start x e)) whole;
    apart = λ sector x y a b. only_range medium x.start x a.there ∙ sym (only_range medium y.start y b.there);
  }

  pub one_descending : r.target.0 < r.medium.0 → r.medium.0 < 18446744073709551616 → r.start < 18446744073709551616 → AreDescending facts elided
  one_descending down medium start = record {
    down = λ x v. subst (λ (y : MediumFact). y.target.0 < y.medium.0) (sym (only_range x.medium.0 x.start x v)) down;
    mediums = λ x v. subst (λ (y : MediumFact). y.medium.0 < 18446744073709551616) (sym (only_range x.medium.0 x.start x v)) medium;
    starts = λ x v. subst (λ (y : MediumFact). y.start < 18446744073709551616) (sym (only_range x.medium.0 x.start x v)) start;
  }

-- all facts of a table that has no others
pub all_taken : (P : MediumFact → Type 0) (ps : List (List MediumFact)) (us old run : List MediumFact) → ps ≡ [] → old ≡ [] → ((f : MediumFact) → Contains us f ↔ (Contains old f ⊎ Contains run f))
    → All P run → All P (facts_of ps ++ us)
all_taken P ps us old run none empty taken all =
    rw none (all_contained P us (λ f c. elim ((taken f).0 c) [ inl a ↦ absurd (nowhere f (rw empty at a)) | inr b ↦ All-contains P run f all b ]))

-- the range that the tests take in
abbrev pub first_range : MediumFact
first_range = record { medium = record { 0 = 7 }; start = 4; end = 8; target = record { 0 = 2 }; target_start = 20; seq = record { 0 = 10 } }

pub first_number : (k : ℕ) (d : MediumFact) → k < length (first_range ∷ []) → (get_or (first_range ∷ []) k d).seq.0 < 11
first_number zero d l = lit< tt
first_number (suc k) d l = absurd (omega (arith, l))
