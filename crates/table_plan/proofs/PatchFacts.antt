-- Facts of one table as those that a patch may hold.
use Rattle.std.proofs.lemmas.Bool.Decides.{nat_tests}
use Rattle.table_plan.proofs.Prelude.{◌≡◌, ℕ, suc, ◌<◌, ◌≤◌, List, [], ◌∷◌, map, refl, sym, ap, ◌∙◌, arith, inl, inr, subst, Contains, any_key, table_tag, Ascends, Location, Target, Stored, Zero, AddressFact, AnyFact, IsFact, IsLawful, IsTarget, all_contained, ascends-cons, ascends-nil, FitsTarget, FitsInMemory, each_by_recursion, of_map, ArePatchFacts}
use Rattle.pur_base.specs.declared.facts.AnyFact.TheVariants as any
use Rattle.fact_codec.specs.Fact as fact

module _ {F : Type 0} (any : F → AnyFact) (key : F → ℕ) (same : (f : F) → any_key (any f) ≡ key f) where
  ascend_as_any : (fs : List F) → Ascends key fs → Ascends any_key (map any fs)
  ascend_as_any [] up = ascends-nil any_key
  ascend_as_any (f ∷ fs) up = ascends-cons any_key (any f) (map any fs)
      (all_contained (λ g. any_key (any f) < any_key g) (map any fs) (λ g c. let w = of_map any fs g c in above w.0 w.1 g w.2))
      (ascend_as_any fs (λ i j d l m. up (suc i) (suc j) d (omega (arith, l)) (omega (arith, m))))
    where
      above : (h : F) → Contains fs h → (g : AnyFact) → g ≡ any h → any_key (any f) < any_key g
      above h c g e =
          let less : key f < key h = subst (λ z. key f < key z) c.2 (up 0 (suc c.0) h (omega arith) (let l = c.1 in omega (arith, l))) in
          let to : any_key g ≡ key h = ap any_key e ∙ same h in
          omega (arith, less, to, same f)

  -- facts that have a spelling, in order of keys
  pub patch_facts_are : (tag : ℕ) → ((f : F) → table_tag (any f) ≡ tag) → (fs : List F) → Ascends key fs → ((f : F) → Contains fs f → IsFact (any f)) → ArePatchFacts tag (map any fs)
  patch_facts_are tag tagged fs up each = record {
    each = each_by_recursion IsFact (map any fs) (λ g c. is g c);
    lawful = each_by_recursion IsLawful (map any fs) (λ g c. (is g c).lawful);
    table = each_by_recursion (λ g. table_tag g ≡ tag) (map any fs) (λ g c. let w = of_map any fs g c in ap table_tag w.2 ∙ tagged w.0);
    ascending = ascend_as_any fs up;
  }
    where
      is : (g : AnyFact) → Contains (map any fs) g → IsFact g
      is g c = let w = of_map any fs g c in subst (λ z. IsFact z) (sym w.2) (each w.0 w.1)

-- an address of memory that names no staged sector is one that a patch may have
pub stored_is_fact : (staged : ℕ) (f : AddressFact) → ((at : Location) → f.target ≡ Stored at → 1 ≤ at.segment.0) → FitsInMemory staged (any.Address f) → IsFact (any.Address f)
stored_is_fact staged f stored fits = grind (arith, nat_tests)
  where
    target : (t : Target) → ((at : Location) → t ≡ Stored at → 1 ≤ at.segment.0) → FitsTarget staged t → IsTarget t × fact.FitsTarget t
    target Zero some h = (tt, tt)
    target (Stored at) some (inl none) = let first = some at refl in let l = none.0 in absurd (omega (arith, first, l))
    target (Stored at) some (inr h) = let a = h.0 in let b = h.1 in let c = h.2 in (((a, b), c), (omega (arith, b), omega (arith, c)))
