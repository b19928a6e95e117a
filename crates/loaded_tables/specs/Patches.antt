-- What holds of all facts holds of those of a patch.
use Rattle.std.proofs.Common.{◌≡◌, ℕ, zero, suc, ◌<◌, List, [], ◌∷◌, length, get_or, subst, arith, All, Contains}
use Rattle.std.proofs.lemmas.List.Elements.{All-contains, Contains-append_left, Contains-append_right}
use Rattle.pyramid.specs.Prelude.{facts_of, all_contained}

module _ {F : Type 0} where
  pub contains_patch : (ps : List (List F)) (i : ℕ) (p : List F) (f : F) → i < length ps → p ≡ get_or ps i p → Contains p f → Contains (facts_of ps) f
  contains_patch [] i p f l is c = absurd (omega (arith, l))
  contains_patch (q ∷ ps) zero p f l is c = Contains-append_left q (facts_of ps) f (subst (λ x. Contains x f) is c)
  contains_patch (q ∷ ps) (suc i) p f l is c = Contains-append_right q (facts_of ps) f (contains_patch ps i p f (omega (arith, l)) is c)

  pub all_of_patch : (P : F → Type 0) (ps : List (List F)) (i : ℕ) (p : List F) → i < length ps → p ≡ get_or ps i p → All P (facts_of ps) → All P p
  all_of_patch P ps i p l is h = all_contained P p (λ f c. All-contains P (facts_of ps) f h (contains_patch ps i p f l is c))
