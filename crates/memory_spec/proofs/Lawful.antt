-- The facts of patches are lawful, and so are those of each table.
use Rattle.memory_spec.proofs.Prelude.{arith, ◌≡◌, List, [], ◌∷◌, refl, inl, inr, subst, All, Contains, Some, slice_get, nat_tests, AllZip, All-contains, Contains-append_cases, slice_get-get_or, View, by_table, as_medium, as_segment, MediumFact, SegmentFact, AnyFact, Patch, IsFact, PatchStands, in_patches, same_some, nowhere, all_contained, of_filter_map}
use Rattle.pur_base.specs.declared.facts.AnyFact.TheVariants as any

-- ---- of each table

module _ (fs : List AnyFact) (lawful : All IsFact fs) where
  pub medium_lawful : (f : MediumFact) → Contains (by_table fs).mediums f → IsFact (any.Medium f)
  medium_lawful f c = let w = of_filter_map as_medium fs f c in is w.0 (All-contains IsFact fs w.0 lawful w.1) w.2
    where
      is : (a : AnyFact) → IsFact a → as_medium a ≡ Some f → IsFact (any.Medium f)
      is (any.Object g) l e = absurd (cc e)
      is (any.Medium g) l e = subst (λ z. IsFact (any.Medium z)) (same_some (Some g) refl e) l
      is (any.Address g) l e = absurd (cc e)
      is (any.Segment g) l e = absurd (cc e)
      is (any.Elision g) l e = absurd (cc e)

  pub segment_lawful : (f : SegmentFact) → Contains (by_table fs).segments f → IsFact (any.Segment f)
  segment_lawful f c = let w = of_filter_map as_segment fs f c in is w.0 (All-contains IsFact fs w.0 lawful w.1) w.2
    where
      is : (a : AnyFact) → IsFact a → as_segment a ≡ Some f → IsFact (any.Segment f)
      is (any.Object g) l e = absurd (cc e)
      is (any.Medium g) l e = absurd (cc e)
      is (any.Address g) l e = absurd (cc e)
      is (any.Segment g) l e = subst (λ z. IsFact (any.Segment z)) (same_some (Some g) refl e) l
      is (any.Elision g) l e = absurd (cc e)

-- ---- of patches that stand

one_lawful : (view : View) (p : Patch) (fs : List AnyFact) → PatchStands view p fs → (f : AnyFact) → Contains fs f → IsFact f
one_lawful view p fs s f (k, below, at) = grind (arith, nat_tests, slice_get, slice_get-get_or)

each_lawful : (view : View) (ps : List Patch) (fss : List (List AnyFact)) → AllZip (PatchStands view) ps fss → (f : AnyFact) → Contains (in_patches fss) f → IsFact f
each_lawful view [] [] s f c = absurd (nowhere f c)
each_lawful view [] (g ∷ gss) s f c = absurd s
each_lawful view (p ∷ ps) [] s f c = absurd s
each_lawful view (p ∷ ps) (g ∷ gss) s f c = elim (Contains-append_cases g (in_patches gss) f c) [
  | inl first ↦ one_lawful view p g s.0 f first
  | inr later ↦ each_lawful view ps gss s.1 f later
]

pub patches_lawful : (view : View) (ps : List Patch) (fss : List (List AnyFact)) → AllZip (PatchStands view) ps fss → All IsFact (in_patches fss)
patches_lawful view ps fss s = all_contained IsFact (in_patches fss) (each_lawful view ps fss s)
