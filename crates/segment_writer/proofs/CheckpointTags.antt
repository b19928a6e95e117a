-- The facts of a new patch are those of the table with its tag.
use Rattle.segment_writer.proofs.Prelude.{◌≡◌, ◌⊎◌, inl, inr, ℕ, zero, suc, ◌≤◌, List, [], ◌∷◌, ◌++◌, length, map, refl, sym, subst, ◌∙◌, ap, arith, Option, Some, None, slice_get, AllByRecursion, same_Some, table_tag, AnyFact, Patch, Shelved, MayBeStored, Plan, new_facts, facts_of_tag}
use Rattle.pur_base.specs.declared.facts.AnyFact.TheVariants as any
use Rattle.pyramid.specs.Prelude.{patch_facts, patches_of}

-- ---- by tag

pub of_objects : (plan : Plan) → facts_of_tag plan 1 ≡ map any.Object (patch_facts plan.objects)
unfolding facts_of_tag
of_objects plan = refl

pub of_mediums : (plan : Plan) → facts_of_tag plan 2 ≡ map any.Medium (patch_facts plan.mediums)
unfolding facts_of_tag
of_mediums plan = refl

pub of_addresses : (plan : Plan) → facts_of_tag plan 3 ≡ map any.Address (patch_facts plan.addresses)
unfolding facts_of_tag
of_addresses plan = refl

pub of_segments : (plan : Plan) → facts_of_tag plan 4 ≡ map any.Segment (patch_facts plan.segment_facts)
unfolding facts_of_tag
of_segments plan = refl

pub of_elisions : (plan : Plan) → facts_of_tag plan 5 ≡ map any.Elision (patch_facts plan.elisions)
unfolding facts_of_tag
of_elisions plan = refl

-- ---- by place

-- a list of the new ones is that of the table, or behind it
at_table : {F : Type 0} (any : F → AnyFact) (o : Option (List F)) (rest : List (List AnyFact)) (i : ℕ) (facts : List AnyFact) → slice_get (map (map any) (patches_of o) ++ rest) i ≡ Some facts
    → (facts ≡ map any (patch_facts o)) ⊎ ((j : ℕ) × (slice_get rest j ≡ Some facts))
at_table any None rest i facts at = inr (i, at)
at_table any (Some xs) rest zero facts at = inl (sym (same_Some (map any xs) facts at))
at_table any (Some xs) rest (suc i) facts at = inr (i, at)

at_last : {F : Type 0} (any : F → AnyFact) (o : Option (List F)) (i : ℕ) (facts : List AnyFact) → slice_get (map (map any) (patches_of o)) i ≡ Some facts → facts ≡ map any (patch_facts o)
at_last any None i facts at = absurd (cc)
at_last any (Some xs) zero facts at = sym (same_Some (map any xs) facts at)
at_last any (Some xs) (suc i) facts at = absurd (cc)

tag_is : {F : Type 0} (any : F → AnyFact) (n tag : ℕ) (xs : List F) → ((f : F) → table_tag (any f) ≡ n) → 1 ≤ length (map any xs) → AllByRecursion (λ f. table_tag f ≡ tag) (map any xs) → tag ≡ n
tag_is any n tag [] is some all = absurd (omega (arith, some))
tag_is any n tag (x ∷ xs) is some all = sym all.0 ∙ is x

module _ (shelf : Shelved) (plan : Plan) (p : Patch) (facts : List AnyFact) (stored : MayBeStored shelf p facts) where
  same_facts : {F : Type 0} (any : F → AnyFact) (n : ℕ) (xs : List F) → ((f : F) → table_tag (any f) ≡ n) → facts_of_tag plan n ≡ map any xs → facts ≡ map any xs → facts ≡ facts_of_tag plan p.tag
  same_facts any n xs have of e =
      let some : 1 ≤ length (map any xs) = omega (arith, ap length e, stored.count, stored.lawful.facts.0) in
      let tag : p.tag ≡ n = tag_is any n p.tag xs have some (subst (AllByRecursion (λ f. table_tag f ≡ p.tag)) e stored.in_order.table) in
      e ∙ sym of ∙ ap (facts_of_tag plan) (sym tag)

  pub facts_by_tag : (i : ℕ) → slice_get (new_facts plan) i ≡ Some facts → facts ≡ facts_of_tag plan p.tag
  facts_by_tag i at = elim (at_table any.Object plan.objects _ i facts at) [
    | inl e ↦ same_facts any.Object 1 (patch_facts plan.objects) (λ f. refl) (of_objects plan) e
    | inr (j, behind) ↦ elim (at_table any.Medium plan.mediums _ j facts behind) [
      | inl e ↦ same_facts any.Medium 2 (patch_facts plan.mediums) (λ f. refl) (of_mediums plan) e
      | inr (k, behind) ↦ elim (at_table any.Address plan.addresses _ k facts behind) [
        | inl e ↦ same_facts any.Address 3 (patch_facts plan.addresses) (λ f. refl) (of_addresses plan) e
        | inr (l, behind) ↦ elim (at_table any.Segment plan.segment_facts _ l facts behind) [
          | inl e ↦ same_facts any.Segment 4 (patch_facts plan.segment_facts) (λ f. refl) (of_segments plan) e
          | inr (m, last) ↦ same_facts any.Elision 5 (patch_facts plan.elisions) (λ f. refl) (of_elisions plan) (at_last any.Elision plan.elisions m facts last)
        ]
      ]
    ]
  ]
