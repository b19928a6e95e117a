-- The patches of the next record, and their facts, beside those of the last one.
use Rattle.array_checkpoint.proofs.Prelude.{◌≡◌, ◌≢◌, ◌⊎◌, ℕ, zero, suc, ◌+◌, ◌<◌, ◌≤◌, ◌==◌, List, [], ◌∷◌, ◌++◌, length, refl, sym, ap, ◌∙◌, arith, inl, inr, subst, take, drop, Option, sum_by, append-nil, cases_eq, cases_lt, flat_map-append, filter-append, Facts, Table, Place, Patch, tag_of, all_facts, Layers, facts_of, patches_of, Memory, flushed, patches, patches_are_flushed, TAG_MAX, FactsGoOn, GoesOn, HaveOneMore, IsFilled, Counts, Plan, after_plan, IsSameMemory, added_from, of_tag, added_patches, by_tag, counts_of, new_patch, segments_for, segments_of, all_weaker}
use Rattle.pur_base.specs.declared.request.Table.TheVariants as table
use Rattle.record_tables.proofs.Added.{left_long, new_each, new_some, segments_long, taken_long, the_patch}
use Rattle.record_tables.proofs.Tags.{in_order, of_tag_all, of_tag_has, of_tag_none}

-- ---- the patches of one table

own_tag : (u : ℕ) (ps : List Patch) → of_tag u (of_tag u ps) ≡ of_tag u ps
own_tag u ps = of_tag_all u (of_tag u ps) (of_tag_has u ps)

other_tag : (u v : ℕ) (ps : List Patch) → u ≢ v → of_tag u (of_tag v ps) ≡ []
other_tag u v ps other = of_tag_none u (of_tag v ps) (all_weaker (λ p. p.tag ≡ v) (λ p. p.tag ≢ u) (λ p e f. other (sym f ∙ e)) (of_tag v ps) (of_tag_has v ps))

module _ (old new : List Patch) where
  abbrev Both : ℕ → List Patch
  Both v = of_tag v old ++ of_tag v new

  both_own : (u : ℕ) → of_tag u (Both u) ≡ Both u
  both_own u = filter-append (λ p. p.tag == u) (of_tag u old) (of_tag u new) ∙ ap (λ l. l ++ of_tag u (of_tag u new)) (own_tag u old) ∙ ap (λ l. of_tag u old ++ l) (own_tag u new)

  both_other : (u v : ℕ) → u ≢ v → of_tag u (Both v) ≡ []
  both_other u v other = filter-append (λ p. p.tag == u) (of_tag v old) (of_tag v new) ∙ ap (λ l. l ++ of_tag u (of_tag v new)) (other_tag u v old other) ∙ other_tag u v new other

  -- those of the table that stands first, and of the others
  of_first : (u least n : ℕ) → of_tag u (in_order least (suc n) old new) ≡ of_tag u (Both least) ++ of_tag u (in_order (least + 1) n old new)
  of_first u least n = filter-append (λ p. p.tag == u) (Both least) (in_order (least + 1) n old new)

  none_behind : (u least n : ℕ) → u < least → of_tag u (in_order least n old new) ≡ []
  none_behind u least zero l = refl
  none_behind u least (suc n) l =
      of_first u least n ∙ ap (λ k. k ++ of_tag u (in_order (least + 1) n old new)) (both_other u least (λ e. omega (arith, e, l))) ∙ none_behind u (least + 1) n (omega (arith, l))

  of_one : (u least n : ℕ) → least ≤ u → u < least + n → of_tag u (in_order least n old new) ≡ Both u
  of_one u least zero l m = absurd (omega (arith, l, m))
  of_one u least (suc n) l m = elim (cases_lt least u) [
    | inl less ↦ of_first u least n ∙ ap (λ k. k ++ of_tag u (in_order (least + 1) n old new)) (both_other u least (λ e. omega (arith, e, less))) ∙ of_one u (least + 1) n (omega (arith, less)) (omega (arith, m))
    | inr most ↦
        let same : least ≡ u = omega (arith, l, most) in
        of_first u least n ∙ ap (λ k. of_tag u (Both least) ++ k) (none_behind u (least + 1) n (omega (arith, same)))
        ∙ append-nil (of_tag u (Both least)) ∙ ap (λ v. of_tag u (Both v)) same ∙ both_own u
  ]

-- ---- the new ones

abbrev OneAtMost : List Patch → Type 0
OneAtMost ps = (ps ≡ []) ⊎ ((p : Patch) × (ps ≡ p ∷ []) × IsFilled p)

-- the new patch of a table
one_new : (tag n id : ℕ) (units : List (List Place)) → length units ≡ segments_for n → OneAtMost (new_patch tag n id units)
one_new tag zero id units e = inl refl
one_new tag (suc n) id units e = inr (the_patch tag (suc n) id units, new_some tag (suc n) id units (omega arith), record { some = omega arith; segments = segments_long id units ∙ e })

new_own : (tag n id : ℕ) (units : List (List Place)) → of_tag tag (new_patch tag n id units) ≡ new_patch tag n id units
new_own tag n id units = of_tag_all tag (new_patch tag n id units) (new_each (λ p. p.tag ≡ tag) tag n id units (λ some. refl))

new_other : (u tag n id : ℕ) (units : List (List Place)) → u ≢ tag → of_tag u (new_patch tag n id units) ≡ []
new_other u tag n id units other = of_tag_none u (new_patch tag n id units) (new_each (λ p. p.tag ≢ u) tag n id units (λ some e. other (sym e)))

none_added : (u tag : ℕ) (counts : List ℕ) (id : ℕ) (units : List (List Place)) → u < tag → of_tag u (added_from tag counts id units) ≡ []
none_added u tag [] id units l = refl
none_added u tag (n ∷ counts) id units l =
    filter-append (λ p. p.tag == u) (new_patch tag n id (take (segments_for n) units)) (added_from (tag + 1) counts (id + segments_for n) (drop (segments_for n) units))
    ∙ ap (λ k. k ++ of_tag u (added_from (tag + 1) counts (id + segments_for n) (drop (segments_for n) units))) (new_other u tag n id (take (segments_for n) units) (λ e. omega (arith, e, l)))
    ∙ none_added u (tag + 1) counts (id + segments_for n) (drop (segments_for n) units) (omega (arith, l))

one_added : (u tag : ℕ) (counts : List ℕ) (id : ℕ) (units : List (List Place)) → sum_by segments_for counts ≡ length units → OneAtMost (of_tag u (added_from tag counts id units))
one_added u tag [] id units e = inl refl
one_added u tag (n ∷ counts) id units e =
    let new : List Patch = new_patch tag n id (take (segments_for n) units) in
    let rest : List Patch = added_from (tag + 1) counts (id + segments_for n) (drop (segments_for n) units) in
    let parts : of_tag u (new ++ rest) ≡ of_tag u new ++ of_tag u rest = filter-append (λ p. p.tag == u) new rest in
    elim (cases_eq u tag) [
      | inl same ↦
          let alone : of_tag u (new ++ rest) ≡ new =
          parts ∙ ap (λ k. of_tag u new ++ k) (none_added u (tag + 1) counts (id + segments_for n) (drop (segments_for n) units) (omega (arith, same)))
          ∙ append-nil (of_tag u new) ∙ ap (λ v. of_tag v new) same ∙ new_own tag n id (take (segments_for n) units) in
          subst (λ ps. OneAtMost ps) (sym alone) (one_new tag n id (take (segments_for n) units) (taken_long n counts units e))
      | inr other ↦
          subst (λ ps. OneAtMost ps) (sym (parts ∙ ap (λ k. k ++ of_tag u rest) (new_other u tag n id (take (segments_for n) units) other)))
          (one_added u (tag + 1) counts (id + segments_for n) (drop (segments_for n) units) (left_long n counts units e))
    ]

tag_within : (t : Table) → (1 ≤ tag_of t) × (tag_of t < 1 + TAG_MAX)
tag_within table.Object = (omega arith, omega arith)
tag_within _ = (omega arith, omega arith)

pub one_more : (old : List Patch) (counts : Counts) (first : ℕ) (units : List (List Place)) → segments_of counts ≡ length units → HaveOneMore old (by_tag old (added_patches counts first units))
one_more old counts first units e t =
    let new : List Patch = added_patches counts first units in
    let is : of_tag (tag_of t) (by_tag old new) ≡ of_tag (tag_of t) old ++ of_tag (tag_of t) new = of_one old new (tag_of t) 1 TAG_MAX (tag_within t).0 (tag_within t).1 in
    elim (one_added (tag_of t) 1 (counts_of counts) first units e) [
      | inl none ↦ inl (is ∙ ap (λ l. of_tag (tag_of t) old ++ l) none ∙ append-nil (of_tag (tag_of t) old))
      | inr w ↦ inr (w.0, is ∙ ap (λ l. of_tag (tag_of t) old ++ l) w.1, w.2)
    ]

-- ---- their facts

goes_on : {F : Type 0} (l l2 : Layers F) (patch : Option (List F)) → l2.patches ≡ l.patches ++ patches_of patch → GoesOn (facts_of l.patches) (facts_of l2.patches)
goes_on l l2 patch e = (facts_of (patches_of patch), ap (λ ps. facts_of ps) e ∙ flat_map-append (λ x. x) l.patches (patches_of patch))

pub facts_go_on : (m : Memory) (p : Plan) (n : Memory) → IsSameMemory (after_plan m p) n → FactsGoOn (all_facts (patches m.tables)) (all_facts (patches n.tables))
facts_go_on m p n same =
    subst (λ (f : Facts). FactsGoOn f (all_facts (patches n.tables))) (sym (patches_are_flushed m.tables))
    (subst (λ (f : Facts). FactsGoOn (flushed m.tables) f) (sym (patches_are_flushed n.tables)) (record {
      objects = goes_on m.tables.objects n.tables.objects p.objects same.objects.patches;
      mediums = goes_on m.tables.mediums n.tables.mediums p.mediums same.mediums.patches;
      addresses = goes_on m.tables.addresses n.tables.addresses p.addresses same.addresses.patches;
      segments = goes_on m.tables.segments n.tables.segments p.segment_facts same.segments.patches;
      elisions = goes_on m.tables.elisions n.tables.elisions p.elisions same.elisions.patches;
    }))
