-- The patches of the next record stand beside those of memory after the plan.
use Rattle.record_tables.proofs.Prelude.{◌≡◌, ℕ, ◌+◌, ◌<◌, ◌≤◌, nat_lt, List, [], ◌∷◌, ◌++◌, length, refl, sym, ◌∙◌, arith, subst, map, Option, Some, None, count_by, append-nil, append_assoc, length-append, AllByRecursion, AllZip, flat_map, map-append, length-map, table_tag, Place, ObjectFact, MediumFact, AddressFact, SegmentFact, ElisionFact, AnyFact, Patch, IsPatch, ArePatches, patch_facts, patches_of, Tables, patches, Memory, IsNamed, all_append, all_append_left, all_append_right, zip_long, zip_weaker, Plan, after_plan, AreCounts, counts_of, new_patch, added_patches, by_tag, of_tag, HasFacts, HaveFacts, new_facts, AddedAreNamed, AddedTakeTheUnits, NextPatchesAreNamed, all_weaker, zip_join, zip_split, zip_both}
use Rattle.pur_base.specs.declared.facts.AnyFact.TheVariants as any
use Rattle.array_memory.specs.declared.plan.Counts.{Counts}
use Rattle.record_tables.proofs.Tags.{HaveTag, HaveTagsFrom, HaveTagsBelow, in_order, of_tag_own, lower_are}
use Rattle.record_tables.proofs.Added.{new_some, added_filled, added_places}

-- ---- the new patches

-- facts of one table have its tag
each_is : {F : Type 0} (c : F → AnyFact) (tag : ℕ) → ((f : F) → table_tag (c f) ≡ tag) → (fs : List F) → AllByRecursion (λ f. table_tag f ≡ tag) (map c fs)
each_is c tag is [] = tt
each_is c tag is (f ∷ fs) = (is f, each_is c tag is fs)

-- the new patch of a table is named by how many facts it has
pub new_named : {F : Type 0} (c : F → AnyFact) (tag : ℕ) → ((f : F) → table_tag (c f) ≡ tag) → (patch : Option (List F)) (n id : ℕ) (units : List (List Place)) → HasFacts patch → n ≡ length (patch_facts patch)
    → AllZip IsNamed (new_patch tag n id units) (map (map c) (patches_of patch))
new_named c tag is None n id units some e = subst (λ k. AllZip IsNamed (new_patch tag k id units) []) (sym e) tt
new_named c tag is (Some fs) n id units some e =
    subst (λ ps. AllZip IsNamed ps (map c fs ∷ [])) (sym (new_some tag n id units (omega (arith, some, e))))
    (record { count = e ∙ sym (length-map fs c); table = each_is c tag is fs }, tt)

pub added_are_named : AddedAreNamed
added_are_named p counts first units some are =
    zip_join IsNamed (new_patch 1 _ _ _) (map (map any.Object) (patches_of p.objects)) _ _ (new_named any.Object 1 (λ f. refl) p.objects counts.objects _ _ some.objects are.objects)
    (zip_join IsNamed (new_patch 2 _ _ _) (map (map any.Medium) (patches_of p.mediums)) _ _ (new_named any.Medium 2 (λ f. refl) p.mediums counts.mediums _ _ some.mediums are.mediums)
    (zip_join IsNamed (new_patch 3 _ _ _) (map (map any.Address) (patches_of p.addresses)) _ _ (new_named any.Address 3 (λ f. refl) p.addresses counts.addresses _ _ some.addresses are.addresses)
    (zip_join IsNamed (new_patch 4 _ _ _) (map (map any.Segment) (patches_of p.segment_facts)) _ _ (new_named any.Segment 4 (λ f. refl) p.segment_facts counts.segments _ _ some.segments are.segments)
    (subst (λ ps. AllZip IsNamed ps (map (map any.Elision) (patches_of p.elisions))) (sym (append-nil (new_patch 5 _ _ _))) (new_named any.Elision 5 (λ f. refl) p.elisions counts.elisions _ _ some.elisions are.elisions)))))

pub added_take_the_units : AddedTakeTheUnits
added_take_the_units counts first units e = added_places 1 (counts_of counts) first units e

-- ---- patches by table

-- facts of patches of one table
abbrev AreOfTable : ℕ → List (List AnyFact) → Type 0
AreOfTable tag fss = AllByRecursion (λ fs. AllByRecursion (λ f. table_tag f ≡ tag) fs) fss

-- the patches of tables, of which each has the next tag
abbrev AreOfTables : ℕ → List (List (List AnyFact)) → Type 0
AreOfTables tag [] = Unit {0}
AreOfTables tag (t ∷ ts) = AreOfTable tag t × AreOfTables (tag + 1) ts

-- in one list
abbrev pub all : List (List (List AnyFact)) → List (List AnyFact)
all ts = flat_map (λ t. t) ts

-- a record's patches by table: as many as those before are of lower tables, and what should holds of each table's patches and their facts
abbrev pub AreTables : (Patch → List AnyFact → Type 0) → ℕ → List (List AnyFact) → List Patch → List (List (List AnyFact)) → Type 0
AreTables R tag before ps [] = Unit {0}
AreTables R tag before ps (t ∷ ts) = (count_by (λ p. nat_lt p.tag tag) ps ≡ length before) × AllZip R (of_tag tag ps) t × AreTables R (tag + 1) (before ++ t) ps ts

abbrev pub AreFilled : List Patch → Type 0
AreFilled ps = AllByRecursion (λ p. 1 ≤ p.facts) ps

pub are_filled : (slots units : ℕ) (ps : List Patch) → ArePatches slots units ps → AreFilled ps
are_filled slots units ps lawful = all_weaker (IsPatch slots units) (λ q. 1 ≤ q.facts) (λ q l. l.facts.0) ps lawful.each

-- a patch that has facts has their tag
tags_are : (tag : ℕ) (ps : List Patch) (fss : List (List AnyFact)) → AreFilled ps → AllZip IsNamed ps fss → AreOfTable tag fss → HaveTag tag ps
tags_are tag [] fss some n h = tt
tags_are tag (p ∷ ps) [] some n h = absurd n
tags_are tag (p ∷ ps) ([] ∷ fss) some n h = absurd (omega (arith, some.0, n.0.count))
tags_are tag (p ∷ ps) ((f ∷ fs) ∷ fss) some n h = (sym n.0.table.0 ∙ h.0.0, tags_are tag ps fss some.1 n.1 h.1)

module _ (R : Patch → List AnyFact → Type 0) where
  -- patches that name those of tables stand by table, behind those of lower tables
  by_tables : (tag : ℕ) (before : List (List AnyFact)) (front ps : List Patch) (ts : List (List (List AnyFact))) → length front ≡ length before → HaveTagsBelow tag front → AreOfTables tag ts → AreFilled ps
      → AllZip (λ p fs. IsNamed p fs × R p fs) ps (all ts) → HaveTagsFrom tag ps × AreTables R tag before (front ++ ps) ts
  by_tables tag before front [] [] e low h some n = (tt, tt)
  by_tables tag before front (p ∷ ps) [] e low h some n = absurd n
  by_tables tag before front ps (t ∷ ts) e low h some n =
      let Both : Patch → List AnyFact → Type 0 = λ p fs. IsNamed p fs × R p fs in
      let w = zip_split Both ps t (all ts) n in
      let filled : AreFilled (w.front ++ w.rest) = subst (λ l. AreFilled l) w.whole some in
      let own = tags_are tag w.front t (all_append_left (λ p. 1 ≤ p.facts) w.front w.rest filled) (zip_weaker Both IsNamed (λ p fs b. b.0) w.front t w.first) h.0 in
      let both = all_append (λ p. p.tag < tag + 1) front w.front (all_weaker (λ p. p.tag < tag) _ (λ p l. omega (arith, l)) front low) (all_weaker (λ p. p.tag ≡ tag) _ (λ p e. omega (arith, e)) w.front own) in
      let long : length (front ++ w.front) ≡ length (before ++ t) = omega (arith, e, length-append front w.front, length-append before t, zip_long Both w.front t w.first) in
      let rest = by_tables (tag + 1) (before ++ t) (front ++ w.front) w.rest ts long both h.1 (all_append_right (λ p. 1 ≤ p.facts) w.front w.rest filled) w.second in
      let from = all_append (λ p. tag ≤ p.tag) w.front w.rest (all_weaker (λ p. p.tag ≡ tag) _ (λ p e. omega (arith, e)) w.front own) (all_weaker (λ p. tag + 1 ≤ p.tag) _ (λ p l. omega (arith, l)) w.rest rest.0) in
      subst (λ l. HaveTagsFrom tag l × AreTables R tag before (front ++ l) (t ∷ ts)) (sym w.whole) (
        from,
        (
          lower_are tag front (w.front ++ w.rest) low from ∙ e,
          subst (λ l. AllZip R l t) (sym (of_tag_own tag front w.front w.rest low own rest.0)) (zip_weaker Both R (λ p fs b. b.1) w.front t w.first),
          subst (λ l. AreTables R (tag + 1) (before ++ t) l ts) (append_assoc front w.front w.rest) rest.1,
        ),
      )

  -- of each table the old ones and the new ones
  in_order_zip : (tag : ℕ) (b d : List (List AnyFact)) (ts : List (List (List AnyFact) × List (List AnyFact))) (old new : List Patch) → AreTables R tag b old (map (λ t. t.0) ts) → AreTables R tag d new (map (λ t. t.1) ts)
      → AllZip R (in_order tag (length ts) old new) (all (map (λ t. t.0 ++ t.1) ts))
  in_order_zip tag b d [] old new h k = tt
  in_order_zip tag b d (t ∷ ts) old new h k =
      zip_join R (of_tag tag old ++ of_tag tag new) (t.0 ++ t.1) (in_order (tag + 1) (length ts) old new) (all (map (λ t. t.0 ++ t.1) ts)) (zip_join R (of_tag tag old) t.0 (of_tag tag new) t.1 h.1 k.1)
      (in_order_zip (tag + 1) (b ++ t.0) (d ++ t.1) ts old new h.2 k.2)

-- ---- the five tables

all_pass : {F : Type 0} (c : F → AnyFact) (tag : ℕ) → ((f : F) → table_tag (c f) ≡ tag) → (ps : List (List F)) → AreOfTable tag (map (map c) ps)
all_pass c tag is [] = tt
all_pass c tag is (fs ∷ ps) = (each_is c tag is fs, all_pass c tag is ps)

module _ (o : List (List ObjectFact)) (m : List (List MediumFact)) (a : List (List AddressFact)) (s : List (List SegmentFact)) (e : List (List ElisionFact)) where
  abbrev pub five : List (List (List AnyFact))
  five = map (map any.Object) o ∷ map (map any.Medium) m ∷ map (map any.Address) a ∷ map (map any.Segment) s ∷ map (map any.Elision) e ∷ []

  pub five_are : all five ≡ map (map any.Object) o ++ (map (map any.Medium) m ++ (map (map any.Address) a ++ (map (map any.Segment) s ++ map (map any.Elision) e)))
  five_are = simp append-nil refl

  pub five_tables : AreOfTables 1 five
  five_tables = (all_pass any.Object 1 (λ f. refl) o, (all_pass any.Medium 2 (λ f. refl) m, (all_pass any.Address 3 (λ f. refl) a, (all_pass any.Segment 4 (λ f. refl) s, (all_pass any.Elision 5 (λ f. refl) e, tt)))))

  -- patches that name their facts in one list
  pub named_tables : (R : Patch → List AnyFact → Type 0) (ps : List Patch) (fss : List (List AnyFact)) → all five ≡ fss → AreFilled ps → AllZip IsNamed ps fss → AllZip R ps fss → AreTables R 1 [] ps five
  named_tables R ps fss is some n h = (by_tables R 1 [] [] ps five refl tt five_tables some (subst (λ l. AllZip (λ p fs. IsNamed p fs × R p fs) ps l) (sym is) (zip_both IsNamed R ps fss n h))).1

-- those of memory
abbrev pub tables_of : Tables → List (List (List AnyFact))
tables_of m = five m.objects.patches m.mediums.patches m.addresses.patches m.segments.patches m.elisions.patches

pub tables_named : (R : Patch → List AnyFact → Type 0) (m : Tables) (was : List Patch) → AreFilled was → AllZip IsNamed was (patches m) → AllZip R was (patches m) → AreTables R 1 [] was (tables_of m)
tables_named R m was some n h = named_tables m.objects.patches m.mediums.patches m.addresses.patches m.segments.patches m.elisions.patches R was (patches m) (five_are _ _ _ _ _) some n h

module _ (m : Memory) (p : Plan) where
  -- each table's old patches and its new ones
  abbrev tables : List (List (List AnyFact) × List (List AnyFact))
  tables =
      (map (map any.Object) m.tables.objects.patches, map (map any.Object) (patches_of p.objects))
      ∷ (map (map any.Medium) m.tables.mediums.patches, map (map any.Medium) (patches_of p.mediums))
      ∷ (map (map any.Address) m.tables.addresses.patches, map (map any.Address) (patches_of p.addresses))
      ∷ (map (map any.Segment) m.tables.segments.patches, map (map any.Segment) (patches_of p.segment_facts))
      ∷ (map (map any.Elision) m.tables.elisions.patches, map (map any.Elision) (patches_of p.elisions))
      ∷ []

  joined_are : all (map (λ t. t.0 ++ t.1) tables) ≡ patches (after_plan m p).tables
  joined_are = simp (append-nil, map-append) refl

  -- whatever holds of each old patch and its facts, and of each new one and its facts, holds of those of the next record
  pub next_patches_zip : (R : Patch → List AnyFact → Type 0) (was new : List Patch) → AllByRecursion (λ q. 1 ≤ q.facts) was → AllByRecursion (λ q. 1 ≤ q.facts) new
      → AllZip IsNamed was (patches m.tables) → AllZip R was (patches m.tables) → AllZip IsNamed new (new_facts p) → AllZip R new (new_facts p)
      → AllZip R (by_tag was new) (patches (after_plan m p).tables)
  next_patches_zip R was new some more names_old old names_new new_ones =
      subst (λ l. AllZip R (by_tag was new) l) joined_are (in_order_zip R 1 [] [] tables was new
      (tables_named R m.tables was some names_old old)
      (named_tables (patches_of p.objects) (patches_of p.mediums) (patches_of p.addresses) (patches_of p.segment_facts) (patches_of p.elisions) R new (new_facts p) (five_are _ _ _ _ _) more names_new new_ones))

-- so does what holds of the old patches and of those that a plan adds
pub added_patches_zip : (R : Patch → List AnyFact → Type 0) (m : Memory) (p : Plan) (was : List Patch) (counts : Counts) (first : ℕ) (places : List (List Place)) → AllByRecursion (λ q. 1 ≤ q.facts) was
    → AllZip IsNamed was (patches m.tables) → AllZip R was (patches m.tables) → HaveFacts p → AreCounts p counts → AllZip R (added_patches counts first places) (new_facts p)
    → AllZip R (by_tag was (added_patches counts first places)) (patches (after_plan m p).tables)
added_patches_zip R m p was counts first places some named old facts are new =
    next_patches_zip m p R was (added_patches counts first places) some (added_filled 1 (counts_of counts) first places) named old (added_are_named p counts first places facts are) new

pub next_patches_are_named : NextPatchesAreNamed
next_patches_are_named slots units m p was counts first places lawful named facts are =
    added_patches_zip IsNamed m p was counts first places (are_filled slots units was lawful) named named facts are (added_are_named p counts first places facts are)
