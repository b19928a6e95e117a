-- All facts of loaded tables together: those of all patches, one behind another, are those of each table.
use Rattle.std.specs.Prelude.{◌≡◌, List, [], ◌∷◌, ◌++◌, map, Option, Some, None, filter_map, All}
use Rattle.std.proofs.Common.{refl, sym, ap, ap₂, ◌∙◌, arith}
use Rattle.std.proofs.lemmas.List.{append-nil, map-append}
use Rattle.std.proofs.lemmas.List.Concat.{flat_map-append}
use Rattle.std.proofs.lemmas.List.Elements.{All-weaker, filter_map-append}
use Rattle.array_spec.specs.Prelude.{Facts, by_table, tag_of, as_object, as_medium, as_address, as_segment, as_elision, AnyFact, ObjectFact, MediumFact, AddressFact, SegmentFact, ElisionFact, IsFact, all_facts, in_patches}
use Rattle.pur_base.specs.declared.facts.AnyFact.TheVariants as any
use Rattle.pyramid.specs.Prelude.{facts_of}
use Rattle.loaded_tables.specs.declared.tables.LoadedTables.{LoadedTables}
use Rattle.loaded_tables.specs.Elided.{IsRange}
use Rattle.loaded_tables.specs.Loaded.{facts_in, patches_in}

flat_of_map : {F : Type 0} (c : F → AnyFact) (ps : List (List F)) → in_patches (map (map c) ps) ≡ map c (facts_of ps)
flat_of_map c [] = refl
flat_of_map c (fs ∷ ps) = ap (λ l. map c fs ++ l) (flat_of_map c ps) ∙ sym (map-append c fs (facts_of ps))

-- five lists, one behind another
abbrev pub five : {X : Type 0} → List X → List X → List X → List X → List X → List X
five o m a s e = o ++ (m ++ (a ++ (s ++ e)))

pub same_five : {X : Type 0} (o m a s e o2 m2 a2 s2 e2 : List X) → o ≡ o2 → m ≡ m2 → a ≡ a2 → s ≡ s2 → e ≡ e2 → five o m a s e ≡ five o2 m2 a2 s2 e2
same_five o m a s e o2 m2 a2 s2 e2 p q r t u = ap₂ (λ x y. x ++ y) p (ap₂ (λ x y. x ++ y) q (ap₂ (λ x y. x ++ y) r (ap₂ (λ x y. x ++ y) t u)))

-- what a function that takes lists apart makes of five
pub five_apart : {X Y : Type 0} (f : List X → List Y) → ((xs ys : List X) → f (xs ++ ys) ≡ f xs ++ f ys) → (o m a s e : List X) → f (five o m a s e) ≡ five (f o) (f m) (f a) (f s) (f e)
five_apart f h o m a s e =
    h o (m ++ (a ++ (s ++ e))) ∙ ap (λ l. f o ++ l) (h m (a ++ (s ++ e)) ∙ ap (λ l. f m ++ l) (h a (s ++ e) ∙ ap (λ l. f a ++ l) (h s e)))

filter_kept : {F : Type 0} (h : AnyFact → Option F) (c : F → AnyFact) → ((x : F) → h (c x) ≡ Some x) → (xs : List F) → filter_map h (map c xs) ≡ xs
filter_kept h c k [] = refl
filter_kept h c k (x ∷ xs) = rw (k x) (ap (λ l. x ∷ l) (filter_kept h c k xs))

filter_none : {F G : Type 0} (h : AnyFact → Option F) (c : G → AnyFact) → ((x : G) → h (c x) ≡ None) → (xs : List G) → filter_map h (map c xs) ≡ []
filter_none h c k [] = refl
filter_none h c k (x ∷ xs) = rw (k x) (filter_none h c k xs)

module _ (t : LoadedTables) where
  abbrev o : List ObjectFact
  o = facts_of t.objects.items

  abbrev m : List MediumFact
  m = facts_of t.mediums.items

  abbrev a : List AddressFact
  a = facts_of t.addresses.items

  abbrev s : List SegmentFact
  s = facts_of t.segments.items

  abbrev e : List ElisionFact
  e = facts_of t.elisions.items

  abbrev pub joined : List AnyFact
  joined = five (map any.Object o) (map any.Medium m) (map any.Address a) (map any.Segment s) (map any.Elision e)

  pub all_joined : in_patches (patches_in t) ≡ joined
  all_joined =
      five_apart in_patches (flat_map-append (λ (fs : List AnyFact). fs)) (map (map any.Object) t.objects.items) (map (map any.Medium) t.mediums.items) (map (map any.Address) t.addresses.items) (map (map any.Segment) t.segments.items) (map (map any.Elision) t.elisions.items)
      ∙ same_five _ _ _ _ _ _ _ _ _ _ (flat_of_map any.Object t.objects.items) (flat_of_map any.Medium t.mediums.items) (flat_of_map any.Address t.addresses.items) (flat_of_map any.Segment t.segments.items) (flat_of_map any.Elision t.elisions.items)

  objects_is : filter_map as_object joined ≡ o
  objects_is =
      five_apart (filter_map as_object) (filter_map-append as_object) (map any.Object o) (map any.Medium m) (map any.Address a) (map any.Segment s) (map any.Elision e)
      ∙ same_five _ _ _ _ _ o [] [] [] [] (filter_kept as_object any.Object (λ x. refl) o) (filter_none as_object any.Medium (λ x. refl) m) (filter_none as_object any.Address (λ x. refl) a) (filter_none as_object any.Segment (λ x. refl) s) (filter_none as_object any.Elision (λ x. refl) e)
      ∙ append-nil o

  mediums_is : filter_map as_medium joined ≡ m
  mediums_is =
      five_apart (filter_map as_medium) (filter_map-append as_medium) (map any.Object o) (map any.Medium m) (map any.Address a) (map any.Segment s) (map any.Elision e)
      ∙ same_five _ _ _ _ _ [] m [] [] [] (filter_none as_medium any.Object (λ x. refl) o) (filter_kept as_medium any.Medium (λ x. refl) m) (filter_none as_medium any.Address (λ x. refl) a) (filter_none as_medium any.Segment (λ x. refl) s) (filter_none as_medium any.Elision (λ x. refl) e)
      ∙ append-nil m

  addresses_is : filter_map as_address joined ≡ a
  addresses_is =
      five_apart (filter_map as_address) (filter_map-append as_address) (map any.Object o) (map any.Medium m) (map any.Address a) (map any.Segment s) (map any.Elision e)
      ∙ same_five _ _ _ _ _ [] [] a [] [] (filter_none as_address any.Object (λ x. refl) o) (filter_none as_address any.Medium (λ x. refl) m) (filter_kept as_address any.Address (λ x. refl) a) (filter_none as_address any.Segment (λ x. refl) s) (filter_none as_address any.Elision (λ x. refl) e)
      ∙ append-nil a

  segments_is : filter_map as_segment joined ≡ s
  segments_is =
      five_apart (filter_map as_segment) (filter_map-append as_segment) (map any.Object o) (map any.Medium m) (map any.Address a) (map any.Segment s) (map any.Elision e)
      ∙ same_five _ _ _ _ _ [] [] [] s [] (filter_none as_segment any.Object (λ x. refl) o) (filter_none as_segment any.Medium (λ x. refl) m) (filter_none as_segment any.Address (λ x. refl) a) (filter_kept as_segment any.Segment (λ x. refl) s) (filter_none as_segment any.Elision (λ x. refl) e)
      ∙ append-nil s

  elisions_is : filter_map as_elision joined ≡ e
  elisions_is =
      five_apart (filter_map as_elision) (filter_map-append as_elision) (map any.Object o) (map any.Medium m) (map any.Address a) (map any.Segment s) (map any.Elision e)
      ∙ same_five _ _ _ _ _ [] [] [] [] e (filter_none as_elision any.Object (λ x. refl) o) (filter_none as_elision any.Medium (λ x. refl) m) (filter_none as_elision any.Address (λ x. refl) a) (filter_none as_elision any.Segment (λ x. refl) s) (filter_kept as_elision any.Elision (λ x. refl) e)

  pub same_facts : all_facts (patches_in t) ≡ facts_in t
  same_facts =
      let make : List ObjectFact → List MediumFact → List AddressFact → List SegmentFact → List ElisionFact → Facts = λ v w x y z. record { objects = v; mediums = w; addresses = x; segments = y; elisions = z } in
      ap by_table all_joined
      ∙ ap (λ v. make v (filter_map as_medium joined) (filter_map as_address joined) (filter_map as_segment joined) (filter_map as_elision joined)) objects_is
      ∙ ap (λ w. make o w (filter_map as_address joined) (filter_map as_segment joined) (filter_map as_elision joined)) mediums_is
      ∙ ap (λ x. make o m x (filter_map as_segment joined) (filter_map as_elision joined)) addresses_is
      ∙ ap (λ y. make o m a y (filter_map as_elision joined)) segments_is
      ∙ ap (λ z. make o m a s z) elisions_is

-- lawful elisions are of ranges
pub elided_ranges : (facts : List ElisionFact) → All (λ f. IsFact (any.Elision f)) facts → All IsRange facts
elided_ranges facts h = All-weaker (λ f. IsFact (any.Elision f)) IsRange (λ f x. let tag = x.lawful.statement.0 in (x.lawful.statement.1, λ same. let e = ap tag_of same in omega (arith, tag, e))) facts h
