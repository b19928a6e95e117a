-- Sequence numbers rise from patch to patch of each table where they do so over the patches that the record names.
use Rattle.std.specs.Prelude.{◌≡◌, ℕ, ◌<◌, List, [], ◌∷◌, ◌++◌, map, All, AllPairs}
use Rattle.std.specs.List.{AllByRecursion, AllZip}
use Rattle.std.proofs.Common.{refl, sym, subst, ◌∙◌, arith}
use Rattle.std.proofs.lemmas.List.{append-nil}
use Rattle.std.proofs.lemmas.List.Elements.{All-nil, All-cons, All-head, All-tail, All-append, All-map, All-contains, All-from_recursion, recursion_from_All}
use Rattle.array_spec.specs.Prelude.{table_tag, any_number, AnyFact, ObjectFact, MediumFact, AddressFact, SegmentFact, ElisionFact, Patch, BootRecord, IsOlder, with_facts}
use Rattle.pur_base.specs.declared.facts.AnyFact.TheVariants as any
use Rattle.pyramid.specs.Prelude.{facts_of, AreBelow, Rises, all_contained}
use Rattle.loaded_tables.specs.declared.tables.LoadedTables.{LoadedTables}
use Rattle.loaded_tables.specs.Loaded.{patches_in, AreNamed, IsNamed}
use Rattle.loaded_tables.specs.lemmas.Pairs.{all_flat, all_unmap, of_flat, pairs_cons, pairs_head, pairs_join, pairs_left, pairs_map, pairs_nil, pairs_right, pairs_tail, pairs_unmap}

-- of facts of one table those of the first patch have smaller numbers
abbrev Older : List AnyFact → List AnyFact → Type 0
Older fs gs = All (λ f. All (λ g. table_tag f ≡ table_tag g → any_number f < any_number g) gs) fs

older_of : (p q : Patch) (fs gs : List AnyFact) → IsNamed p fs → IsNamed q gs → IsOlder (p, fs) (q, gs) → Older fs gs
older_of p q fs gs hp hq h = all_contained (λ f. All (λ g. table_tag f ≡ table_tag g → any_number f < any_number g) gs) fs (λ f c. all_contained (λ g. table_tag f ≡ table_tag g → any_number f < any_number g) gs (λ g d same.
    let tags : p.tag ≡ q.tag = sym (All-contains (λ x. table_tag x ≡ p.tag) fs f hp.of_table c) ∙ same ∙ All-contains (λ x. table_tag x ≡ q.tag) gs g hq.of_table d in
    let all = All-contains (λ x. AllByRecursion (λ y. any_number x < any_number y) gs) fs f (All-from_recursion (λ x. AllByRecursion (λ y. any_number x < any_number y) gs) fs (h tags)) c in
    All-contains (λ y. any_number f < any_number y) gs g (All-from_recursion (λ y. any_number f < any_number y) gs all) d))

of_older : (p q : Patch) (fs gs : List AnyFact) → IsNamed p fs → IsNamed q gs → Older fs gs → IsOlder (p, fs) (q, gs)
of_older p q fs gs hp hq h tags = recursion_from_All (λ f. AllByRecursion (λ g. any_number f < any_number g) gs) fs (all_contained (λ f. AllByRecursion (λ g. any_number f < any_number g) gs) fs (λ f c.
    recursion_from_All (λ g. any_number f < any_number g) gs (all_contained (λ g. any_number f < any_number g) gs (λ g d.
    let same : table_tag f ≡ table_tag g = All-contains (λ x. table_tag x ≡ p.tag) fs f hp.of_table c ∙ tags ∙ sym (All-contains (λ x. table_tag x ≡ q.tag) gs g hq.of_table d) in
    All-contains (λ y. table_tag f ≡ table_tag y → any_number f < any_number y) gs g (All-contains (λ x. All (λ y. table_tag x ≡ table_tag y → any_number x < any_number y) gs) fs f h c) d same))))

heads_to : (p : Patch) (fs : List AnyFact) → IsNamed p fs → (qs : List Patch) (gss : List (List AnyFact)) → AllZip IsNamed qs gss → All (IsOlder (p, fs)) (with_facts qs gss) → All (Older fs) gss
heads_to p fs hp [] [] z h = All-nil (Older fs)
heads_to p fs hp [] (gs ∷ gss) z h = absurd z
heads_to p fs hp (q ∷ qs) [] z h = absurd z
heads_to p fs hp (q ∷ qs) (gs ∷ gss) z h =
    All-cons (Older fs) gs gss (older_of p q fs gs hp z.0 (All-head (IsOlder (p, fs)) (q, gs) (with_facts qs gss) h)) (heads_to p fs hp qs gss z.1 (All-tail (IsOlder (p, fs)) (q, gs) (with_facts qs gss) h))

heads_from : (p : Patch) (fs : List AnyFact) → IsNamed p fs → (qs : List Patch) (gss : List (List AnyFact)) → AllZip IsNamed qs gss → All (Older fs) gss → All (IsOlder (p, fs)) (with_facts qs gss)
heads_from p fs hp [] [] z h = All-nil (IsOlder (p, fs))
heads_from p fs hp [] (gs ∷ gss) z h = absurd z
heads_from p fs hp (q ∷ qs) [] z h = absurd z
heads_from p fs hp (q ∷ qs) (gs ∷ gss) z h =
    All-cons (IsOlder (p, fs)) (q, gs) (with_facts qs gss) (of_older p q fs gs hp z.0 (All-head (Older fs) gs gss h)) (heads_from p fs hp qs gss z.1 (All-tail (Older fs) gs gss h))

older_all : (ps : List Patch) (fss : List (List AnyFact)) → AllZip IsNamed ps fss → AllPairs IsOlder (with_facts ps fss) → AllPairs Older fss
older_all [] [] z h = pairs_nil Older
older_all [] (fs ∷ fss) z h = absurd z
older_all (p ∷ ps) [] z h = absurd z
older_all (p ∷ ps) (fs ∷ fss) z h =
    pairs_cons Older fs fss (heads_to p fs z.0 ps fss z.1 (pairs_head IsOlder (p, fs) (with_facts ps fss) h)) (older_all ps fss z.1 (pairs_tail IsOlder (p, fs) (with_facts ps fss) h))

all_older : (ps : List Patch) (fss : List (List AnyFact)) → AllZip IsNamed ps fss → AllPairs Older fss → AllPairs IsOlder (with_facts ps fss)
all_older [] [] z h = pairs_nil IsOlder
all_older [] (fs ∷ fss) z h = absurd z
all_older (p ∷ ps) [] z h = absurd z
all_older (p ∷ ps) (fs ∷ fss) z h =
    pairs_cons IsOlder (p, fs) (with_facts ps fss) (heads_from p fs z.0 ps fss z.1 (pairs_head Older fs fss h)) (all_older ps fss z.1 (pairs_tail Older fs fss h))

-- in one table
module _ {F : Type 0} (number : F → ℕ) (c : F → AnyFact) (same_tag : (x y : F) → table_tag (c x) ≡ table_tag (c y)) (same_number : (x : F) → any_number (c x) ≡ number x) where
  below_of : (xs ys : List F) → Older (map c xs) (map c ys) → AreBelow number xs ys
  below_of xs ys h = all_contained (λ x. All (λ y. number x < number y) ys) xs (λ x p. all_contained (λ y. number x < number y) ys (λ y q.
      let one = All-contains (λ z. All (λ g. table_tag (c z) ≡ table_tag g → any_number (c z) < any_number g) (map c ys)) xs x (all_unmap (λ f. All (λ g. table_tag f ≡ table_tag g → any_number f < any_number g) (map c ys)) c xs h) p in
      let two = All-contains (λ z. table_tag (c x) ≡ table_tag (c z) → any_number (c x) < any_number (c z)) ys y (all_unmap (λ g. table_tag (c x) ≡ table_tag g → any_number (c x) < any_number g) c ys one) q (same_tag x y) in
      subst (λ n. n < number y) (same_number x) (subst (λ n. any_number (c x) < n) (same_number y) two)))

  of_below : (xs ys : List F) → AreBelow number xs ys → Older (map c xs) (map c ys)
  of_below xs ys h = All-map (λ f. All (λ g. table_tag f ≡ table_tag g → any_number f < any_number g) (map c ys)) c xs (all_contained (λ x. All (λ g. table_tag (c x) ≡ table_tag g → any_number (c x) < any_number g) (map c ys)) xs (λ x p.
      All-map (λ g. table_tag (c x) ≡ table_tag g → any_number (c x) < any_number g) c ys (all_contained (λ y. table_tag (c x) ≡ table_tag (c y) → any_number (c x) < any_number (c y)) ys (λ y q same.
      let less = All-contains (λ z. number x < number z) ys y (All-contains (λ z. All (λ w. number z < number w) ys) xs x h p) q in
      subst (λ n. n < any_number (c y)) (sym (same_number x)) (subst (λ n. number x < n) (sym (same_number y)) less)))))

  below_flat : (xs : List F) (ps : List (List F)) → All (AreBelow number xs) ps → AreBelow number xs (facts_of ps ++ [])
  below_flat xs ps h = subst (λ ys. AreBelow number xs ys) (sym (append-nil (facts_of ps))) (all_contained (λ x. All (λ y. number x < number y) (facts_of ps)) xs (λ x p.
      all_flat (λ y. number x < number y) ps (all_contained (λ ys. All (λ y. number x < number y) ys) ps (λ ys q. All-contains (λ z. All (λ y. number z < number y) ys) xs x (All-contains (AreBelow number xs) ps ys h q) p))))

  flat_below : (xs : List F) (ps : List (List F)) → AreBelow number xs (facts_of ps ++ []) → All (AreBelow number xs) ps
  flat_below xs ps h0 =
      let h = subst (λ ys. AreBelow number xs ys) (append-nil (facts_of ps)) h0 in
      all_contained (AreBelow number xs) ps (λ ys q. all_contained (λ x. All (λ y. number x < number y) ys) xs (λ x p.
      All-contains (λ zs. All (λ y. number x < number y) zs) ps ys (of_flat (λ y. number x < number y) ps (All-contains (λ z. All (λ y. number z < number y) (facts_of ps)) xs x h p)) q))

  rises_of : (ps : List (List F)) → AllPairs (AreBelow number) ps → Rises number ps []
  rises_of [] h = tt
  rises_of (xs ∷ ps) h = (below_flat xs ps (pairs_head (AreBelow number) xs ps h), rises_of ps (pairs_tail (AreBelow number) xs ps h))

  of_rises : (ps : List (List F)) → Rises number ps [] → AllPairs (AreBelow number) ps
  of_rises [] h = pairs_nil (AreBelow number)
  of_rises (xs ∷ ps) h = pairs_cons (AreBelow number) xs ps (flat_below xs ps h.0) (of_rises ps h.1)

  table_rises : (ps : List (List F)) → AllPairs Older (map (map c) ps) → Rises number ps []
  table_rises ps h = rises_of ps (λ i j d low l. below_of _ _ (pairs_unmap Older (map c) ps h i j d low l))

  rises_table : (ps : List (List F)) → Rises number ps [] → AllPairs Older (map (map c) ps)
  rises_table ps h = pairs_map Older (map c) ps (λ i j d low l. of_below _ _ (of_rises ps h i j d low l))

-- facts of one table and those of others
others : {F G : Type 0} (c : F → AnyFact) (k : G → AnyFact) → ((x : F) (y : G) → table_tag (c x) ≡ table_tag (k y) → ⊥) → (ps : List (List F)) (qs : List (List G)) → All (λ fs. All (Older fs) (map (map k) qs)) (map (map c) ps)
others c k differ ps qs = All-map (λ fs. All (Older fs) (map (map k) qs)) (map c) ps (all_contained (λ xs. All (Older (map c xs)) (map (map k) qs)) ps (λ xs p.
    All-map (Older (map c xs)) (map k) qs (all_contained (λ ys. Older (map c xs) (map k ys)) qs (λ ys q.
    All-map (λ f. All (λ g. table_tag f ≡ table_tag g → any_number f < any_number g) (map k ys)) c xs (all_contained (λ x. All (λ g. table_tag (c x) ≡ table_tag g → any_number (c x) < any_number g) (map k ys)) xs (λ x r.
    All-map (λ g. table_tag (c x) ≡ table_tag g → any_number (c x) < any_number g) k ys (all_contained (λ y. table_tag (c x) ≡ table_tag (k y) → any_number (c x) < any_number (k y)) ys (λ y v same. absurd (differ x y same)))))))))

in_both : {X : Type 0} (R : X → X → Type 0) (xs ys zs : List X) → All (λ x. All (R x) ys) xs → All (λ x. All (R x) zs) xs → All (λ x. All (R x) (ys ++ zs)) xs
in_both R xs ys zs a b = all_contained (λ x. All (R x) (ys ++ zs)) xs (λ x c. All-append (R x) ys zs (All-contains (λ x. All (R x) ys) xs x a c) (All-contains (λ x. All (R x) zs) xs x b c))

-- the numbers of each table rise from patch to patch
pub record AreRising (t : LoadedTables) : Type 0 where
  pub objects : Rises (λ (f : ObjectFact). f.seq.0) t.objects.items []
  pub mediums : Rises (λ (f : MediumFact). f.seq.0) t.mediums.items []
  pub addresses : Rises (λ (f : AddressFact). f.seq.0) t.addresses.items []
  pub segments : Rises (λ (f : SegmentFact). f.seq.0) t.segments.items []
  pub elisions : Rises (λ (f : ElisionFact). f.seq.0) t.elisions.items []

module _ (boot : BootRecord) (t : LoadedTables) (named : AreNamed boot t) where
  abbrev os : List (List AnyFact)
  os = map (map any.Object) t.objects.items

  abbrev ms : List (List AnyFact)
  ms = map (map any.Medium) t.mediums.items

  abbrev as_ : List (List AnyFact)
  as_ = map (map any.Address) t.addresses.items

  abbrev ss : List (List AnyFact)
  ss = map (map any.Segment) t.segments.items

  abbrev es : List (List AnyFact)
  es = map (map any.Elision) t.elisions.items

  pub patches_rise : AreRising t → AllPairs IsOlder (with_facts boot.patches (patches_in t))
  patches_rise h =
      all_older boot.patches (patches_in t) named
      (pairs_join Older os (ms ++ (as_ ++ (ss ++ es))) (rises_table (λ f. f.seq.0) any.Object (λ x y. refl) (λ x. refl) t.objects.items h.objects)
      (pairs_join Older ms (as_ ++ (ss ++ es)) (rises_table (λ f. f.seq.0) any.Medium (λ x y. refl) (λ x. refl) t.mediums.items h.mediums)
      (pairs_join Older as_ (ss ++ es) (rises_table (λ f. f.seq.0) any.Address (λ x y. refl) (λ x. refl) t.addresses.items h.addresses)
      (pairs_join Older ss es (rises_table (λ f. f.seq.0) any.Segment (λ x y. refl) (λ x. refl) t.segments.items h.segments) (rises_table (λ f. f.seq.0) any.Elision (λ x y. refl) (λ x. refl) t.elisions.items h.elisions)
      (others any.Segment any.Elision (λ x y d. omega (arith, d)) t.segments.items t.elisions.items))
      (in_both Older as_ ss es (others any.Address any.Segment (λ x y d. omega (arith, d)) t.addresses.items t.segments.items) (others any.Address any.Elision (λ x y d. omega (arith, d)) t.addresses.items t.elisions.items)))
      (in_both Older ms as_ (ss ++ es) (others any.Medium any.Address (λ x y d. omega (arith, d)) t.mediums.items t.addresses.items)
      (in_both Older ms ss es (others any.Medium any.Segment (λ x y d. omega (arith, d)) t.mediums.items t.segments.items) (others any.Medium any.Elision (λ x y d. omega (arith, d)) t.mediums.items t.elisions.items))))
      (in_both Older os ms (as_ ++ (ss ++ es)) (others any.Object any.Medium (λ x y d. omega (arith, d)) t.objects.items t.mediums.items)
      (in_both Older os as_ (ss ++ es) (others any.Object any.Address (λ x y d. omega (arith, d)) t.objects.items t.addresses.items)
      (in_both Older os ss es (others any.Object any.Segment (λ x y d. omega (arith, d)) t.objects.items t.segments.items) (others any.Object any.Elision (λ x y d. omega (arith, d)) t.objects.items t.elisions.items)))))

  pub tables_rise : AllPairs IsOlder (with_facts boot.patches (patches_in t)) → AreRising t
  tables_rise h =
      let rising_0 : AllPairs Older (patches_in t) = older_all boot.patches (patches_in t) named h in
      let rising_1 : AllPairs Older (ms ++ (as_ ++ (ss ++ es))) = pairs_right Older os (ms ++ (as_ ++ (ss ++ es))) rising_0 in
      let rising_2 : AllPairs Older (as_ ++ (ss ++ es)) = pairs_right Older ms (as_ ++ (ss ++ es)) rising_1 in
      let rising_3 : AllPairs Older (ss ++ es) = pairs_right Older as_ (ss ++ es) rising_2 in
      record {
        objects = table_rises (λ f. f.seq.0) any.Object (λ x y. refl) (λ x. refl) t.objects.items (pairs_left Older os (ms ++ (as_ ++ (ss ++ es))) rising_0);
        mediums = table_rises (λ f. f.seq.0) any.Medium (λ x y. refl) (λ x. refl) t.mediums.items (pairs_left Older ms (as_ ++ (ss ++ es)) rising_1);
        addresses = table_rises (λ f. f.seq.0) any.Address (λ x y. refl) (λ x. refl) t.addresses.items (pairs_left Older as_ (ss ++ es) rising_2);
        segments = table_rises (λ f. f.seq.0) any.Segment (λ x y. refl) (λ x. refl) t.segments.items (pairs_left Older ss es rising_3);
        elisions = table_rises (λ f. f.seq.0) any.Elision (λ x y. refl) (λ x. refl) t.elisions.items (pairs_right Older ss es rising_3);
      }
