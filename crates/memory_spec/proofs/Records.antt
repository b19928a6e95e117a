-- A record that names the patches of sound memory is sound.
use Rattle.memory_spec.proofs.Prelude.{nat_tests, ◌≡◌, ◌≢◌, ℕ, suc, ◌<◌, List, [], ◌∷◌, ◌++◌, length, refl, sym, ap, ◌∙◌, arith, inl, inr, subst, map, Contains, AllPairs, AllByRecursion, AllZip, Contains-append_left, Contains-append_right, Contains-append_cases, Geometry, Facts, any_number, table_tag, object_key, medium_key, address_key, segment_key, elision_key, AnyFact, NextNumbers, BootRecord, Patch, in_patches, AreSound, AreIdsBelow, AreObjectsSound, AreMediumsSound, AreAddressesSound, AreSegmentsSound, AreElisionsSound, AreSequencesSound, IsOlder, with_facts, facts_of, Rises, here, there, either, nowhere, all_contained, below_at, Tables, facts, patches, all_of, Memory, IsSound, each_by_recursion, of_each, of_map, in_map, IsWhole, AreLayered, IsNamed, RecordIsSound, in_patches_are, flushed_are_all, patches_are_all}
use Rattle.std.proofs.lemmas.List.Kept.{AllPairs-cons}
use Rattle.pur_base.specs.declared.facts.AnyFact.TheVariants as any
use Rattle.pyramid.proofs.DistinctLemmas.{Differ, differ_layers}

-- ---- pairs

pairs_head : {X : Type 0} (R : X → X → Type 0) (x : X) (xs : List X) → AllPairs R (x ∷ xs) → (y : X) → Contains xs y → R x y
pairs_head R x xs h y c = subst (λ z. R x z) c.2 (h 0 (suc c.0) y (omega arith) (let l = c.1 in omega (arith, l)))

pairs_tail : {X : Type 0} (R : X → X → Type 0) (x : X) (xs : List X) → AllPairs R (x ∷ xs) → AllPairs R xs
pairs_tail R x xs h i j d l m = h (suc i) (suc j) d (omega (arith, l)) (omega (arith, m))

no_pairs : {X : Type 0} (R : X → X → Type 0) → AllPairs R []
no_pairs R i j d l m = absurd (omega (arith, m))

cons_pairs : {X : Type 0} (R : X → X → Type 0) (x : X) (xs : List X) → ((y : X) → Contains xs y → R x y) → AllPairs R xs → AllPairs R (x ∷ xs)
cons_pairs R x xs h p = AllPairs-cons R x xs (all_contained (R x) xs h) p

pub pairs_append : {X : Type 0} (R : X → X → Type 0) (xs ys : List X) → AllPairs R xs → AllPairs R ys → ((x y : X) → Contains xs x → Contains ys y → R x y) → AllPairs R (xs ++ ys)
pairs_append R [] ys p q h = q
pairs_append R (x ∷ xs) ys p q h =
    cons_pairs R x (xs ++ ys) (λ y c. elim (Contains-append_cases xs ys y c) [ inl a ↦ pairs_head R x xs p y a | inr b ↦ h x y (here x xs) b ])
    (pairs_append R xs ys (pairs_tail R x xs p) q (λ z y c d. h z y (there x z xs c) d))

pairs_map : {X Y : Type 0} (R : X → X → Type 0) (S : Y → Y → Type 0) (f : X → Y) → (xs : List X) → AllPairs R xs → ((x y : X) → Contains xs x → Contains xs y → R x y → S (f x) (f y)) → AllPairs S (map f xs)
pairs_map R S f [] p h = no_pairs S
pairs_map R S f (x ∷ xs) p h =
    cons_pairs S (f x) (map f xs) (λ y c. let w = of_map f xs y c in subst (λ z. S (f x) z) (sym w.2) (h x w.0 (here x xs) (there x w.0 xs w.1) (pairs_head R x xs p w.0 w.1)))
    (pairs_map R S f xs (pairs_tail R x xs p) (λ y z c d. h y z (there x y xs c) (there x z xs d)))

-- ---- numbers of facts tell them apart

abbrev Apart : AnyFact → AnyFact → Type 0
Apart f g = any_number f ≢ any_number g

-- two facts with one number are of one table
module _ (fs : List AnyFact) (one : (f g : AnyFact) → Contains fs f → Contains fs g → any_number f ≡ any_number g → f ≡ g) where
  -- facts of one table, of which no two have one key and one number
  table_apart : {F : Type 0} (c : F → AnyFact) (key number : F → ℕ) → ((f : F) → any_number (c f) ≡ number f) → ((f g : F) → c f ≡ c g → f ≡ g)
      → (xs : List F) → AllPairs (Differ key number) xs → ((f : F) → Contains xs f → Contains fs (c f)) → AllPairs Apart (map c xs)
  table_apart c key number is exact xs p within = pairs_map (Differ key number) Apart c xs p (λ f g i j differ e.
      let same = exact f g (one (c f) (c g) (within f i) (within g j) e) in
      differ (ap key same) (ap number same))

  -- facts of a table, and those of later ones
  later_apart : (xs ys : List AnyFact) (tag : ℕ) → ((f : AnyFact) → Contains xs f → table_tag f ≡ tag) → ((f : AnyFact) → Contains ys f → tag < table_tag f)
      → ((f : AnyFact) → Contains xs f → Contains fs f) → ((f : AnyFact) → Contains ys f → Contains fs f) → (f g : AnyFact) → Contains xs f → Contains ys g → Apart f g
  later_apart xs ys tag first later xs_in ys_in f g c d e =
      let same : table_tag f ≡ table_tag g = ap table_tag (one f g (xs_in f c) (ys_in g d) e) in
      let a = first f c in
      let b = later g d in
      omega (arith, same, a, b)

-- ---- the facts behind one another

of_table : {F : Type 0} (c : F → AnyFact) (tag : ℕ) → ((f : F) → table_tag (c f) ≡ tag) → (xs : List F) (a : AnyFact) → Contains (map c xs) a → table_tag a ≡ tag
of_table c tag is xs a i = let w = of_map c xs a i in ap table_tag w.2 ∙ is w.0

module _ (f : Facts) where
  abbrev Fourth : List AnyFact
  Fourth = map any.Segment f.segments ++ map any.Elision f.elisions

  abbrev Third : List AnyFact
  Third = map any.Address f.addresses ++ Fourth

  abbrev Second : List AnyFact
  Second = map any.Medium f.mediums ++ Third

  past_four : (a : AnyFact) → Contains (map any.Elision f.elisions) a → 4 < table_tag a
  past_four a c = let e = of_table any.Elision 5 (λ x. refl) f.elisions a c in omega (arith, e)

  past_three : (a : AnyFact) → Contains Fourth a → 3 < table_tag a
  past_three a c = elim (Contains-append_cases (map any.Segment f.segments) (map any.Elision f.elisions) a c) [
    | inl d ↦ (let e = of_table any.Segment 4 (λ x. refl) f.segments a d in omega (arith, e))
    | inr d ↦ (let e = past_four a d in omega (arith, e))
  ]

  past_two : (a : AnyFact) → Contains Third a → 2 < table_tag a
  past_two a c = elim (Contains-append_cases (map any.Address f.addresses) Fourth a c) [
    | inl d ↦ (let e = of_table any.Address 3 (λ x. refl) f.addresses a d in omega (arith, e))
    | inr d ↦ (let e = past_three a d in omega (arith, e))
  ]

  past_one : (a : AnyFact) → Contains Second a → 1 < table_tag a
  past_one a c = elim (Contains-append_cases (map any.Medium f.mediums) Third a c) [
    | inl d ↦ (let e = of_table any.Medium 2 (λ x. refl) f.mediums a d in omega (arith, e))
    | inr d ↦ (let e = past_two a d in omega (arith, e))
  ]

-- five tables, of each of which no two facts have one key and one number, and of which no two facts have one number
all_apart : (f : Facts) → ((a b : AnyFact) → Contains (all_of f) a → Contains (all_of f) b → any_number a ≡ any_number b → a ≡ b)
    → AllPairs (Differ object_key (λ x. x.seq.0)) f.objects → AllPairs (Differ medium_key (λ x. x.seq.0)) f.mediums → AllPairs (Differ address_key (λ x. x.seq.0)) f.addresses
    → AllPairs (Differ segment_key (λ x. x.seq.0)) f.segments → AllPairs (Differ elision_key (λ x. x.seq.0)) f.elisions → AllPairs Apart (all_of f)
all_apart f one o m a s e =
    pairs_append Apart (map any.Object f.objects) (Second f) (table_apart (all_of f) one any.Object object_key (λ x. x.seq.0) (λ x. refl) (λ x y i. cc) f.objects o (λ x c. in_o (any.Object x) (in_map any.Object f.objects x c)))
    (pairs_append Apart (map any.Medium f.mediums) (Third f) (table_apart (all_of f) one any.Medium medium_key (λ x. x.seq.0) (λ x. refl) (λ x y i. cc) f.mediums m (λ x c. in_m (any.Medium x) (in_map any.Medium f.mediums x c)))
    (pairs_append Apart (map any.Address f.addresses) (Fourth f) (table_apart (all_of f) one any.Address address_key (λ x. x.seq.0) (λ x. refl) (λ x y i. cc) f.addresses a (λ x c. in_a (any.Address x) (in_map any.Address f.addresses x c)))
    (pairs_append Apart (map any.Segment f.segments) (map any.Elision f.elisions) (table_apart (all_of f) one any.Segment segment_key (λ x. x.seq.0) (λ x. refl) (λ x y i. cc) f.segments s (λ x c. in_s (any.Segment x) (in_map any.Segment f.segments x c)))
    (table_apart (all_of f) one any.Elision elision_key (λ x. x.seq.0) (λ x. refl) (λ x y i. cc) f.elisions e (λ x c. in_e (any.Elision x) (in_map any.Elision f.elisions x c)))
    (later_apart (all_of f) one (map any.Segment f.segments) (map any.Elision f.elisions) 4 (of_table any.Segment 4 (λ x. refl) f.segments) (past_four f) in_s in_e))
    (later_apart (all_of f) one (map any.Address f.addresses) (Fourth f) 3 (of_table any.Address 3 (λ x. refl) f.addresses) (past_three f) in_a in_fourth))
    (later_apart (all_of f) one (map any.Medium f.mediums) (Third f) 2 (of_table any.Medium 2 (λ x. refl) f.mediums) (past_two f) in_m in_third))
    (later_apart (all_of f) one (map any.Object f.objects) (Second f) 1 (of_table any.Object 1 (λ x. refl) f.objects) (past_one f) in_o in_second)
  where
    in_o : (x : AnyFact) → Contains (map any.Object f.objects) x → Contains (all_of f) x
    in_o x c = Contains-append_left (map any.Object f.objects) (Second f) x c

    in_second : (x : AnyFact) → Contains (Second f) x → Contains (all_of f) x
    in_second x c = Contains-append_right (map any.Object f.objects) (Second f) x c

    in_m : (x : AnyFact) → Contains (map any.Medium f.mediums) x → Contains (all_of f) x
    in_m x c = in_second x (Contains-append_left (map any.Medium f.mediums) (Third f) x c)

    in_third : (x : AnyFact) → Contains (Third f) x → Contains (all_of f) x
    in_third x c = in_second x (Contains-append_right (map any.Medium f.mediums) (Third f) x c)

    in_a : (x : AnyFact) → Contains (map any.Address f.addresses) x → Contains (all_of f) x
    in_a x c = in_third x (Contains-append_left (map any.Address f.addresses) (Fourth f) x c)

    in_fourth : (x : AnyFact) → Contains (Fourth f) x → Contains (all_of f) x
    in_fourth x c = in_third x (Contains-append_right (map any.Address f.addresses) (Fourth f) x c)

    in_s : (x : AnyFact) → Contains (map any.Segment f.segments) x → Contains (all_of f) x
    in_s x c = in_fourth x (Contains-append_left (map any.Segment f.segments) (map any.Elision f.elisions) x c)

    in_e : (x : AnyFact) → Contains (map any.Elision f.elisions) x → Contains (all_of f) x
    in_e x c = in_fourth x (Contains-append_right (map any.Segment f.segments) (map any.Elision f.elisions) x c)

-- ---- later patches have greater numbers

-- each number of the first is below each of the second, where they are of one table
abbrev Rising : List AnyFact → List AnyFact → Type 0
Rising fs gs = (f g : AnyFact) → Contains fs f → Contains gs g → table_tag f ≡ table_tag g → any_number f < any_number g

in_facts : {F : Type 0} (ps : List (List F)) (p : List F) (f : F) → Contains ps p → Contains p f → Contains (facts_of ps) f
in_facts [] p f c d = absurd (nowhere p c)
in_facts (q ∷ ps) p f c d = elim (either q p ps c) [
  | inl same ↦ Contains-append_left q (facts_of ps) f (subst (λ l. Contains l f) same d)
  | inr rest ↦ Contains-append_right q (facts_of ps) f (in_facts ps p f rest d)
]

table_rises : {F : Type 0} (c : F → AnyFact) (number : F → ℕ) → ((f : F) → any_number (c f) ≡ number f) → (ps : List (List F)) (us : List F) → Rises number ps us → AllPairs Rising (map (map c) ps)
table_rises c number is [] us h = no_pairs Rising
table_rises c number is (p ∷ ps) us h = cons_pairs Rising (map c p) (map (map c) ps) first (table_rises c number is ps us h.1)
  where
    first : (qs : List AnyFact) → Contains (map (map c) ps) qs → Rising (map c p) qs
    first qs i f g a b tags =
        let q = of_map (map c) ps qs i in
        let v = of_map c p f a in
        let w = of_map c q.0 g (subst (λ l. Contains l g) q.2 b) in
        let less : number v.0 < number w.0 = below_at number p (facts_of ps ++ us) v.0 w.0 h.0 v.1 (Contains-append_left (facts_of ps) us w.0 (in_facts ps q.0 w.0 q.1 w.1)) in
        let left : any_number f ≡ number v.0 = ap any_number v.2 ∙ is v.0 in
        let right : any_number g ≡ number w.0 = ap any_number w.2 ∙ is w.0 in
        omega (arith, less, left, right)

-- patches of a table, and those of later ones
tables_rise : (ps qs : List (List AnyFact)) (tag : ℕ) → ((p : List AnyFact) (f : AnyFact) → Contains ps p → Contains p f → table_tag f ≡ tag)
    → ((q : List AnyFact) (g : AnyFact) → Contains qs q → Contains q g → tag < table_tag g) → AllPairs Rising ps → AllPairs Rising qs → AllPairs Rising (ps ++ qs)
tables_rise ps qs tag first later p q = pairs_append Rising ps qs p q (λ x y c d f g a b same.
    let e = first x f c a in
    let l = later y g d b in
    absurd (omega (arith, e, l, same)))

in_table : {F : Type 0} (c : F → AnyFact) (tag : ℕ) → ((f : F) → table_tag (c f) ≡ tag) → (ps : List (List F)) (p : List AnyFact) (f : AnyFact) → Contains (map (map c) ps) p → Contains p f → table_tag f ≡ tag
in_table c tag is ps p f i j = let w = of_map (map c) ps p i in of_table c tag is w.0 f (subst (λ l. Contains l f) w.2 j)

module _ (t : Tables) where
  abbrev Ps4 : List (List AnyFact)
  Ps4 = map (map any.Segment) t.segments.patches ++ map (map any.Elision) t.elisions.patches

  abbrev Ps3 : List (List AnyFact)
  Ps3 = map (map any.Address) t.addresses.patches ++ Ps4

  abbrev Ps2 : List (List AnyFact)
  Ps2 = map (map any.Medium) t.mediums.patches ++ Ps3

  after_four : (p : List AnyFact) (f : AnyFact) → Contains (map (map any.Elision) t.elisions.patches) p → Contains p f → 4 < table_tag f
  after_four p f i j = let e = in_table any.Elision 5 (λ x. refl) t.elisions.patches p f i j in omega (arith, e)

  after_three : (p : List AnyFact) (f : AnyFact) → Contains Ps4 p → Contains p f → 3 < table_tag f
  after_three p f i j = elim (Contains-append_cases (map (map any.Segment) t.segments.patches) (map (map any.Elision) t.elisions.patches) p i) [
    | inl d ↦ (let e = in_table any.Segment 4 (λ x. refl) t.segments.patches p f d j in omega (arith, e))
    | inr d ↦ (let e = after_four p f d j in omega (arith, e))
  ]

  after_two : (p : List AnyFact) (f : AnyFact) → Contains Ps3 p → Contains p f → 2 < table_tag f
  after_two p f i j = elim (Contains-append_cases (map (map any.Address) t.addresses.patches) Ps4 p i) [
    | inl d ↦ (let e = in_table any.Address 3 (λ x. refl) t.addresses.patches p f d j in omega (arith, e))
    | inr d ↦ (let e = after_three p f d j in omega (arith, e))
  ]

  after_one : (p : List AnyFact) (f : AnyFact) → Contains Ps2 p → Contains p f → 1 < table_tag f
  after_one p f i j = elim (Contains-append_cases (map (map any.Medium) t.mediums.patches) Ps3 p i) [
    | inl d ↦ (let e = in_table any.Medium 2 (λ x. refl) t.mediums.patches p f d j in omega (arith, e))
    | inr d ↦ (let e = after_two p f d j in omega (arith, e))
  ]

  patches_rise : AreLayered t → AllPairs Rising (patches t)
  patches_rise l =
      tables_rise (map (map any.Object) t.objects.patches) Ps2 1 (in_table any.Object 1 (λ x. refl) t.objects.patches) after_one
      (table_rises any.Object (λ x. x.seq.0) (λ x. refl) t.objects.patches t.objects.unflushed l.objects.rises)
      (tables_rise (map (map any.Medium) t.mediums.patches) Ps3 2 (in_table any.Medium 2 (λ x. refl) t.mediums.patches) after_two
      (table_rises any.Medium (λ x. x.seq.0) (λ x. refl) t.mediums.patches t.mediums.unflushed l.mediums.rises)
      (tables_rise (map (map any.Address) t.addresses.patches) Ps4 3 (in_table any.Address 3 (λ x. refl) t.addresses.patches) after_three
      (table_rises any.Address (λ x. x.seq.0) (λ x. refl) t.addresses.patches t.addresses.unflushed l.addresses.rises)
      (tables_rise (map (map any.Segment) t.segments.patches) (map (map any.Elision) t.elisions.patches) 4 (in_table any.Segment 4 (λ x. refl) t.segments.patches) after_four
      (table_rises any.Segment (λ x. x.seq.0) (λ x. refl) t.segments.patches t.segments.unflushed l.segments.rises)
      (table_rises any.Elision (λ x. x.seq.0) (λ x. refl) t.elisions.patches t.elisions.unflushed l.elisions.rises))))

-- a patch with its facts is one that the record names
with_named : (ps : List Patch) (fs : List (List AnyFact)) → AllZip IsNamed ps fs → (q : Patch × List AnyFact) → Contains (with_facts ps fs) q → Contains fs q.1 × IsNamed q.0 q.1
with_named [] fs h q c = absurd (nowhere q c)
with_named (p ∷ ps) [] h q c = absurd h
with_named (p ∷ ps) (f ∷ fs) h q c = elim (either (p, f) q (with_facts ps fs) c) [
  | inl same ↦ subst (λ z. Contains (f ∷ fs) z.1 × IsNamed z.0 z.1) (sym same) (here f fs, h.0)
  | inr rest ↦ (let w = with_named ps fs h.1 q rest in (there f q.1 fs w.0, w.1))
]

-- patches of one tag rise
older : (p q : Patch) (fs gs : List AnyFact) → IsNamed p fs → IsNamed q gs → Rising fs gs → IsOlder (p, fs) (q, gs)
older p q fs gs n m rising tags = each_by_recursion (λ f. AllByRecursion (λ g. any_number f < any_number g) gs) fs (λ f c. each_by_recursion (λ g. any_number f < any_number g) gs (λ g d.
    rising f g c d (of_each (λ h. table_tag h ≡ p.tag) fs f n.table c ∙ tags ∙ sym (of_each (λ h. table_tag h ≡ q.tag) gs g m.table d))))

named_rise : (ps : List Patch) (fs : List (List AnyFact)) → AllZip IsNamed ps fs → AllPairs Rising fs → AllPairs IsOlder (with_facts ps fs)
named_rise [] fs h r = no_pairs IsOlder
named_rise (p ∷ ps) [] h r = absurd h
named_rise (p ∷ ps) (f ∷ fs) h r = cons_pairs IsOlder (p, f) (with_facts ps fs)
    (λ q c. let w = with_named ps fs h.1 q c in older p q.0 f q.1 h.0 w.1 (pairs_head Rising f fs r q.1 w.0))
    (named_rise ps fs h.1 (pairs_tail Rising f fs r))

-- ---- the record

module _ (shelf : Geometry) (boot : BootRecord) (m : Memory) (sound : IsSound m) (whole : IsWhole m) (layered : AreLayered m.tables) (segments : AreSegmentsSound shelf boot (facts m.tables))
    (next : boot.next ≡ m.next) (named : AllZip IsNamed boot.patches (patches m.tables)) where
  in_all : in_patches (patches m.tables) ≡ all_of (facts m.tables)
  in_all = in_patches_are m.tables ∙ ap all_of (flushed_are_all m whole)

  addresses : AreAddressesSound (facts m.tables)
  addresses = grind (arith, nat_tests, there, length)

  apart : AllPairs Apart (all_of (facts m.tables))
  apart = all_apart (facts m.tables) sound.numbers.distinct
      (differ_layers object_key (λ x. x.seq.0) m.tables.objects.patches m.tables.objects.unflushed layered.objects.ascend layered.objects.ordered layered.objects.rises)
      (differ_layers medium_key (λ x. x.seq.0) m.tables.mediums.patches m.tables.mediums.unflushed layered.mediums.ascend layered.mediums.ordered layered.mediums.rises)
      (differ_layers address_key (λ x. x.seq.0) m.tables.addresses.patches m.tables.addresses.unflushed layered.addresses.ascend layered.addresses.ordered layered.addresses.rises)
      (differ_layers segment_key (λ x. x.seq.0) m.tables.segments.patches m.tables.segments.unflushed layered.segments.ascend layered.segments.ordered layered.segments.rises)
      (differ_layers elision_key (λ x. x.seq.0) m.tables.elisions.patches m.tables.elisions.unflushed layered.elisions.ascend layered.elisions.ordered layered.elisions.rises)

  sequences : AreSequencesSound boot (patches m.tables)
  sequences = record {
    below = rw (in_all, next) (each_by_recursion (λ f. any_number f < m.next.sequence) (all_of (facts m.tables)) sound.numbers.below);
    distinct = rw in_all apart;
    rising = named_rise boot.patches (patches m.tables) named (patches_rise m.tables layered);
  }

  pub is_sound : AreSound shelf boot (patches m.tables)
  is_sound = grind (arith, nat_tests, patches_are_all, sequences)

pub record_is_sound : RecordIsSound
record_is_sound shelf boot m sound whole layered segments next named = is_sound shelf boot m sound whole layered segments next named
