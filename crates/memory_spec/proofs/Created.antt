-- Memory stays sound when a volume is created, and reads as the array with one more volume.
use Rattle.memory_spec.proofs.Prelude.{nat_tests, ◌≡◌, ◌≢◌, ◌⊎◌, ℕ, ◌+◌, ◌<◌, ◌≤◌, Bool, true, false, List, [], ◌∷◌, ◌++◌, length, refl, sym, ap, ◌∙◌, arith, inl, inr, Option, Some, None, is_some, Contains, get_or, replicate, option_and_then, if◌then◌else◌, cond, ◌==◌, ◌&&◌, nat_le, length-append, eq-eqb, ne_eqb, eqb-true, leb-true, find, AllByRecursion, AllZip, cases_eq, and_parts, both_ways, Contains-get_or, Contains-push_cases, bytes_eq-Decides, filled, Array, has, is_named, appended, Facts, any_number, object_key, never, key_of, id_of, unless_empty, tag_of, objects, object, range, address, elides, is_elided, IsOver, OBJECTS, OBJECT_SECTORS, Table, Location, ObjectFact, MediumFact, AddressFact, ElisionFact, AnyFact, NextNumbers, AreNext, IsFact, AreIdsBelow, AreObjectsSound, AreMediumsSound, OwnsMedium, next_id, not_both, same_some, AreDistinct, newest_of, here, either, nowhere, id_of_key, all_contained, facts, all_of, Memory, Contents, EntryReads, FactsRead, FitsInMemory, IsThere, AreAddressesThere, IsSound, ReadsAs, AreNew, IsCreated, HasCreated, IsNextVolume, CreatingReads, each_by_recursion, of_each, zip_long, object_is, all_objects, all_mediums, all_addresses, numbered_more, IsIdBelow, IsNoLower, as_it_was, old_or_added, fit_more, ids_more, range_kept, address_kept, segment_kept, range_is, address_is, none_since, some_since, only_newest, no_newest, newest_kept, newest_given, over_before}
use Rattle.std.proofs.lemmas.List.Folds.{list_any_none}
use Rattle.std.proofs.lemmas.List.Quantifiers.{all_pairs_push}
use Rattle.pur_base.specs.declared.request.Table.TheVariants as table
use Rattle.pur_base.specs.declared.facts.AnyFact.TheVariants as any
use Rattle.pyramid.proofs.DistinctLemmas.{one_more}
use Rattle.memory_spec.proofs.Creating.{objects_more, create_reads}
use Rattle.memory_spec.proofs.Putting.{object_fits}

-- ---- ids that aren't given yet

same_next : (n : NextNumbers) (a b : Table) → tag_of a ≡ tag_of b → next_id n a ≡ next_id n b
same_next n table.Object table.Object e = refl
same_next n table.Medium table.Medium e = refl
same_next n table.Address table.Address e = refl
same_next n table.Segment table.Segment e = refl
same_next n table.Elision table.Elision e = refl
same_next n a b e = absurd (omega (arith, e))

-- no elision has an id that isn't given yet
pub not_elided : (n : NextNumbers) (f : Facts) (t : Table) (id : ℕ) → AreIdsBelow n f → next_id n t ≤ id → is_elided f.elisions t id ≡ false
not_elided n f t id below l = list_any_none (elides t id) f.elisions (all_contained (λ e. elides t id e ≡ false) f.elisions one)
  where
    one : (e : ElisionFact) → Contains f.elisions e → elides t id e ≡ false
    one e c = two (elides t id e) refl
      where
        two : (b : Bool) → elides t id e ≡ b → elides t id e ≡ false
        two false is = is
        two true is =
            let p = and_parts ((tag_of e.table == tag_of t) && nat_le e.first id) (nat_le id e.last) is in
            let q = and_parts (tag_of e.table == tag_of t) (nat_le e.first id) p.0 in
            let last : id ≤ e.last = leb-true id e.last p.1 in
            let next : next_id n e.table ≡ next_id n t = same_next n e.table t (eqb-true (tag_of e.table) (tag_of t) q.0) in
            let less : e.last < next_id n e.table = of_each (λ (g : ElisionFact). g.last < next_id n g.table) f.elisions e below.elisions c in
            absurd (omega (arith, last, next, less, l))

-- ---- a name that no entry has

no_name : (contents : Contents) (staged : List (List ℕ)) (f : Facts) (name : List ℕ) (xs : List ObjectFact) (es : Array) → AllZip (EntryReads contents staged f) xs es → has es name ≡ false
    → (y : ObjectFact) → Contains xs y → y.name ≢ name
no_name contents staged f name [] es h free y c same = nowhere y c
no_name contents staged f name (x ∷ xs) [] h free y c same = h
no_name contents staged f name (x ∷ xs) (e ∷ es) h free y c same =
    one (is_named name e) refl free (λ rest d. no_name contents staged f name xs es h.1 rest y d same)
  where
    one : (b : Bool) → is_named name e ≡ b → is_some (cond b (Some e) (find (is_named name) es)) ≡ false → (has es name ≡ false → Contains xs y → ⊥) → ⊥
    one true t none rest = absurd (both_ways true none refl)
    one false t none rest = grind (arith, nat_tests, either, both_ways, bytes_eq-Decides)

-- ---- the creation

module _ (was now : Memory) (x : ObjectFact) (sound : IsSound was) (new : IsNextVolume was x)
    (free : (y : ObjectFact) → Contains (objects (facts was.tables) was.next.object) y → y.name ≢ x.name) (room : length (objects (facts was.tables) was.next.object) < OBJECTS) (made : HasCreated was now x) where
  object_ids : (y : ObjectFact) → Contains (facts was.tables).objects y → (y.object.0 < was.next.object) × (y.medium.0 < was.next.medium)
  object_ids y c = of_each (λ f. (f.object.0 < was.next.object) × (f.medium.0 < was.next.medium)) (facts was.tables).objects y sound.ids.objects c

  range_ids : (y : MediumFact) → Contains (facts was.tables).mediums y → y.medium.0 < was.next.medium
  range_ids y c = of_each (λ f. f.medium.0 < was.next.medium) (facts was.tables).mediums y sound.ids.mediums c

  address_ids : (y : AddressFact) → Contains (facts was.tables).addresses y → y.medium.0 < was.next.medium
  address_ids y c = of_each (λ f. f.medium.0 < was.next.medium) (facts was.tables).addresses y sound.ids.addresses c

  -- no fact speaks of it yet
  fresh : AreNew (facts was.tables) x.object.0 x.medium.0
  fresh = record {
    no_object = none_since (object (facts was.tables) x.object.0) (λ y e.
        let is = object_is (facts was.tables) x.object.0 y e in
        let low = (object_ids y is.0).0 in
        omega (arith, is.1, low, new.object));
    no_address = λ s. none_since (address (facts was.tables) x.medium.0 s) (λ t e.
        let g = address_is (facts was.tables) x.medium.0 s t e in
        let low = address_ids g.0 g.1 in
        let small : g.0.sector < OBJECT_SECTORS = (sound.fit (any.Address g.0) (all_addresses (facts was.tables) g.0 g.1)).2 in
        omega (arith, g.2, low, small, new.medium));
    no_range = λ s. none_since (range (facts was.tables) x.medium.0 s) (λ q e.
        let is = range_is (facts was.tables) x.medium.0 s q e in
        let low = range_ids q is.0 in
        let fits : IsFact (any.Medium q) = sound.fit (any.Medium q) (all_mediums (facts was.tables) q is.0) in
        omega (arith, is.1, low, fits.fits, new.medium));
  }

  same_object : (f g : ObjectFact) → any.Object f ≡ any.Object g → f ≡ g
  same_object f g e = cc

  object_numbers : AreDistinct (λ (f : ObjectFact). f.seq.0) (facts was.tables).objects
  object_numbers f g c d e = same_object f g (sound.numbers.distinct (any.Object f) (any.Object g) (all_objects (facts was.tables) f c) (all_objects (facts was.tables) g d) e)

  alone : (f : ObjectFact) → Contains (x ∷ []) f → f ≡ x
  alone f c = elim (either x f [] c) [ inl same ↦ same | inr d ↦ absurd (nowhere f d) ]

  older : (f g : ObjectFact) → Contains (facts was.tables).objects f → Contains (x ∷ []) g → f.seq.0 < g.seq.0
  older f g c d =
      let less : f.seq.0 < was.next.sequence = sound.numbers.below (any.Object f) (all_objects (facts was.tables) f c) in
      let same : g.seq.0 ≡ x.seq.0 = ap (λ z. z.seq.0) (alone g d) in
      omega (arith, less, same, new.number)

  one_number : AreDistinct (λ (f : ObjectFact). f.seq.0) (x ∷ [])
  one_number f g c d e = alone f c ∙ sym (alone g d)

  kept_object : is_elided (facts was.tables).elisions table.Object x.object.0 ≡ false
  kept_object = not_elided was.next (facts was.tables) table.Object x.object.0 sound.ids (let next = new.object in omega (arith, next))

  -- what is said of a key, by its newest fact
  abbrev Said : List ElisionFact → ℕ → Option ObjectFact → Option ObjectFact
  Said elisions k o = if is_elided elisions table.Object (id_of k) then None else option_and_then (unless_empty never) o

  object_there : (id : ℕ) → id ≡ x.object.0 → object (facts now.tables) id ≡ Some x
  object_there id same =
      let key : id_of (key_of id 0) ≡ x.object.0 = id_of_key id 0 (omega arith) ∙ same in
      let at : object_key x ≡ key_of id 0 = ap (λ i. key_of i 0) (sym same) in
      ap (λ o. Said (facts now.tables).elisions (key_of id 0) o)
      (newest_given object_key (λ f. f.seq.0) (facts was.tables).objects (facts now.tables).objects (x ∷ []) (one_more (facts was.tables).objects (facts now.tables).objects x made.objects) older object_numbers one_number
      (key_of id 0) x (only_newest object_key (λ f. f.seq.0) (x ∷ []) (key_of id 0) x (here x []) at (λ f c e. alone f c)))
      ∙ ap (λ b. if b then None else Some x)
      (ap (λ i. is_elided (facts now.tables).elisions table.Object i) key ∙ ap (λ l. is_elided l table.Object x.object.0) made.elisions ∙ kept_object)

  object_other : (id : ℕ) → (id ≡ x.object.0 → ⊥) → object (facts now.tables) id ≡ object (facts was.tables) id
  object_other id ne =
      let none = no_newest object_key (λ f. f.seq.0) (x ∷ []) (key_of id 0) (λ f c e.
      let key : key_of f.object.0 0 ≡ key_of id 0 = e in
      let same : f.object.0 ≡ x.object.0 = ap (λ z. z.object.0) (alone f c) in
      ne (omega (arith, key, same))) in
      ap (λ o. Said (facts now.tables).elisions (key_of id 0) o)
      (newest_kept object_key (λ f. f.seq.0) (facts was.tables).objects (facts now.tables).objects (x ∷ []) (one_more (facts was.tables).objects (facts now.tables).objects x made.objects) older object_numbers one_number (key_of id 0) none)
      ∙ ap (λ l. Said l (key_of id 0) (newest_of object_key (λ f. f.seq.0) (key_of id 0) (facts was.tables).objects)) made.elisions

  created : IsCreated (facts was.tables) (facts now.tables) x
  created = grind (arith, nat_tests, cases_eq, object_there, eq-eqb, object_other, ne_eqb, range_kept, address_kept)

  -- an object is the new one or an old one
  which : (id : ℕ) (y : ObjectFact) → object (facts now.tables) id ≡ Some y → (y ≡ x) ⊎ (object (facts was.tables) id ≡ Some y)
  which id y e = grind (arith, nat_tests, object, same_some, object_there, object_other)

  -- ---- soundness, part by part

  x_fits : IsFact (any.Object x)
  x_fits = grind (arith, nat_tests)

  -- the object is what was added
  abbrev Added : AnyFact → Type 0
  Added (any.Object y) = y ≡ x
  Added _ = ⊥

  split : (a : AnyFact) → Contains (all_of (facts now.tables)) a → Contains (all_of (facts was.tables)) a ⊎ Added a
  split = old_or_added (facts was.tables) (facts now.tables) Added (λ y. (made.objects y).0) (as_it_was _ made.mediums) (as_it_was _ made.addresses) (as_it_was _ made.segments) (as_it_was _ made.elisions)

  added_fits : (n : ℕ) (a : AnyFact) → Added a → FitsInMemory n a
  added_fits n (any.Object y) same = rw same x_fits
  added_fits n a c = absurd c

  added_below : (a : AnyFact) → Added a → IsIdBelow now.next a
  added_below a c = let object = new.object in let medium = new.medium in let next = made.next in grind (arith, nat_tests)

  added_number : (a : AnyFact) → Added a → (was.next.sequence ≤ any_number a) × (any_number a < now.next.sequence)
  added_number a c = let number = new.number in let next = made.next in grind (arith, nat_tests)

  one_added : (a b : AnyFact) → Added a → Added b → any_number a ≡ any_number b → a ≡ b
  one_added (any.Object y) (any.Object z) c d e = ap any.Object (c ∙ sym d)
  one_added a b c d e = grind arith

  later : IsNoLower was.next now.next
  later = let next = made.next in grind (arith, nat_tests)

  next : AreNext now.next
  next = let old = sound.next in let next = made.next in grind (arith, nat_tests, new)

  objects_are : objects (facts now.tables) now.next.object ≡ objects (facts was.tables) was.next.object ++ x ∷ []
  objects_are = grind (arith, nat_tests, objects_more, created)

  -- an old object is a fact with an older medium
  old_medium : (y : ObjectFact) → Contains (objects (facts was.tables) was.next.object) y → y.medium.0 < x.medium.0
  old_medium y c =
      let low = (object_ids y (object_fits was sound y c).0).1 in
      omega (arith, low, new.medium)

  each_kept : (t : Table) → next_id was.next t ≡ was.next.medium → AllByRecursion (λ y. is_elided (facts was.tables).elisions t y.medium.0 ≡ false) (objects (facts was.tables) was.next.object)
      → AllByRecursion (λ y. is_elided (facts now.tables).elisions t y.medium.0 ≡ false) (objects (facts now.tables) now.next.object)
  each_kept t e kept = rw (objects_are, made.elisions) (each_by_recursion (λ y. is_elided (facts was.tables).elisions t y.medium.0 ≡ false) (objects (facts was.tables) was.next.object ++ x ∷ [])
      (λ y c. elim (Contains-push_cases (objects (facts was.tables) was.next.object) x y c) [
        | inl old ↦ of_each (λ y. is_elided (facts was.tables).elisions t y.medium.0 ≡ false) (objects (facts was.tables) was.next.object) y kept old
        | inr same ↦ rw (sym same) (not_elided was.next (facts was.tables) t x.medium.0 sound.ids (omega (arith, new.medium, e)))
      ]))

  sound_objects : AreObjectsSound (facts now.tables) now.next.object
  sound_objects = record {
    names = rw objects_are (all_pairs_push (λ (a b : ObjectFact). a.name ≢ b.name) (objects (facts was.tables) was.next.object) x sound.objects.names (λ k d l.
        free (get_or (objects (facts was.tables) was.next.object) k d) (Contains-get_or (objects (facts was.tables) was.next.object) k d l)));
    mediums = rw objects_are (all_pairs_push (λ (a b : ObjectFact). OwnsMedium a b × OwnsMedium b a) (objects (facts was.tables) was.next.object) x sound.objects.mediums (λ k d l.
        let low = old_medium (get_or (objects (facts was.tables) was.next.object) k d) (Contains-get_or (objects (facts was.tables) was.next.object) k d l) in
        (λ kind e. omega (arith, low, e), λ kind e. omega (arith, low, e))));
    range_kept = each_kept table.Medium refl sound.objects.range_kept;
    address_kept = each_kept table.Address refl sound.objects.address_kept;
    most = grind (arith, nat_tests, objects_are, length-append);
  }

  over_was : (m s : ℕ) (q : MediumFact) → IsOver (facts now.tables) m s q → IsOver (facts was.tables) m s q
  over_was = over_before (facts was.tables) (facts now.tables) created.ranges

  -- a range leads to an older medium
  leads_down : (m start : ℕ) (q : MediumFact) → range (facts was.tables) m start ≡ Some q → q.target.0 ≢ x.medium.0
  leads_down m start q e same =
      let is = range_is (facts was.tables) m start q e in
      let fits : IsFact (any.Medium q) = sound.fit (any.Medium q) (all_mediums (facts was.tables) q is.0) in
      let low = range_ids q is.0 in
      elim fits.lawful.statement [ inl h ↦ (let none = h.1 in omega (arith, none, same, new.medium, sound.next.medium.0)) | inr h ↦ (let down = h.down in omega (arith, down, same, new.medium, low)) ]

  sound_mediums : AreMediumsSound (facts now.tables)
  sound_mediums = record {
    disjoint = λ m s p q o o2. sound.mediums.disjoint m s p q (over_was m s p o) (over_was m s q o2);
    within = λ id start y q e l f. elim (which id y e) [
      | inl same ↦ absurd (not_both (range (facts now.tables) y.medium.0 start) f (created.ranges y.medium.0 start ∙ ap (λ z. range (facts was.tables) z.medium.0 start) same ∙ fresh.no_range start))
      | inr old ↦ sound.mediums.within id start y q old l (sym (created.ranges y.medium.0 start) ∙ f)
    ];
    frozen = grind (arith, nat_tests, leads_down, created);
  }

  still_there : (at : Location) → IsThere was at → IsThere now at
  still_there at h = grind (arith, nat_tests, segment_kept)

  sound_addresses : AreAddressesThere now
  sound_addresses = grind (arith, nat_tests, still_there, created, some_since, address, which, not_both, fresh, is_some)

  pub created_sound : IsSound now
  created_sound = record {
    next = next;
    fit = fit_more was now Added split (rw made.staged (omega arith)) (added_fits (length now.staged)) sound.fit;
    sectors = rw made.staged sound.sectors;
    ids = ids_more was now Added split later added_below sound.ids;
    objects = sound_objects;
    mediums = sound_mediums;
    addresses = sound_addresses;
    elisions = rw made.elisions sound.elisions;
    numbers = numbered_more was now Added later.sequence split added_number one_added sound.numbers;
  }

  pub created_reads : (contents : Contents) (array : Array) → FactsRead contents was.staged (facts was.tables) was.next.object array
      → FactsRead contents now.staged (facts now.tables) now.next.object (appended array x.name false (replicate x.sectors (filled 0)))
  created_reads contents array reads =
      let last : now.next.object ≡ x.object.0 + 1 = ap (λ (n : NextNumbers). n.object) made.next ∙ ap (λ n. n + 1) (sym new.object) in
      rw (made.staged, last) (create_reads contents was.staged (facts was.tables) (facts now.tables) x array fresh new.kind created (rw new.object reads))

-- what the array's own answers say of the visible objects
module _ (contents : Contents) (m : Memory) (name : List ℕ) (array : Array) (r : ReadsAs contents m array) where
  pub no_object : has array name ≡ false → (y : ObjectFact) → Contains (objects (facts m.tables) m.next.object) y → y.name ≢ name
  no_object free = no_name contents m.staged (facts m.tables) name (objects (facts m.tables) m.next.object) array r.reads free

  pub few_objects : length array < OBJECTS → length (objects (facts m.tables) m.next.object) < OBJECTS
  few_objects room = let long = zip_long (EntryReads contents m.staged (facts m.tables)) (objects (facts m.tables) m.next.object) array r.reads in omega (arith, long, room)

pub creating_reads : CreatingReads
creating_reads contents was now x array r new free room made =
    let unnamed = no_object contents was x.name array r free in
    let few = few_objects contents was x.name array r room in
    record {
      sound = created_sound was now x r.sound new unnamed few made;
      reads = created_reads was now x r.sound new unnamed few made contents array r.reads;
    }
