-- Memory stays sound when an object is destroyed, and reads as the array without it.
use Rattle.command_spec.proofs.Prelude.{nat_tests, ◌≡◌, ◌≢◌, ◌⊎◌, ◌↔◌, ℕ, zero, suc, ◌+◌, ◌<◌, ◌≤◌, Bool, true, false, List, [], ◌∷◌, ◌++◌, length, refl, sym, ap, ◌∙◌, arith, inl, inr, subst, Some, None, is_some, Option, option_map, if◌then◌else◌, Contains, AllPairs, get_or, filter_map, length-append, get_or-append-add, AllByRecursion, AllZip, remove, cons_option, range_with_len, both_ways, cases_eq, cases_lt, bytes_eq-Decides, get_or_append_left, Contains-append_left, Contains-append_right, Contains-append_cases, Entry, is_named, any_number, medium_key, never, is_empty_range, key_of, id_of, tag_of, objects, object, range, address, segment, IsOver, Location, ObjectFact, MediumFact, AnyFact, IsFact, AreObjectsSound, AreMediumsSound, OwnsMedium, not_both, without, facts, all_of, Memory, Contents, EntryReads, FactsRead, FitsInMemory, IsThere, AreAddressesThere, IsSound, each_by_recursion, of_each, zip_weaker, of_objects, all_elisions, numbered_more, IsIdBelow, IsNoLower, as_it_was, old_or_added, fit_more, ids_more, says_where, eliding_one, sound_push, over_before, entry_same, fewer_elisions, here, there, id_of_key, not_elided, object_fits, HasRemoved, RemovalReads}
use Rattle.std.proofs.lemmas.List.Quantifiers.{all_pairs_remove}
use Rattle.array_spec.specs.Prelude.{Array, segment_key, says, is_elided, Table, ElisionFact, NextNumbers, AreNext, NUMBER_LIMIT}
use Rattle.pur_base.specs.declared.request.Table.TheVariants as table
use Rattle.pur_base.specs.declared.facts.AnyFact.TheVariants as any
use Rattle.command_spec.proofs.CountLemmas.{as_one}
use Rattle.command_spec.proofs.RemovedLemmas.{one_elided, others_elided, together}

-- ---- a list without one element

-- the new list is the old one without that element
pub record IsWithout {X : Type 0} (old new : List X) (x : X) : Type 0 where
  pub before : List X
  pub behind : List X
  pub was : old ≡ before ++ x ∷ behind
  pub now : new ≡ before ++ behind

remove_at : {X : Type 0} (xs ys : List X) (x : X) → remove (xs ++ x ∷ ys) (length xs) ≡ xs ++ ys
remove_at [] ys x = refl
remove_at (z ∷ xs) ys x = ap (λ l. z ∷ l) (remove_at xs ys x)

-- what holds of each pair holds of each pair that is left
pairs_left : {X : Type 0} (R : X → X → Type 0) (xs ys : List X) (x : X) → AllPairs R (xs ++ x ∷ ys) → AllPairs R (xs ++ ys)
pairs_left R xs ys x h =
    subst (λ l. AllPairs R l) (remove_at xs ys x)
    (all_pairs_remove R (xs ++ x ∷ ys) (length xs) (let long = length-append xs (x ∷ ys) in omega (arith, long)) h)

-- and of one in front of it beside it
pair_before : {X : Type 0} (R : X → X → Type 0) (xs ys : List X) (x y : X) → AllPairs R (xs ++ x ∷ ys) → Contains xs y → R y x
pair_before R xs ys x y h c =
    let long = length-append xs (x ∷ ys) in
    let is : get_or (xs ++ x ∷ ys) c.0 y ≡ y = get_or_append_left xs (x ∷ ys) y c.0 c.1 ∙ c.2 in
    let at : get_or (xs ++ x ∷ ys) (length xs + 0) y ≡ x = get_or-append-add xs (x ∷ ys) 0 y in
    subst (λ z. R z x) is (subst (λ z. R (get_or (xs ++ x ∷ ys) c.0 y) z) at (h c.0 (length xs + 0) y (let l = c.1 in omega (arith, l)) (omega (arith, long))))

module _ (was now : Memory) (x : ObjectFact) (f : ElisionFact) (s : IsSound was) (c : Contains (objects (facts was.tables) was.next.object) x) (left : was.next.sequence + 1 < NUMBER_LIMIT)
    (h : HasRemoved was now x f) where
  abbrev Old : List ElisionFact
  Old = (facts was.tables).elisions

  abbrev New : List ElisionFact
  New = (facts now.tables).elisions

  -- ---- which ids are elided

  more : (e : ElisionFact) → Contains New e ↔ (Contains Old e ⊎ Contains (f ∷ []) e)
  more = as_one Old New f h.elisions

  -- an object is elided where it was, and where it is this one
  elided_now : (i : ℕ) → (is_elided New table.Object i ≡ true) ↔ ((is_elided Old table.Object i ≡ true) ⊎ (i ≡ x.object.0))
  elided_now = one_elided Old New was.next.sequence x.object.0 f h.is more

  elided_same : (i : ℕ) → i ≢ x.object.0 → is_elided New table.Object i ≡ is_elided Old table.Object i
  elided_same i ne = grind (arith, nat_tests, elided_now)

  others_same : (t : Table) → t ≢ table.Object → (i : ℕ) → is_elided New t i ≡ is_elided Old t i
  others_same = others_elided Old New was.next.sequence x.object.0 f h.is more

  mediums_same : (i : ℕ) → is_elided New table.Medium i ≡ is_elided Old table.Medium i
  mediums_same = others_same table.Medium (λ e. cc)

  addresses_same : (i : ℕ) → is_elided New table.Address i ≡ is_elided Old table.Address i
  addresses_same = others_same table.Address (λ e. cc)

  segments_same : (i : ℕ) → is_elided New table.Segment i ≡ is_elided Old table.Segment i
  segments_same = others_same table.Segment (λ e. cc)

  -- ---- what is said

  ranges_kept : (m start : ℕ) → range (facts now.tables) m start ≡ range (facts was.tables) m start
  ranges_kept m start = grind (arith, nat_tests, says_where, mediums_same)

  addresses_kept : (m sector : ℕ) → address (facts now.tables) m sector ≡ address (facts was.tables) m sector
  addresses_kept m sector = grind (arith, nat_tests, option_map, says, says_where, facts, addresses_same)

  segments_kept : (id : ℕ) → segment (facts now.tables) id ≡ segment (facts was.tables) id
  segments_kept id = grind (arith, nat_tests, says_where, segments_same)

  object_kept : (id : ℕ) → id ≢ x.object.0 → object (facts now.tables) id ≡ object (facts was.tables) id
  object_kept id ne = grind (arith, nat_tests, id_of_key, says, says_where, facts, elided_same)

  object_gone : object (facts now.tables) x.object.0 ≡ None
  object_gone = grind (arith, nat_tests, id_of_key, elided_now)

  -- an object that is visible was so
  object_before : (id : ℕ) (y : ObjectFact) → object (facts now.tables) id ≡ Some y → object (facts was.tables) id ≡ Some y
  object_before id y e = grind (arith, nat_tests, not_both, facts, object_gone, object_kept)

  -- ---- the visible objects

  abbrev OldFrom : ℕ → ℕ → List ObjectFact
  OldFrom a n = filter_map (object (facts was.tables)) (range_with_len a n)

  abbrev NewFrom : ℕ → ℕ → List ObjectFact
  NewFrom a n = filter_map (object (facts now.tables)) (range_with_len a n)

  is_visible : (object (facts was.tables) x.object.0 ≡ Some x) × (x.object.0 < was.next.object)
  is_visible = of_objects (facts was.tables) was.next.object x c

  same_behind : (a n : ℕ) → x.object.0 < a → NewFrom a n ≡ OldFrom a n
  same_behind a zero l = refl
  same_behind a (suc n) l = rw (object_kept a (λ e. omega (arith, l, e))) (ap (λ o. cons_option (object (facts was.tables) a) o) (same_behind (a + 1) n (omega (arith, l))))

  visible_from : (a n : ℕ) → a ≤ x.object.0 → x.object.0 < a + n → IsWithout (OldFrom a n) (NewFrom a n) x
  visible_from a zero low high = absurd (omega (arith, low, high))
  visible_from a (suc n) low high = elim (cases_eq a x.object.0) [
    | inl same ↦ grind (arith, nat_tests, is_visible, object_gone, same_behind)
    | inr ne ↦
        let w = visible_from (a + 1) n (omega (arith, ne, low)) (omega (arith, high)) in
        record {
          before = cons_option (object (facts was.tables) a) w.before;
          behind = w.behind;
          was = ap (λ l. cons_option (object (facts was.tables) a) l) w.was ∙ sym (cons_append (object (facts was.tables) a) w.before (x ∷ w.behind));
          now = ap (λ o. cons_option o (NewFrom (a + 1) n)) (object_kept a ne) ∙ ap (λ l. cons_option (object (facts was.tables) a) l) w.now ∙ sym (cons_append (object (facts was.tables) a) w.before w.behind);
        }
  ]
    where
      cons_append : (o : Option ObjectFact) (xs ys : List ObjectFact) → cons_option o xs ++ ys ≡ cons_option o (xs ++ ys)
      cons_append None xs ys = refl
      cons_append (Some y) xs ys = refl

  objects_next : now.next.object ≡ was.next.object
  objects_next = ap (λ (n : NextNumbers). n.object) h.next

  visible : IsWithout (objects (facts was.tables) was.next.object) (objects (facts now.tables) now.next.object) x
  visible = rw objects_next (visible_from 0 was.next.object (omega arith) (let l = is_visible.1 in omega (arith, l)))

  was_visible : (y : ObjectFact) → Contains (objects (facts now.tables) now.next.object) y → Contains (objects (facts was.tables) was.next.object) y
  was_visible y d = subst (λ l. Contains l y) (sym visible.was) (elim (Contains-append_cases visible.before visible.behind y (subst (λ l. Contains l y) visible.now d)) [
    | inl a ↦ Contains-append_left visible.before (x ∷ visible.behind) y a
    | inr b ↦ Contains-append_right visible.before (x ∷ visible.behind) y (there x y visible.behind b)
  ])

  pairs_visible : (R : ObjectFact → ObjectFact → Type 0) → AllPairs R (objects (facts was.tables) was.next.object) → AllPairs R (objects (facts now.tables) now.next.object)
  pairs_visible R all = rw visible.now (pairs_left R visible.before visible.behind x (rw (sym visible.was) all))

  -- ---- the readings

  module _ (contents : Contents) where
    entry_kept : (y : ObjectFact) (e : Entry) → EntryReads contents was.staged (facts was.tables) y e → EntryReads contents was.staged (facts now.tables) y e
    entry_kept y e r = entry_same contents was.staged (facts was.tables) (facts now.tables) ranges_kept addresses_kept y e r

    entries_left : (xs ys : List ObjectFact) (es : Array) → ((y : ObjectFact) → Contains xs y → y.name ≢ x.name) → AllZip (EntryReads contents was.staged (facts was.tables)) (xs ++ x ∷ ys) es
        → AllZip (EntryReads contents was.staged (facts now.tables)) (xs ++ ys) (without es x.name)
    entries_left [] ys [] apart r = absurd r
    entries_left [] ys (e ∷ es) apart r = grind (arith, nat_tests, bytes_eq-Decides, zip_weaker, entry_kept)
    entries_left (y ∷ xs) ys [] apart r = absurd r
    entries_left (y ∷ xs) ys (e ∷ es) apart r = one (is_named x.name e) refl (entries_left xs ys es (λ z d. apart z (there y z xs d)) r.1)
      where
        one : (b : Bool) → is_named x.name e ≡ b → AllZip (EntryReads contents was.staged (facts now.tables)) (xs ++ ys) (without es x.name)
            → AllZip (EntryReads contents was.staged (facts now.tables)) (y ∷ xs ++ ys) (if b then es else e ∷ without es x.name)
        one true t rest = absurd (apart y (here y xs) (sym r.0.name ∙ sym ((bytes_eq-Decides x.name e.name).0 t)))
        one false t rest = (entry_kept y e r.0, rest)

    pub removed_reads : (array : Array) → FactsRead contents was.staged (facts was.tables) was.next.object array → FactsRead contents now.staged (facts now.tables) now.next.object (without array x.name)
    removed_reads array r =
        rw (h.staged, visible.now) (entries_left visible.before visible.behind array
        (λ y. pair_before (λ a b. a.name ≢ b.name) visible.before visible.behind x y (rw (sym visible.was) s.objects.names)) (rw (sym visible.was) r))

  -- ---- soundness, part by part

  -- ids that are elided were given
  given : (i : ℕ) → (is_elided Old table.Object i ≡ true) ⊎ (i ≡ x.object.0) → (1 ≤ i) × (i < was.next.object)
  given i e = elim e [
    | inl old ↦
        let w = eliding_one table.Object Old i old in
        let fact : IsFact (any.Elision w.0) = s.fit (any.Elision w.0) (all_elisions (facts was.tables) w.0 w.1) in
        let low = w.2 in (
          omega (arith, fact.lawful.id.0, low),
          elim (cases_lt i was.next.object) [
            | inl less ↦ less
            | inr more ↦ absurd (both_ways (is_elided Old table.Object i) (not_elided was.next (facts was.tables) table.Object i s.ids more) old)
          ],
        )
    | inr is ↦
        let fact : IsFact (any.Object x) = (object_fits was s x c).1 in
        (omega (arith, fact.lawful.id.0, is), omega (arith, is_visible.1, is))
  ]

  some : f.first ≤ f.last
  some = let a = h.is.has.0 in let b = h.is.has.1 in omega (arith, a, b)

  last_given : (1 ≤ f.last) × (f.last < was.next.object)
  last_given = given f.last (h.is.within f.last some (omega arith))

  f_fits : IsFact (any.Elision f)
  f_fits =
      let first = given f.first (h.is.within f.first (omega arith) some) in
      let low = first.0 in
      let kind : tag_of f.table ≡ tag_of table.Object = ap tag_of h.is.of_table in
      record {
        lawful = grind (arith, nat_tests);
        fits = omega (arith, last_given.1, s.next.object.1);
      }

  -- the elision is what was added
  abbrev Added : AnyFact → Type 0
  Added (any.Elision e) = e ≡ f
  Added _ = ⊥

  split : (a : AnyFact) → Contains (all_of (facts now.tables)) a → Contains (all_of (facts was.tables)) a ⊎ Added a
  split = old_or_added (facts was.tables) (facts now.tables) Added (as_it_was _ h.objects) (as_it_was _ h.mediums) (as_it_was _ h.addresses) (as_it_was _ h.segments) (λ e. (h.elisions e).0)

  added_fits : (n : ℕ) (a : AnyFact) → Added a → FitsInMemory n a
  added_fits n (any.Elision e) same = rw same f_fits
  added_fits n a same = absurd same

  added_below : (a : AnyFact) → Added a → IsIdBelow now.next a
  added_below (any.Elision e) same = rw (h.next, same, h.is.of_table) last_given.1
  added_below a same = absurd same

  added_number : (a : AnyFact) → Added a → (was.next.sequence ≤ any_number a) × (any_number a < now.next.sequence)
  added_number a c = let number = h.is.numbered in let next = h.next in grind (arith, nat_tests)

  one_added : (a b : AnyFact) → Added a → Added b → any_number a ≡ any_number b → a ≡ b
  one_added (any.Elision e) (any.Elision g) c d same = ap any.Elision (c ∙ sym d)
  one_added a b c d same = grind arith

  later : IsNoLower was.next now.next
  later = let next = h.next in grind (arith, nat_tests)

  next : AreNext now.next
  next = let old = s.next in let next = h.next in grind (arith, nat_tests)

  kept_as : (t : Table) → ((i : ℕ) → is_elided New t i ≡ is_elided Old t i) → AllByRecursion (λ y. is_elided Old t y.medium.0 ≡ false) (objects (facts was.tables) was.next.object)
      → AllByRecursion (λ y. is_elided New t y.medium.0 ≡ false) (objects (facts now.tables) now.next.object)
  kept_as t same all = each_by_recursion (λ y. is_elided New t y.medium.0 ≡ false) (objects (facts now.tables) now.next.object) (λ y d.
      same y.medium.0 ∙ of_each (λ z. is_elided Old t z.medium.0 ≡ false) (objects (facts was.tables) was.next.object) y all (was_visible y d))

  sound_objects : AreObjectsSound (facts now.tables) now.next.object
  sound_objects = record {
    names = pairs_visible (λ a b. a.name ≢ b.name) s.objects.names;
    mediums = pairs_visible (λ a b. OwnsMedium a b × OwnsMedium b a) s.objects.mediums;
    range_kept = kept_as table.Medium mediums_same s.objects.range_kept;
    address_kept = kept_as table.Address addresses_same s.objects.address_kept;
    most =
        let long : length (objects (facts was.tables) was.next.object) ≡ length visible.before + length (x ∷ visible.behind) = ap length visible.was ∙ length-append visible.before (x ∷ visible.behind) in
        let short : length (objects (facts now.tables) now.next.object) ≡ length visible.before + length visible.behind = ap length visible.now ∙ length-append visible.before visible.behind in
        omega (arith, s.objects.most, long, short);
  }

  over_was : (m sector : ℕ) (q : MediumFact) → IsOver (facts now.tables) m sector q → IsOver (facts was.tables) m sector q
  over_was = over_before (facts was.tables) (facts now.tables) ranges_kept

  sound_mediums : AreMediumsSound (facts now.tables)
  sound_mediums = record {
    disjoint = λ m sector p q o o2. s.mediums.disjoint m sector p q (over_was m sector p o) (over_was m sector q o2);
    within = λ id start y q e l d. s.mediums.within id start y q (object_before id y e) l (sym (ranges_kept y.medium.0 start) ∙ d);
    frozen = λ id m start y q e kind d. s.mediums.frozen id m start y q (object_before id y e) kind (sym (ranges_kept m start) ∙ d);
  }

  still_there : (at : Location) → IsThere was at → IsThere now at
  still_there at there = grind (arith, nat_tests, length, segments_kept)

  sound_addresses : AreAddressesThere now
  sound_addresses = record {
    there = λ m sector at e. still_there at (s.addresses.there m sector at (sym (addresses_kept m sector) ∙ e));
    within = λ id sector y e l some. s.addresses.within id sector y (object_before id y e) l (ap is_some (sym (addresses_kept y.medium.0 sector)) ∙ some);
  }

  pub removed_sound : IsSound now
  removed_sound = record {
    next = next;
    fit = fit_more was now Added split (rw h.staged (omega arith)) (added_fits (length now.staged)) s.fit;
    sectors = rw h.staged s.sectors;
    ids = ids_more was now Added split later added_below s.ids;
    objects = sound_objects;
    mediums = sound_mediums;
    addresses = sound_addresses;
    elisions = fewer_elisions (Old ++ f ∷ []) New (λ e. (together Old New was.next.sequence x.object.0 f h.is more e).0)
        (sound_push table.Object Old was.next.sequence x.object.0 f h.is (λ g d. s.numbers.below (any.Elision g) (all_elisions (facts was.tables) g d)) s.elisions);
    numbers = numbered_more was now Added later.sequence split added_number one_added s.numbers;
  }

pub removal_reads : RemovalReads
removal_reads contents was now x f array r c left h = record { sound = removed_sound was now x f r.sound c left h; reads = removed_reads was now x f r.sound c left h contents array r.reads }
