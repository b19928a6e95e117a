-- What stays of a memory when an object's id is elided.
use Rattle.command_spec.proofs.Prelude.{nat_tests, ◌≡◌, ◌≢◌, ◌⊎◌, ◌↔◌, ℕ, ◌+◌, ◌<◌, ◌≤◌, Bool, List, [], ◌∷◌, ◌++◌, length, refl, sym, ap, ◌∙◌, subst, arith, inl, inr, All, Contains, IsTrue, both_ways, cases_lt, All-contains, recursion_from_All, AreElidedRanges, elides, is_elided, is_within, segment_key, Table, AddressFact, SegmentFact, ElisionFact, NextNumbers, NUMBER_LIMIT, Layers, Tables, facts_in, IsShown, AreBelow, all_below, all_contained, facts, all_of, all_elisions, numbered_more, IsIdBelow, as_it_was, ids_more, old_or_added, any_of, of_any, as_before, says_where, elided_push, IsElisionOf, joined, AreApart, ElidedRanges, ranges_of, Objects, AreVisible, Segments, IsRange, not_elided, NOTHING, Kept, kept_of, IsKept, TakesOnly}
use Rattle.memory_spec.specs.Prelude.{id_of, never, ObjectFact, MediumFact, AnyFact, any_number}
use Rattle.pur_base.specs.declared.request.Table.TheVariants as table
use Rattle.pur_base.specs.declared.facts.AnyFact.TheVariants as any
use Rattle.command_spec.proofs.CountLemmas.{only}

-- ---- what is known of the elisions

pub elision_newer : (k : Kept) → IsKept k → (f : ElisionFact) → Contains (facts k.memory.tables).elisions f → f.seq.0 < k.memory.next.sequence
elision_newer k h f c = h.numbers.below (any.Elision f) (all_elisions (facts k.memory.tables) f c)

-- one with the next number is newer than all
pub newer_elision : (k : Kept) → IsKept k → (f : ElisionFact) → f.seq.0 ≡ k.memory.next.sequence → AreBelow (λ (g : ElisionFact). g.seq.0) (facts k.memory.tables).elisions (f ∷ [])
newer_elision k h f number = all_below (λ (g : ElisionFact). g.seq.0) (facts k.memory.tables).elisions (f ∷ []) (λ g e x y.
    let older = elision_newer k h g x in
    let is : e.seq.0 ≡ f.seq.0 = ap (λ (r : ElisionFact). r.seq.0) (only f e y) in
    omega (arith, older, is, number))

-- the ids that the ranges elide with one more are those that the facts do
more_elided : (es : List ElisionFact) (t : Table) (rs now : List (ℕ × ℕ)) (id : ℕ) → AreElidedRanges es t rs → ((i : ℕ) → IsTrue (is_within now i) ↔ (IsTrue (is_within rs i) ⊎ (i ≡ id)))
    → (i : ℕ) → IsTrue (is_within now i) ↔ (IsTrue (is_elided es t i) ⊎ (i ≡ id))
more_elided es t rs now id h more i = grind (arith, nat_tests)

-- so an elision that is made beside the ranges is one beside the facts
pub elision_is : (k : Kept) → IsKept k → (now : ElidedRanges) (number id : ℕ) (f : ElisionFact) → ((i : ℕ) → IsTrue (is_within now.objects i) ↔ (IsTrue (is_within k.elided.objects i) ⊎ (i ≡ id)))
    → ((before : ℕ → Bool) → ((i : ℕ) → IsTrue (is_within now.objects i) ↔ (IsTrue (before i) ⊎ (i ≡ id))) → IsElisionOf table.Object (λ i. IsTrue (before i)) number id f)
    → IsElisionOf table.Object (λ i. IsTrue (is_elided (facts k.memory.tables).elisions table.Object i)) number id f
elision_is k h now number id f ids made =
    made (is_elided (facts k.memory.tables).elisions table.Object) (more_elided (facts k.memory.tables).elisions table.Object k.elided.objects now.objects id (h.elided table.Object (λ e. cc)) ids)

-- ---- which ids are elided with one elision of an object more

module _ (old new : List ElisionFact) (number id : ℕ) (f : ElisionFact) (is : IsElisionOf table.Object (λ i. IsTrue (is_elided old table.Object i)) number id f)
    (more : (e : ElisionFact) → Contains new e ↔ (Contains old e ⊎ Contains (f ∷ []) e)) where
  pub together : (e : ElisionFact) → Contains new e ↔ Contains (old ++ f ∷ []) e
  together = joined old new (f ∷ []) more

  -- an object is elided where it was, and where it is this one
  pub one_elided : (i : ℕ) → IsTrue (is_elided new table.Object i) ↔ (IsTrue (is_elided old table.Object i) ⊎ (i ≡ id))
  one_elided i =
      let one = elided_push table.Object old number id f is i in (
        λ e. let w = of_any (elides table.Object i) new e in one.0 (any_of (elides table.Object i) (old ++ f ∷ []) w.0 ((together w.0).0 w.1) w.2),
        λ e. let w = of_any (elides table.Object i) (old ++ f ∷ []) (one.1 e) in any_of (elides table.Object i) new w.0 ((together w.0).1 w.1) w.2,
      )

  -- and of other tables the same is
  pub others_elided : (t : Table) → t ≢ table.Object → (i : ℕ) → is_elided new t i ≡ is_elided old t i
  others_elided t other i = as_before old new (f ∷ []) more t i (λ e d same. other (sym same ∙ ap (λ (z : ElisionFact). z.table) (only f e d) ∙ is.of_table))

  -- the ranges beside them
  module _ (el el2 : ElidedRanges) (ids : (i : ℕ) → IsTrue (is_within el2.objects i) ↔ (IsTrue (is_within el.objects i) ⊎ (i ≡ id)))
      (others : (t : Table) → t ≢ table.Object → ranges_of el2 t ≡ ranges_of el t) (apart : AreApart el2.objects)
      (was : (t : Table) → t ≢ table.Elision → AreElidedRanges old t (ranges_of el t)) where
    object_ranges : AreElidedRanges new table.Object el2.objects
    object_ranges =
        let before = was table.Object (λ e. cc) in
        record {
          same = grind (arith, nat_tests, more_elided, one_elided);
          whole = recursion_from_All (λ (r : ℕ × ℕ). r.0 ≤ r.1) el2.objects apart.whole;
          apart = apart.apart;
        }

    other_ranges : (t : Table) → t ≢ table.Object → t ≢ table.Elision → AreElidedRanges new t (ranges_of el2 t)
    other_ranges t other ne = grind (arith, nat_tests, others_elided)

    pub ranges_then : (t : Table) → t ≢ table.Elision → AreElidedRanges new t (ranges_of el2 t)
    ranges_then table.Object ne = object_ranges
    ranges_then table.Medium ne = other_ranges table.Medium (λ e. cc) ne
    ranges_then table.Address ne = other_ranges table.Address (λ e. cc) ne
    ranges_then table.Segment ne = other_ranges table.Segment (λ e. cc) ne
    ranges_then table.Elision ne = absurd (ne refl)

-- ---- what stays kept

module _ (o o2 : Objects) (m : Layers MediumFact) (a : Layers AddressFact) (s : Segments) (e e2 : Layers ElisionFact) (el el2 : ElidedRanges) (st : List (List ℕ)) (r : ℕ) (n : NextNumbers) (id : ℕ) (f : ElisionFact)
    (is : IsElisionOf table.Object (λ i. IsTrue (is_elided (facts_in e) table.Object i)) n.sequence id f)
    (more : (g : ElisionFact) → Contains (facts_in e2) g ↔ (Contains (facts_in e) g ⊎ Contains (f ∷ []) g))
    (ids : (i : ℕ) → IsTrue (is_within el2.objects i) ↔ (IsTrue (is_within el.objects i) ⊎ (i ≡ id)))
    (others : (t : Table) → t ≢ table.Object → ranges_of el2 t ≡ ranges_of el t) (apart : AreApart el2.objects)
    (objects : o2.facts ≡ o.facts)
    (says : (elided wider : ℕ → Bool) → ((i : ℕ) → IsTrue (wider i) ↔ (IsTrue (elided i) ⊎ (i ≡ id))) → AreVisible elided o → AreVisible wider o2)
    (given : id < n.object) (left : n.sequence + 1 < NUMBER_LIMIT)
    (h : IsKept (kept_of o m a s e el st r n)) where
  abbrev Was : Kept
  Was = kept_of o m a s e el st r n

  abbrev Now : Kept
  Now = kept_of o2 m a s e2 el2 st r (record n { sequence = n.sequence + 1 })

  -- the last id of its range was given
  last_given : f.last < n.object
  last_given = elim (is.within f.last (let low = is.has.0 in let high = is.has.1 in omega (arith, low, high)) (omega arith)) [
    | inl elided ↦ elim (cases_lt f.last n.object) [
      | inl low ↦ low
      | inr high ↦ absurd (both_ways (is_elided (facts_in e) table.Object f.last) (not_elided n (facts Was.memory.tables) table.Object f.last h.ids high) elided)
    ]
    | inr same ↦ omega (arith, same, given)
  ]

  visible_segments : IsShown segment_key (λ (d : SegmentFact). d.seq.0) never (facts_in s.facts) (is_elided (facts_in e2) table.Segment) s.visible
  visible_segments =
      let same : (k : ℕ) → is_elided (facts_in e2) table.Segment (id_of k) ≡ is_elided (facts_in e) table.Segment (id_of k) = λ k. others_elided (facts_in e) (facts_in e2) n.sequence id f is more table.Segment (λ q. cc) (id_of k) in
      record {
        ascends = h.segments.ascends;
        said = λ d c. says_where segment_key (λ (d : SegmentFact). d.seq.0) never (facts_in s.facts) (is_elided (facts_in e) table.Segment) (is_elided (facts_in e2) table.Segment) (segment_key d) (same (segment_key d)) ∙ h.segments.said d c;
        all = λ d l q. h.segments.all d l (sym (says_where segment_key (λ (d : SegmentFact). d.seq.0) never (facts_in s.facts) (is_elided (facts_in e) table.Segment) (is_elided (facts_in e2) table.Segment) (segment_key d) (same (segment_key d))) ∙ q);
      }

  abbrev IsNew : AnyFact → Type 0
  IsNew (any.Elision g) = Contains (f ∷ []) g
  IsNew _ = ⊥

  new_or_old : (x : AnyFact) → Contains (all_of (facts Now.memory.tables)) x → Contains (all_of (facts Was.memory.tables)) x ⊎ IsNew x
  new_or_old = old_or_added (facts Was.memory.tables) (facts Now.memory.tables) IsNew (as_it_was _ (ap facts_in objects)) (λ g. inl) (λ g. inl) (λ g. inl) (λ g. (more g).0)

  new_below : (x : AnyFact) → IsNew x → IsIdBelow Now.memory.next x
  new_below (any.Elision g) c = rw (only f g c, is.of_table) last_given
  new_below x c = absurd c

  new_number : (x : AnyFact) → IsNew x → (n.sequence ≤ any_number x) × (any_number x < Now.memory.next.sequence)
  new_number x c = let number = is.numbered in grind (arith, nat_tests, only)

  new_alone : (x y : AnyFact) → IsNew x → IsNew y → any_number x ≡ any_number y → x ≡ y
  new_alone x y c d same = grind (arith, nat_tests, only)

  pub removed_kept : IsKept (kept_of o2 m a s e2 el2 st r (record n { sequence = n.sequence + 1 }))
  removed_kept = record {
    objects = says (is_elided (facts_in e) table.Object) (is_elided (facts_in e2) table.Object) (one_elided (facts_in e) (facts_in e2) n.sequence id f is more) h.objects;
    segments = visible_segments;
    elided = ranges_then (facts_in e) (facts_in e2) n.sequence id f is more el el2 ids others apart h.elided;
    next = record { object = h.next.object; medium = h.next.medium; segment = h.next.segment; patch_segment = h.next.patch_segment; sequence = (omega (arith, h.next.sequence), left) };
    ids = ids_more Was.memory Now.memory IsNew new_or_old (grind arith) new_below h.ids;
    numbers = numbered_more Was.memory Now.memory IsNew (omega arith) new_or_old new_number new_alone h.numbers;
    sizes = subst (λ (l : Layers ObjectFact). All (λ (g : ObjectFact). 1 ≤ g.sectors) (facts_in l)) (sym objects) h.sizes;
    ranges = all_contained IsRange (facts_in e2) (λ g c. elim ((more g).0 c) [
      | inl old ↦ All-contains IsRange (facts_in e) g h.ranges old
      | inr new ↦ (let low = is.has.0 in let high = is.has.1 in let same = only f g new in rw same (omega (arith, low, high), λ q. of_object (sym is.of_table ∙ q)))
    ]);
  }
    where
      of_object : table.Object ≡ table.Elision → ⊥
      of_object q = cc

-- ---- room

-- an elision of an object, and a range of elided ids
pub elision_takes : (was now : Kept) (f : ElisionFact) → now.memory.tables ≡ record was.memory.tables { elisions = now.memory.tables.elisions } → now.memory.staged ≡ was.memory.staged → now.staged_room ≡ was.staged_room
    → was.name_room ≤ now.name_room → was.elided.object_room ≤ now.elided.object_room + 1 → f.table ≡ table.Object
    → was.memory.tables.elisions.room ≤ now.memory.tables.elisions.room + 1
    → length now.memory.tables.elisions.unflushed ≤ length was.memory.tables.elisions.unflushed + 1
    → length was.memory.tables.elisions.unflushed + was.memory.tables.elisions.room ≤ length now.memory.tables.elisions.unflushed + now.memory.tables.elisions.room
    → ((g : ElisionFact) → Contains now.memory.tables.elisions.unflushed g ↔ (Contains was.memory.tables.elisions.unflushed g ⊎ Contains (f ∷ []) g))
    → TakesOnly was now (record NOTHING { elisions = 1; ranges = 1 })
elision_takes was now f tables staged staged_room names ranges of_objects elisions few capacity more =
    let same_objects = ap (λ (t : Tables). t.objects) tables in
    let same_mediums = ap (λ (t : Tables). t.mediums) tables in
    let same_addresses = ap (λ (t : Tables). t.addresses) tables in
    record {
      room = grind (arith, nat_tests);
      taken = grind (arith, nat_tests);
      capacity = grind (arith, nat_tests);
      segments = ap (λ (t : Tables). t.segments.unflushed) tables;
      elisions = λ h. all_contained (λ (g : ElisionFact). g.table ≡ table.Object) now.memory.tables.elisions.unflushed (λ g c. elim ((more g).0 c) [
        | inl old ↦ All-contains (λ (g : ElisionFact). g.table ≡ table.Object) was.memory.tables.elisions.unflushed g h old
        | inr new ↦ ap (λ (z : ElisionFact). z.table) (only f g new) ∙ of_objects
      ]);
    }
