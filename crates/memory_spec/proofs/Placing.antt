-- Memory stays sound, and reads the same, when staged sectors are placed.
use Rattle.memory_spec.proofs.Prelude.{nat_tests, ◌≡◌, ◌⊎◌, ℕ, zero, suc, ◌<◌, ◌≤◌, true, List, [], length, refl, sym, ap, ◌∙◌, arith, inl, inr, subst, Option, Some, None, option_map, option_and_then, is_some, slice_get, if◌then◌else◌, Contains, eq-eqb, ne_eqb, any_number, segment_key, never, key_of, id_of, unless_empty, address, segment, is_elided, Location, Target, Stored, Zero, AddressFact, SegmentFact, ElisionFact, AnyFact, says_is, AreIdsBelow, same_some, AreDistinct, newest_of, nowhere, id_of_key, facts, all_of, Memory, Contents, PlaceReads, TargetReads, FitsTarget, FitsInMemory, IsThere, IsSound, AreMoved, each_by_recursion, of_each, same_objects, all_objects, all_mediums, all_addresses, all_segments, all_elisions, of_all, numbered_as, IsIdBelow, IsNoLower, as_it_was, old_or_added, ids_more, id_of_all, object_kept, range_kept, objects_sound, mediums_sound, only_newest, no_newest, newest_kept, newest_given, moved_reads, placed_target, repointed, IsPlacedAt, IsPlacing, PlacingReads}
use Rattle.pur_base.specs.declared.request.Table.TheVariants as table
use Rattle.pur_base.specs.declared.facts.AnyFact.TheVariants as any
use Rattle.memory_spec.proofs.Putting.{address_numbers}
use Rattle.memory_spec.proofs.Created.{not_elided}
use Rattle.memory_spec.proofs.Repointed.{address_placed, visible_stays}

place_of : (contents : Contents) (n index : ℕ) (body : List ℕ) → 1 ≤ n → body ≡ contents n index → PlaceReads contents [] n index body
place_of contents zero index body l e = absurd (omega (arith, l))
place_of contents (suc n) index body l e = e

of_place : (contents : Contents) (staged : List (List ℕ)) (n index : ℕ) (body : List ℕ) → 1 ≤ n → PlaceReads contents staged n index body → body ≡ contents n index
of_place contents staged zero index body l e = absurd (omega (arith, l))
of_place contents staged (suc n) index body l e = e

pub staged_target : (place : ℕ → Location) (at : Location) → at.segment.0 ≡ 0 → placed_target place (Stored at) ≡ Stored (place at.index)
staged_target place at e = ap (λ b. if b then Stored (place at.index) else Stored at) (eq-eqb at.segment.0 0 e)

pub other_target : (place : ℕ → Location) (at : Location) → 1 ≤ at.segment.0 → placed_target place (Stored at) ≡ Stored at
other_target place at l = ap (λ b. if b then Stored (place at.index) else Stored at) (ne_eqb at.segment.0 0 (λ e. omega (arith, e, l)))

-- staged, or in a segment
pub which_place : (n : ℕ) → (n ≡ 0) ⊎ (1 ≤ n)
which_place zero = inl refl
which_place (suc n) = inr (omega arith)

same_location : (a b : Location) → Stored a ≡ Stored b → a ≡ b
same_location a b e = cc

-- the id of a visible segment was given
pub old_segment_id : (m : Memory) → IsSound m → (id : ℕ) (d : SegmentFact) → segment (facts m.tables) id ≡ Some d → id < m.next.segment
old_segment_id m s id d e =
    let is = says_is segment_key (λ f. f.seq.0) never (λ f. Contains (facts m.tables).segments f) (facts m.tables).segments (is_elided (facts m.tables).elisions table.Segment) (key_of id 0) d
    (each_by_recursion (λ f. Contains (facts m.tables).segments f) (facts m.tables).segments (λ f c. c)) e in
    let low = of_each (λ (f : SegmentFact). f.segment.0 < m.next.segment) (facts m.tables).segments d s.ids.segments is.0 in
    omega (arith, low, is.1)

module _ (contents contents2 : Contents) (was now : Memory) (place : ℕ → Location) (added : List SegmentFact) (s : IsSound was) (h : IsPlacing contents contents2 was now place added) where
  placed : (m x : ℕ) → address (facts now.tables) m x ≡ option_map (placed_target place) (address (facts was.tables) m x)
  placed = address_placed place (facts was.tables) (facts now.tables) h.addresses (address_numbers was s) h.elisions

  -- ---- segments

  segment_ids : (d : SegmentFact) → Contains (facts was.tables).segments d → d.segment.0 < was.next.segment
  segment_ids d c = of_each (λ (f : SegmentFact). f.segment.0 < was.next.segment) (facts was.tables).segments d s.ids.segments c

  same_segment : (d e : SegmentFact) → any.Segment d ≡ any.Segment e → d ≡ e
  same_segment d e i = cc

  old_number : (d : SegmentFact) → Contains (facts was.tables).segments d → d.seq.0 < was.next.sequence
  old_number d c = s.numbers.below (any.Segment d) (all_segments (facts was.tables) d c)

  older : (d e : SegmentFact) → Contains (facts was.tables).segments d → Contains added e → d.seq.0 < e.seq.0
  older d e c i = let a = old_number d c in let b = (h.new_segments.numbers e i).0 in omega (arith, a, b)

  old_distinct : AreDistinct (λ (d : SegmentFact). d.seq.0) (facts was.tables).segments
  old_distinct d e c i n = same_segment d e (s.numbers.distinct (any.Segment d) (any.Segment e) (all_segments (facts was.tables) d c) (all_segments (facts was.tables) e i) n)

  new_distinct : AreDistinct (λ (d : SegmentFact). d.seq.0) added
  new_distinct d e c i n = h.new_segments.one_number d e c i n

  -- what is said of a segment, by its newest fact
  abbrev Said : List ElisionFact → ℕ → Option SegmentFact → Option SegmentFact
  Said elisions k o = if is_elided elisions table.Segment (id_of k) then None else option_and_then (unless_empty never) o

  old_segment : (id : ℕ) (d : SegmentFact) → segment (facts was.tables) id ≡ Some d → segment (facts now.tables) id ≡ Some d
  old_segment id d e =
      let is = says_is segment_key (λ f. f.seq.0) never (λ f. Contains (facts was.tables).segments f) (facts was.tables).segments (is_elided (facts was.tables).elisions table.Segment) (key_of id 0) d
      (each_by_recursion (λ f. Contains (facts was.tables).segments f) (facts was.tables).segments (λ f c. c)) e in
      let low = segment_ids d is.0 in
      let none = no_newest segment_key (λ f. f.seq.0) added (key_of id 0) (λ f c i.
      let own : key_of f.segment.0 0 ≡ key_of id 0 = i in
      let high = (h.new_segments.ids f c).0 in
      omega (arith, own, is.1, low, high)) in
      ap (λ o. Said (facts now.tables).elisions (key_of id 0) o)
      (newest_kept segment_key (λ f. f.seq.0) (facts was.tables).segments (facts now.tables).segments added h.segments older old_distinct new_distinct (key_of id 0) none)
      ∙ ap (λ l. Said l (key_of id 0) (newest_of segment_key (λ f. f.seq.0) (key_of id 0) (facts was.tables).segments)) h.elisions ∙ e

  new_segment : (d : SegmentFact) → Contains added d → segment (facts now.tables) d.segment.0 ≡ Some d
  new_segment d c =
      let id : id_of (key_of d.segment.0 0) ≡ d.segment.0 = id_of_key d.segment.0 0 (omega arith) in
      let only = only_newest segment_key (λ f. f.seq.0) added (key_of d.segment.0 0) d c refl (λ f i k.
      let key : key_of f.segment.0 0 ≡ key_of d.segment.0 0 = k in
      h.new_segments.one_id f d i c (omega (arith, key))) in
      ap (λ o. Said (facts now.tables).elisions (key_of d.segment.0 0) o)
      (newest_given segment_key (λ f. f.seq.0) (facts was.tables).segments (facts now.tables).segments added h.segments older old_distinct new_distinct (key_of d.segment.0 0) d only)
      ∙ ap (λ b. if b then None else Some d)
      (ap (λ i. is_elided (facts now.tables).elisions table.Segment i) id ∙ ap (λ l. is_elided l table.Segment d.segment.0) h.elisions
      ∙ not_elided was.next (facts was.tables) table.Segment d.segment.0 s.ids (h.new_segments.ids d c).0)

  -- ---- targets

  -- the place of a staged sector is in a segment
  in_segment : (index : ℕ) → IsPlacedAt contents2 was.staged added index (place index) → 1 ≤ (place index).segment.0
  in_segment index w = let own = (h.new_segments.each w.0 w.1).lawful.id.0 in let same = w.2 in omega (arith, own, same)

  target_moved : (g : AddressFact) (t : Target) → Contains (facts was.tables).addresses g → Contains (facts now.tables).addresses (repointed place g) → g.target ≡ t
      → ((at : Location) → t ≡ Stored at → IsThere was at) → (body : List ℕ) → TargetReads contents was.staged t body → TargetReads contents2 [] (placed_target place t) body
  target_moved g (Stored at) c d e there body read = elim (which_place at.segment.0) [
    | inl none ↦
        let w = h.placed g at c d e none in
        let got : slice_get was.staged at.index ≡ Some body = subst (λ n. PlaceReads contents was.staged n at.index body) none read in
        let is : body ≡ contents2 (place at.index).segment.0 (place at.index).index = same_some (slice_get was.staged at.index) got w.4 in
        subst (λ z. TargetReads contents2 [] z body) (sym (staged_target place at none)) (place_of contents2 (place at.index).segment.0 (place at.index).index body (in_segment at.index w) is)
    | inr some ↦ grind (arith, nat_tests, other_target, of_place)
  ]
  target_moved g Zero c d e there body read = read

  pub moved : AreMoved contents contents2 was.staged [] (facts was.tables) (facts now.tables)
  moved = record {
    none = λ m x e. placed m x ∙ ap (λ o. option_map (placed_target place) o) e;
    some = λ m x t e.
        let w = visible_stays place (facts was.tables) (facts now.tables) h.addresses m x t e in (
          placed_target place t,
          placed m x ∙ ap (λ o. option_map (placed_target place) o) e,
          target_moved w.0 t w.1 w.2 w.3 (λ at is. s.addresses.there m x at (e ∙ ap (λ z. Some z) is)),
        );
    ranges = range_kept (facts was.tables) (facts now.tables) h.elisions h.mediums;
    objects = object_kept (facts was.tables) (facts now.tables) h.elisions h.objects;
  }

  -- ---- soundness, part by part

  target_fits : (g : AddressFact) (t : Target) → Contains (facts was.tables).addresses g → Contains (facts now.tables).addresses (repointed place g) → g.target ≡ t
      → FitsTarget (length was.staged) t → FitsTarget 0 (placed_target place t)
  target_fits g (Stored at) c d e fits = elim (which_place at.segment.0) [
    | inl none ↦
        let w = h.placed g at c d e none in
        let own = h.new_segments.each w.0 w.1 in
        subst (λ z. FitsTarget 0 z) (sym (staged_target place at none)) (inr (in_segment at.index w, omega (arith, own.lawful.id.1, w.2), omega (arith, w.3, own.lawful.statement.1)))
    | inr some ↦ grind (arith, nat_tests, other_target)
  ]
  target_fits g Zero c d e fits = tt

  address_fits : (f : AddressFact) → Contains (facts now.tables).addresses f → FitsInMemory 0 (any.Address f)
  address_fits f c =
      let w = h.addresses.source f c in
      let old : FitsInMemory (length was.staged) (any.Address w.0) = s.fit (any.Address w.0) (all_addresses (facts was.tables) w.0 w.1) in
      let there : Contains (facts now.tables).addresses (repointed place w.0) = subst (λ z. Contains (facts now.tables).addresses z) w.2 c in
      subst (λ z. FitsInMemory 0 (any.Address z)) (sym w.2) (old.0, old.1, old.2, target_fits w.0 w.0.target w.1 there refl old.3)

  fit : (a : AnyFact) → Contains (all_of (facts now.tables)) a → FitsInMemory 0 a
  fit = of_all (facts now.tables) (λ a. FitsInMemory 0 a)
      (λ x c. s.fit (any.Object x) (all_objects (facts was.tables) x (subst (λ l. Contains l x) h.objects c)))
      (λ x c. s.fit (any.Medium x) (all_mediums (facts was.tables) x (subst (λ l. Contains l x) h.mediums c)))
      address_fits
      (λ x c. elim ((h.segments x).0 c) [ inl o ↦ s.fit (any.Segment x) (all_segments (facts was.tables) x o) | inr n ↦ h.new_segments.each x n ])
      (λ x c. s.fit (any.Elision x) (all_elisions (facts was.tables) x (subst (λ l. Contains l x) h.elisions c)))

  later : IsNoLower was.next now.next
  later = let next = h.next in grind (arith, nat_tests)

  -- the segments are what was added, and the addresses are others
  abbrev Added : AnyFact → Type 0
  Added (any.Address f) = Contains (facts now.tables).addresses f
  Added (any.Segment d) = Contains added d
  Added _ = ⊥

  added_below : (a : AnyFact) → Added a → IsIdBelow now.next a
  added_below (any.Address f) c =
      let w = h.addresses.source f c in
      let low : w.0.medium.0 < was.next.medium = id_of_all (facts was.tables) was.next s.ids (any.Address w.0) (all_addresses (facts was.tables) w.0 w.1) in
      rw (h.next.medium, w.2) low
  added_below (any.Segment d) c = (h.new_segments.ids d c).1
  added_below a c = absurd c

  ids : AreIdsBelow now.next (facts now.tables)
  ids = ids_more was now Added
      (old_or_added (facts was.tables) (facts now.tables) Added (as_it_was _ h.objects) (as_it_was _ h.mediums) (λ f c. inr c) (λ d. (h.segments d).0) (as_it_was _ h.elisions))
      later added_below s.ids

  there_of : (m x : ℕ) (at : Location) (o : Option Target) → address (facts was.tables) m x ≡ o → option_map (placed_target place) o ≡ Some (Stored at) → IsThere now at
  there_of m x at None e is = cc
  there_of m x at (Some Zero) e is = cc
  there_of m x at (Some (Stored a)) e is = elim (which_place a.segment.0) [
    | inl none ↦
        let v = visible_stays place (facts was.tables) (facts now.tables) h.addresses m x (Stored a) e in
        let w = h.placed v.0 a v.1 v.2 v.3 none in
        let same : place a.index ≡ at = same_location (place a.index) at (sym (staged_target place a none) ∙ same_some (Some (placed_target place (Stored a))) refl is) in
        subst (λ z. IsThere now z) same (inr (w.0, subst (λ n. segment (facts now.tables) n ≡ Some w.0) w.2 (new_segment w.0 w.1), w.3))
    | inr some ↦ grind (arith, nat_tests, same_location, other_target, same_some, old_segment)
  ]

  some_before : (o : Option Target) → is_some (option_map (placed_target place) o) ≡ true → is_some o ≡ true
  some_before None e = e
  some_before (Some t) e = refl

  -- ---- numbers

  abbrev Repointed : AnyFact → AnyFact
  Repointed (any.Address g) = any.Address (repointed place g)
  Repointed (any.Object g) = any.Object g
  Repointed (any.Medium g) = any.Medium g
  Repointed (any.Segment g) = any.Segment g
  Repointed (any.Elision g) = any.Elision g

  same_number : (a : AnyFact) → any_number (Repointed a) ≡ any_number a
  same_number (any.Address g) = refl
  same_number (any.Object g) = refl
  same_number (any.Medium g) = refl
  same_number (any.Segment g) = refl
  same_number (any.Elision g) = refl

  abbrev New : AnyFact → Type 0
  New (any.Segment d) = Contains added d
  New _ = ⊥

  from : (a : AnyFact) → Contains (all_of (facts now.tables)) a → ((b : AnyFact) × Contains (all_of (facts was.tables)) b × (a ≡ Repointed b)) ⊎ New a
  from = of_all (facts now.tables) (λ a. ((b : AnyFact) × Contains (all_of (facts was.tables)) b × (a ≡ Repointed b)) ⊎ New a)
      (λ x c. inl (any.Object x, all_objects (facts was.tables) x (subst (λ l. Contains l x) h.objects c), refl))
      (λ x c. inl (any.Medium x, all_mediums (facts was.tables) x (subst (λ l. Contains l x) h.mediums c), refl))
      (λ x c. let w = h.addresses.source x c in inl (any.Address w.0, all_addresses (facts was.tables) w.0 w.1, ap any.Address w.2))
      (λ x c. elim ((h.segments x).0 c) [ inl o ↦ inl (any.Segment x, all_segments (facts was.tables) x o, refl) | inr n ↦ inr n ])
      (λ x c. inl (any.Elision x, all_elisions (facts was.tables) x (subst (λ l. Contains l x) h.elisions c), refl))

  new_number : (a : AnyFact) → New a → (was.next.sequence ≤ any_number a) × (any_number a < now.next.sequence)
  new_number (any.Segment d) c = h.new_segments.numbers d c
  new_number a c = absurd c

  one_new : (a b : AnyFact) → New a → New b → any_number a ≡ any_number b → a ≡ b
  one_new (any.Segment d) (any.Segment e) c i n = ap any.Segment (h.new_segments.one_number d e c i n)
  one_new a b c i n = grind arith

  pub placing_sound : IsSound now
  placing_sound = record {
    next = h.next.next;
    fit = rw h.staged fit;
    sectors = λ x c. absurd (nowhere x (subst (λ l. Contains l x) h.staged c));
    ids = ids;
    objects = rw h.next.object (objects_sound (facts was.tables) (facts now.tables) h.elisions was.next.object (same_objects (facts was.tables) (facts now.tables) moved.objects was.next.object) s.objects);
    mediums = mediums_sound (facts was.tables) (facts now.tables) moved.objects moved.ranges s.mediums;
    addresses = record {
      there = λ m x at e. there_of m x at (address (facts was.tables) m x) refl (sym (placed m x) ∙ e);
      within = λ id x y e l some. s.addresses.within id x y (sym (moved.objects id) ∙ e) l
          (some_before (address (facts was.tables) y.medium.0 x) (ap (λ o. is_some o) (sym (placed y.medium.0 x)) ∙ some));
    };
    elisions = rw h.elisions s.elisions;
    numbers = numbered_as was now Repointed New later.sequence same_number from new_number one_new s.numbers;
  }

pub placing_reads : PlacingReads
placing_reads contents contents2 was now place added array r h = record {
  sound = placing_sound contents contents2 was now place added r.sound h;
  reads = rw (h.staged, h.next.object) (moved_reads contents contents2 was.staged [] (facts was.tables) (facts now.tables) was.next.object array (moved contents contents2 was now place added r.sound h) r.reads);
}
