-- What eliding segments leaves of memory: no visible segment that wasn't, so that fewer units are used.
use Rattle.array_checkpoint.proofs.Prelude.{◌≡◌, ℕ, Bool, true, false, List, [], ◌∷◌, map, refl, sym, ap, ◌∙◌, arith, inl, inr, subst, Option, Some, None, Contains, AllPairs, filter_map, list_any, cons_option, both_ways, false_from_ne_true, Geometry, View, Facts, segment_key, never, key_of, ids_below, is_elided, segment, segments, Place, SegmentFact, BootRecord, IsFree, is_place, AreApart, AreSegmentsSound, named_segments, used_places, all_contained, Contents, Memory, facts, in_filter_map, in_map, of_filter_map, of_map, ContentsStand, IsEliding, not_before, said_before, AreUnitsToTake, Eliding, eliding_by, AreNewUnits, all_weaker, cons_pairs, pairs_across, pairs_append, pairs_back, pairs_front, pairs_head, pairs_tail, Contains-append_cases, Contains-append_left, Contains-append_right}
use Rattle.std.proofs.lemmas.List.Folds.{list_any_at, list_any_none}
use Rattle.session_spec.specs.Prelude.{id_of, id_of_key}
use Rattle.pur_base.specs.declared.request.Table.TheVariants as table

-- ---- fewer of a list

-- a test that none of the others passes
any_fewer : {X : Type 0} (p : X → Bool) (xs ys : List X) → ((x : X) → Contains xs x → Contains ys x) → list_any p ys ≡ false → list_any p xs ≡ false
any_fewer {X} p xs ys among none = list_any_none p xs (all_contained (λ x. p x ≡ false) xs
    (λ x c. false_from_ne_true (p x) (λ is. both_ways (list_any p ys) none (let d = among x c in list_any_at p ys d.0 x d.1 (ap p d.2 ∙ is)))))

module _ {X : Type 0} (f g : ℕ → Option X) (fewer : (i : ℕ) (x : X) → g i ≡ Some x → f i ≡ Some x) where
  among : {Y : Type 0} (h : X → Y) (is : List ℕ) (y : Y) → Contains (map h (filter_map g is)) y → Contains (map h (filter_map f is)) y
  among h is y c =
      let v = of_map h (filter_map g is) y c in
      let w = of_filter_map g is v.0 v.1 in
      subst (λ z. Contains (map h (filter_map f is)) z) (sym v.2) (in_map h (filter_map f is) v.0 (in_filter_map f is w.0 v.0 w.1 (fewer w.0 v.0 w.2)))

  -- behind the first
  behind : {Y : Type 0} (h : X → Y) (R : Y → Y → Type 0) (is : List ℕ) (o : Option X) → AllPairs R (map h (cons_option o (filter_map f is))) → AllPairs R (map h (filter_map f is))
  behind h R is None all = all
  behind h R is (Some x) all = pairs_tail R (h x) (map h (filter_map f is)) all

  first : {Y : Type 0} (h : X → Y) (R : Y → Y → Type 0) (i : ℕ) (is : List ℕ) (o : Option X) → g i ≡ o → AllPairs R (map h (cons_option (f i) (filter_map f is))) → AllPairs R (map h (filter_map g is))
      → AllPairs R (map h (cons_option o (filter_map g is)))
  first h R i is None e all rest = rest
  first h R i is (Some x) e all rest =
      let one : AllPairs R (h x ∷ map h (filter_map f is)) = subst (λ o. AllPairs R (map h (cons_option o (filter_map f is)))) (fewer i x e) all in
      cons_pairs R (h x) (map h (filter_map g is)) (λ y c. pairs_head R (h x) (map h (filter_map f is)) one y (among h is y c)) rest

  pairs_fewer : {Y : Type 0} (h : X → Y) (R : Y → Y → Type 0) (is : List ℕ) → AllPairs R (map h (filter_map f is)) → AllPairs R (map h (filter_map g is))
  pairs_fewer h R [] all = all
  pairs_fewer h R (i ∷ is) all = first h R i is (g i) refl all (pairs_fewer h R is (behind h R is (f i) all))

-- ---- segments and units

module _ (m : Memory) (e : Eliding) (keeps : IsEliding m (eliding_by m e) e.facts.items) where
  abbrev After : Facts
  After = facts (eliding_by m e).tables

  pub segment_before : (id : ℕ) (d : SegmentFact) → segment After id ≡ Some d → segment (facts m.tables) id ≡ Some d
  segment_before id d is =
      said_before segment_key (λ f. f.seq.0) never (facts m.tables).segments (is_elided (facts m.tables).elisions table.Segment) (is_elided After.elisions table.Segment) (key_of id 0) d
      (not_before (facts m.tables).elisions After.elisions e.facts.items keeps.elisions table.Segment (id_of (key_of id 0))) is

  pub contents_then : (contents : Contents) (members : View) → ContentsStand contents members (facts m.tables) → ContentsStand contents members After
  contents_then contents members stand id index d is within = stand id index d (segment_before id d is) within

  abbrev Data : Facts → ℕ → List (List Place)
  Data fs n = map (λ d. d.places) (segments fs n)

  abbrev Named : BootRecord → List (List Place)
  Named boot = map (λ s. s.places) (named_segments boot)

  data_among : (n : ℕ) (ps : List Place) → Contains (Data After n) ps → Contains (Data (facts m.tables) n) ps
  data_among n ps c = among (segment (facts m.tables)) (segment After) segment_before (λ d. d.places) (ids_below n) ps c

  pub sound_then : (shelf : Geometry) (boot : BootRecord) → AreSegmentsSound shelf boot (facts m.tables) → AreSegmentsSound shelf boot After
  sound_then shelf boot s = record {
    places = λ id d is. s.places id d (segment_before id d is);
    patch_ids = s.patch_ids;
    distinct = s.distinct;
    apart = pairs_append AreApart (Named boot) (Data After boot.next.segment) (pairs_front AreApart (Named boot) (Data (facts m.tables) boot.next.segment) s.apart)
        (pairs_fewer (segment (facts m.tables)) (segment After) segment_before (λ d. d.places) AreApart (ids_below boot.next.segment) (pairs_back AreApart (Named boot) (Data (facts m.tables) boot.next.segment) s.apart))
        (λ x y c d. pairs_across AreApart (Named boot) (Data (facts m.tables) boot.next.segment) s.apart x y c (data_among boot.next.segment y d));
  }

  -- what was free still is
  free_then : (boot : BootRecord) (slot unit : ℕ) → IsFree boot (facts m.tables) slot unit → IsFree boot After slot unit
  free_then boot slot unit free = record {
    data_unit = free.data_unit;
    there = free.there;
    unused = any_fewer (list_any (is_place slot unit)) (used_places boot After) (used_places boot (facts m.tables)) (λ ps c. elim (Contains-append_cases (Named boot) (Data After boot.next.segment) ps c) [
      | inl a ↦ Contains-append_left (Named boot) (Data (facts m.tables) boot.next.segment) ps a
      | inr b ↦ Contains-append_right (Named boot) (Data (facts m.tables) boot.next.segment) ps (data_among boot.next.segment ps b)
    ]) free.unused;
  }

  pub new_then : (boot : BootRecord) (units : List (List Place)) → AreNewUnits boot (facts m.tables) units → AreNewUnits boot After units
  new_then boot units new = record {
    each = all_weaker (AreUnitsToTake boot (facts m.tables)) (AreUnitsToTake boot After) (λ ps t. record {
      lawful = t.lawful;
      free = all_weaker (λ p. IsFree boot (facts m.tables) p.slot p.unit) (λ p. IsFree boot After p.slot p.unit) (λ p. free_then boot p.slot p.unit) ps t.free;
      members = t.members;
    }) units new.each;
    apart = new.apart;
  }

-- a segment whose id is elided is no longer visible
pub gone_where : (fs : Facts) (id : ℕ) → is_elided fs.elisions table.Segment id ≡ true → segment fs id ≡ None
gone_where fs id is =
    let same : id_of (key_of id 0) ≡ id = id_of_key id 0 (omega arith) in
    let out : is_elided fs.elisions table.Segment (id_of (key_of id 0)) ≡ true = ap (λ i. is_elided fs.elisions table.Segment i) same ∙ is in
    rw out refl
