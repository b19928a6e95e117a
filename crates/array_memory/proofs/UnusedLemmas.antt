-- The unused segments of the lowest ids.
use Rattle.array_memory.proofs.Prelude.{◌≡◌, ◌⊎◌, ℕ, ◌<◌, ◌≤◌, Bool, false, not, List, [], length, get_or, take, drop, sym, ap, ◌∙◌, arith, inl, inr, subst, map, Contains, AllPairs, length-take, get_or-take, take-append-drop, both_ways, cases_Bool, cases_lt, not-true, not_from_false, get_or-map, get_or_default, Contains-append_left, segment_key, Ascends, Facts, segment, AddressFact, SegmentFact, facts_in, filtered, of_filter, passes_filter, facts, in_map, of_map, IsUnused, ELIDED_SEGMENTS, AreLowestUnused, Kept, IsKept, is_named, unnamed, SayAddresses, said_visible}
use Rattle.std.proofs.lemmas.List.Kept.{AllPairs-filter}
use Rattle.array_memory.proofs.NamedLemmas.{at_named, named_at}
use Rattle.array_memory.proofs.PlanLemmas.{long_map}

-- ---- the first of ascending numbers

module _ (n : ℕ) (xs : List ℕ) (up : AllPairs (λ i j. i < j) xs) where
  pub first_ascend : AllPairs (λ i j. i < j) (take n xs)
  first_ascend i j d l m =
      let long : length (take n xs) ≤ n = simp length-take (omega arith) in
      let short : length (take n xs) ≤ length xs = simp length-take (omega arith) in
      let a : get_or (take n xs) i d ≡ get_or xs i d = get_or-take n xs i d (omega (arith, l, m, long)) in
      let b : get_or (take n xs) j d ≡ get_or xs j d = get_or-take n xs j d (omega (arith, m, long)) in
      let less = up i j d l (omega (arith, m, short)) in
      omega (arith, less, a, b)

  pub first_few : length (take n xs) ≤ n
  first_few = simp length-take (omega arith)

  pub first_of : (x : ℕ) → Contains (take n xs) x → Contains xs x
  first_of x c = subst (λ l. Contains l x) (take-append-drop n xs) (Contains-append_left (take n xs) (drop n xs) x c)

  -- what isn't among them lies behind them
  pub first_or_behind : (x : ℕ) → Contains xs x → Contains (take n xs) x ⊎ ((length (take n xs) ≡ n) × ((y : ℕ) → Contains (take n xs) y → y < x))
  first_or_behind x c = elim (cases_lt c.0 n) [
    | inl early ↦ inl (c.0, (let l = c.1 in simp length-take (omega (arith, l, early))), get_or-take n xs c.0 x early ∙ c.2)
    | inr late ↦ inr (
      (let l = c.1 in simp length-take (omega (arith, l, late))),
      λ y d.
          let long : length (take n xs) ≤ n = simp length-take (omega arith) in
          let at = d.1 in
          let l = c.1 in
          let first : get_or xs d.0 y ≡ y = sym (get_or-take n xs d.0 y (omega (arith, at, long))) ∙ d.2 in
          let less : get_or xs d.0 y < get_or xs c.0 y = up d.0 c.0 y (omega (arith, at, long, late)) l in
          let second : get_or xs c.0 y ≡ x = same_default xs c.0 y x l ∙ c.2 in
          omega (arith, first, less, second),
    )
  ]
    where
      same_default : (ys : List ℕ) (i a b : ℕ) → i < length ys → get_or ys i a ≡ get_or ys i b
      same_default ys i a b l = get_or_default ys i a b l

-- ---- segments of memory

pub ids_ascend : (ds : List SegmentFact) → Ascends segment_key ds → AllPairs (λ i j. i < j) (map (λ (d : SegmentFact). d.segment.0) ds)
ids_ascend ds up i j d l m =
    let long : length (map (λ (x : SegmentFact). x.segment.0) ds) ≡ length ds = long_map (λ (x : SegmentFact). x.segment.0) ds in
    let any_one : SegmentFact = record { segment = record { 0 = 0 }; places = []; placed = 0; seq = record { 0 = 0 } } in
    let a : get_or (map (λ (x : SegmentFact). x.segment.0) ds) i d ≡ (get_or ds i any_one).segment.0 = get_or-map (λ (x : SegmentFact). x.segment.0) ds i any_one d (omega (arith, l, m, long)) in
    let b : get_or (map (λ (x : SegmentFact). x.segment.0) ds) j d ≡ (get_or ds j any_one).segment.0 = get_or-map (λ (x : SegmentFact). x.segment.0) ds j any_one d (omega (arith, m, long)) in
    let less = up i j any_one l (omega (arith, m, long)) in
    omega (arith, less, a, b)

module _ (k : Kept) (h : IsKept k) (hidden : ℕ → Bool) (now : Facts) (say : SayAddresses (facts_in k.memory.tables.addresses) hidden now) where
  abbrev Addresses : List AddressFact
  Addresses = facts_in k.memory.tables.addresses

  abbrev All : List ℕ
  All = map (λ (d : SegmentFact). d.segment.0) k.segments

  abbrev Ids : List ℕ
  Ids = unnamed Addresses hidden All

  abbrev is_free : ℕ → Bool
  is_free id = not (is_named Addresses hidden id)

  listed_unused : (id : ℕ) → Contains Ids id → IsUnused (facts k.memory.tables) now id
  listed_unused id c =
      let w = of_map (λ (d : SegmentFact). d.segment.0) k.segments id (of_filter is_free All id c) in
      let free : is_named Addresses hidden id ≡ false = not-true (is_named Addresses hidden id) (passes_filter is_free All id c) in
      record {
        fact = w.0;
        visible = ap (λ i. segment (facts k.memory.tables) i) w.2 ∙ h.segments.said w.0 w.1;
        unnamed = λ medium sector at e same. both_ways (is_named Addresses hidden id) free (at_named Addresses hidden id medium sector at (sym (say medium sector) ∙ e) same);
      }

  unused_listed : (id : ℕ) → IsUnused (facts k.memory.tables) now id → Contains Ids id
  unused_listed id u =
      let seen = said_visible k h id u.fact u.visible in
      let there : Contains All id = subst (λ i. Contains All i) seen.1 (in_map (λ (d : SegmentFact). d.segment.0) k.segments u.fact seen.0) in
      let free : is_named Addresses hidden id ≡ false = elim (cases_Bool (is_named Addresses hidden id)) [
        | inr none ↦ none
        | inl named ↦ (let w = named_at Addresses hidden id named in absurd (u.unnamed w.0 w.1 w.2.0 (say w.0 w.1 ∙ w.2.1) w.2.2))
      ] in
      filtered is_free All id there (not_from_false (is_named Addresses hidden id) free)

  pub lowest_unused : AreLowestUnused (facts k.memory.tables) now (take ELIDED_SEGMENTS Ids)
  lowest_unused =
      let up : AllPairs (λ i j. i < j) Ids = AllPairs-filter (λ i j. i < j) is_free All (ids_ascend k.segments h.segments.ascends) in
      record {
        ascending = first_ascend ELIDED_SEGMENTS Ids up;
        few = first_few ELIDED_SEGMENTS Ids up;
        each = λ id c. listed_unused id (first_of ELIDED_SEGMENTS Ids up id c);
        others = λ id u. first_or_behind ELIDED_SEGMENTS Ids up id (unused_listed id u);
      }
