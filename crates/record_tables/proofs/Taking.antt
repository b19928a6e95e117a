-- Units that are taken of a map, segment by segment.
use Rattle.record_tables.proofs.Prelude.{◌≡◌, ◌≢◌, ℕ, ◌+◌, ◌-◌, ◌<◌, ◌≤◌, Bool, true, false, not, ◌||◌, ◌==◌, List, [], ◌∷◌, ◌++◌, length, refl, sym, ap, ◌∙◌, arith, inl, inr, subst, get_or, append-nil, append_assoc, Contains, eq-eqb, length-append, AllByRecursion, list_any, flat_map, cases_Bool, and_parts, and_from, or_parts, not-true, flat_map-append, Facts, SEGMENT_SHARDS, Place, BootRecord, is_place, is_used, AreApart, either, nowhere, each_by_recursion, all_append, Drive, with_units, IsTaken, IsGroups, LowersByOne, IsMapOf, IsMapBut, is_data_unit, is_member, used_or_among, AreUnitsToTake, all_units, AreNewUnits, IsMapAfter, NoneIsTaken, no_pairs, cons_pairs, pairs_append}
use Rattle.std.proofs.lemmas.List.Folds.{list_any_at, list_any-append}
use Rattle.free_space.proofs.LawLemmas.{taken_units_are_free, taken_units_are_used}
use Rattle.free_space.proofs.Units.{same_used}
use Rattle.record_tables.proofs.Room.{HasRoom, room_left, one_lower}

-- ---- units that aren't among others

is_place_self : (p : Place) → is_place p.slot p.unit p ≡ true
is_place_self p = and_from (p.slot == p.slot) (p.unit == p.unit) (eq-eqb p.slot p.slot refl) (eq-eqb p.unit p.unit refl)

-- what no element passes, none of them passes
pub none_passes : {X : Type 0} (test : X → Bool) (xs : List X) (x : X) → list_any test xs ≡ false → Contains xs x → test x ≡ false
none_passes test xs x e c = elim (cases_Bool (test x)) [
  | inl passed ↦ (let passes : list_any test xs ≡ true = list_any_at test xs c.0 x c.1 (ap test c.2 ∙ passed) in absurd (cc (passes, e)))
  | inr failed ↦ failed
]

pub apart_where_unused : (ps qs : List Place) → ((q : Place) → Contains qs q → list_any (is_place q.slot q.unit) ps ≡ false) → AreApart ps qs
apart_where_unused ps qs h = each_by_recursion (λ p. AllByRecursion (λ q. p ≢ q) qs) ps (λ p c. each_by_recursion (λ q. p ≢ q) qs (λ q d same.
    let not_there : is_place q.slot q.unit p ≡ false = none_passes (is_place q.slot q.unit) ps p (h q d) c in
    let there_it_is : is_place q.slot q.unit p ≡ true = subst (λ z. is_place q.slot q.unit z ≡ true) (sym same) (is_place_self q) in
    cc (not_there, there_it_is)))

in_flat : (pss : List (List Place)) (ps : List Place) (p : Place) (test : Place → Bool) → list_any test (flat_map (λ x. x) pss) ≡ false → Contains pss ps → list_any test ps ≡ false
in_flat [] ps p test e c = absurd (nowhere ps c)
in_flat (qs ∷ pss) ps p test e c =
    let split = or_false (list_any test qs) (list_any test (flat_map (λ x. x) pss)) (sym (list_any-append test qs (flat_map (λ x. x) pss)) ∙ e) in
    elim (either qs ps pss c) [
      | inl same ↦ subst (λ z. list_any test z ≡ false) (sym same) split.0
      | inr rest ↦ in_flat pss ps p test split.1 rest
    ]
  where
    or_false : (a b : Bool) → (a || b) ≡ false → (a ≡ false) × (b ≡ false)
    or_false a b f = or_parts a b f

-- ---- taking

or_none : (a : Bool) → a ≡ (a || false)
or_none true = refl
or_none false = refl

pub none_is_taken : NoneIsTaken
none_is_taken boot facts drives h = record {
  map = same_used boot.slots boot.units (is_member boot) (is_used boot facts) (used_or_among (is_used boot facts) []) drives (λ slot unit. or_none (is_used boot facts slot unit)) h;
  new = record { each = tt; apart = no_pairs AreApart };
}

-- units that are taken next are apart from all before
next_apart : (boot : BootRecord) (facts : Facts) (units : List (List Place)) (now : List Drive) (places us : List Place) → IsMapBut boot facts (all_units units) now → IsTaken now places → Contains units us → AreApart us places
next_apart boot facts units now places us h is c = apart_where_unused us places (λ q d.
    let at = is.within d.0 q d.1 in
    let lowest = is.lowest d.0 q d.1 in
    let slot : (get_or places d.0 q).slot < boot.slots = (let l = at.slot in let e = h.drive_of_each_slot in omega (arith, l, e)) in
    let p = get_or places d.0 q in
    let both = and_parts (is_data_unit boot.units p.unit) (not (used_or_among (is_used boot facts) (all_units units) p.slot p.unit)) (sym (h.free p.slot p.unit slot) ∙ lowest.free_there) in
    let unused : used_or_among (is_used boot facts) (all_units units) p.slot p.unit ≡ false = not-true (used_or_among (is_used boot facts) (all_units units) p.slot p.unit) both.1 in
    let among : list_any (is_place p.slot p.unit) (all_units units) ≡ false = (or_parts (is_used boot facts p.slot p.unit) (list_any (is_place p.slot p.unit) (all_units units)) unused).1 in
    in_flat units us q (is_place q.slot q.unit) (subst (λ (z : Place). list_any (is_place z.slot z.unit) (all_units units) ≡ false) d.2 among) c)

-- nine units more
after_more : (boot : BootRecord) (facts : Facts) (old new : List Drive) (units : List (List Place)) (places : List Place) → length places ≡ SEGMENT_SHARDS → IsTaken old places → new ≡ with_units false old places
    → IsMapAfter boot facts units old → IsMapAfter boot facts (units ++ places ∷ []) new
after_more boot facts old new units places nine is now h = record {
  map = subst (λ d. IsMapBut boot facts (all_units (units ++ places ∷ [])) d) (sym now)
      (subst (λ l. IsMapBut boot facts l (with_units false old places)) (sym shape) (taken_units_are_used boot facts (all_units units) old places h.map is));
  new = record {
    each = all_append (AreUnitsToTake boot facts) units (places ∷ []) h.new.each (taken_units_are_free boot facts (all_units units) old places nine h.map is, tt);
    apart = pairs_append AreApart units (places ∷ []) h.new.apart (cons_pairs AreApart places [] (λ y c. absurd (nowhere y c)) (no_pairs AreApart))
        (λ us ps c d. elim (either places ps [] d) [
          | inl same ↦ subst (λ z. AreApart us z) (sym same) (next_apart boot facts units old places us h.map is c)
          | inr none ↦ absurd (nowhere ps none)
        ]);
  };
}
  where
    shape : all_units (units ++ places ∷ []) ≡ all_units units ++ places
    shape = flat_map-append (λ (x : List Place). x) units (places ∷ []) ∙ ap (λ l. all_units units ++ l) (append-nil places)

-- ---- in a loop

-- these were taken of the map that was, and there is room for the others of so many
pub record AreTaken (was now : List Drive) (count : ℕ) (units : List (List Place)) : Type 0 where
  pub room : HasRoom now (count - length units)
  pub fewer : length units ≤ count
  pub left : (g h : ℕ) → IsGroups was g → IsGroups now h → g ≤ h + length units
  pub after : (boot : BootRecord) (facts : Facts) (before : List (List Place)) → IsMapAfter boot facts before was → IsMapAfter boot facts (before ++ units) now

pub one_more : (was old new : List Drive) (count : ℕ) (units : List (List Place)) (places : List Place) → length places ≡ SEGMENT_SHARDS → length units < count → AreTaken was old count units
    → IsTaken old places → new ≡ with_units false old places → LowersByOne old new → AreTaken was new count (units ++ places ∷ [])
one_more was old new count units places nine less h is now lowers = record {
  room = room_left old new (count - length (units ++ places ∷ [])) (subst (λ n. HasRoom old n) (omega (arith, long, less)) h.room) lowers;
  fewer = omega (arith, long, less);
  left = λ g h2 first last. let most = one_lower was old new (length units) h.left lowers g h2 first last in omega (arith, most, long);
  after = λ boot facts before m. subst (λ l. IsMapAfter boot facts l new) (append_assoc before units (places ∷ [])) (after_more boot facts old new (before ++ units) places nine is now (h.after boot facts before m));
}
  where
    long : length (units ++ places ∷ []) ≡ length units + 1
    long = length-append units (places ∷ [])

-- units that are taken of the map of a record and its tables
pub taken_first : (was now : List Drive) (count : ℕ) (units : List (List Place)) → AreTaken was now count units → (boot : BootRecord) (facts : Facts) → IsMapOf boot facts was → AreNewUnits boot facts units
taken_first was now count units h boot facts m = (h.after boot facts [] (none_is_taken boot facts was m)).new
