-- The units of the segments that a record and its tables name are used.
use Rattle.std.proofs.lemmas.Bool.Decides.{nat_tests}
use Rattle.std.proofs.Common.{◌≡◌, ℕ, zero, suc, ◌+◌, ◌≤◌, ◌<◌, List, [], ◌∷◌, ◌++◌, map, refl, sym, ap, subst, arith, ◌∙◌, inl, inr, Bool, true, false, ◌||◌}
use Rattle.std.specs.Prelude.{Option, Some, None, filter_map, ◌==◌}
use Rattle.std.specs.List.{AllByRecursion, list_any, range_with_len, flat_map, cons_option}
use Rattle.std.proofs.lemmas.Bool.{cases_eq, eq-eqb, eqb-true, and_parts, or_cases}
use Rattle.boot_codec.specs.Prelude.{Geometry, key_of, Facts, segment_key, never, says_is, is_elided, segment, segments, SegmentFact, Place, AscendFrom, IsSegment, IsPatch, IsRecordOf}
use Rattle.pur_base.specs.declared.request.Table.TheVariants as table
use Rattle.boot_codec.specs.declared.patch.Patch.{Patch}
use Rattle.boot_codec.specs.declared.patch.PatchSegment.{PatchSegment}
use Rattle.boot_codec.specs.declared.record.BootRecord.{BootRecord}
use Rattle.array_spec.specs.Counts.{is_place, is_used}
use Rattle.array_spec.specs.Sound.{ArePlaces, named_segments, used_places, AreSegmentsSound}

any_left : (a b : Bool) → a ≡ true → a || b ≡ true
any_left true b e = refl
any_left false b e = cc

any_right : (a b : Bool) → b ≡ true → a || b ≡ true
any_right true b e = refl
any_right false b e = e

its_place : (p : Place) → is_place p.slot p.unit p ≡ true
its_place p = rw (eq-eqb p.slot p.slot refl) (rw (eq-eqb p.unit p.unit refl) refl)

-- each place of a list is one of the list's
all_among : (ps : List Place) (f : Place → Type 0) → ((p : Place) → list_any (is_place p.slot p.unit) ps ≡ true → f p) → AllByRecursion f ps
all_among [] f h = tt
all_among (p ∷ ps) f h = (
  h p (any_left (is_place p.slot p.unit p) (list_any (is_place p.slot p.unit) ps) (its_place p)),
  all_among ps f (λ q e. h q (any_right (is_place q.slot q.unit p) (list_any (is_place q.slot q.unit) ps) e)),
)

-- the same of the places of segments, by a test of all of them
all_of_segments : (ss : List PatchSegment) (f : Place → Type 0) → ((p : Place) → list_any (list_any (is_place p.slot p.unit)) (map (λ s. s.places) ss) ≡ true → f p)
    → AllByRecursion (λ s. AllByRecursion f s.places) ss
all_of_segments [] f h = tt
all_of_segments (s ∷ ss) f h = (
  all_among s.places f (λ p e. h p (any_left (list_any (is_place p.slot p.unit) s.places) _ e)),
  all_of_segments ss f (λ p e. h p (any_right (list_any (is_place p.slot p.unit) s.places) _ e)),
)

pub any_append_left : {X : Type 0} (t : X → Bool) (xs ys : List X) → list_any t xs ≡ true → list_any t (xs ++ ys) ≡ true
any_append_left t [] ys e = cc
any_append_left t (x ∷ xs) ys e =
    elim (or_cases (t x) (list_any t xs) e) [
      | inl h ↦ any_left (t x) (list_any t (xs ++ ys)) h
      | inr h ↦ any_right (t x) (list_any t (xs ++ ys)) (any_append_left t xs ys h)
    ]

any_append_right : {X : Type 0} (t : X → Bool) (xs ys : List X) → list_any t ys ≡ true → list_any t (xs ++ ys) ≡ true
any_append_right t [] ys e = e
any_append_right t (x ∷ xs) ys e = any_right (t x) (list_any t (xs ++ ys)) (any_append_right t xs ys e)

pub all_append_left : {X : Type 0} (P : X → Type 0) (xs ys : List X) → AllByRecursion P (xs ++ ys) → AllByRecursion P xs
all_append_left P [] ys h = tt
all_append_left P (x ∷ xs) ys h = (h.0, all_append_left P xs ys h.1)

pub all_append_right : {X : Type 0} (P : X → Type 0) (xs ys : List X) → AllByRecursion P (xs ++ ys) → AllByRecursion P ys
all_append_right P [] ys h = h
all_append_right P (x ∷ xs) ys h = all_append_right P xs ys h.1

all_in_patches : (f : PatchSegment → Type 0) (ps : List Patch) → AllByRecursion f (flat_map (λ p. p.segments) ps) → AllByRecursion (λ p. AllByRecursion f p.segments) ps
all_in_patches f [] h = tt
all_in_patches f (p ∷ ps) h =
    (all_append_left f p.segments (flat_map (λ q. q.segments) ps) h, all_in_patches f ps (all_append_right f p.segments (flat_map (λ q. q.segments) ps) h))

pub patches_are_used : (boot : BootRecord) (facts : Facts) (f : Place → Type 0) → ((p : Place) → is_used boot facts p.slot p.unit ≡ true → f p)
    → AllByRecursion (λ p. AllByRecursion (λ s. AllByRecursion f s.places) p.segments) boot.patches
patches_are_used boot facts f h = grind (arith, nat_tests, all_in_patches, all_of_segments, any_append_left)

-- a visible data segment's id is below the next one
segment_below : (next : ℕ) (facts : Facts) (id : ℕ) (d : SegmentFact) → AllByRecursion (λ f. f.segment.0 < next) facts.segments → segment facts id ≡ Some d → id < next
segment_below next facts id d all e =
    let h : (d.segment.0 < next) × (segment_key d ≡ key_of id 0) =
    says_is segment_key (λ f. f.seq.0) never (λ f. f.segment.0 < next) facts.segments (is_elided facts.elisions table.Segment) (key_of id 0) d all e in
    omega (arith, h.0, h.1)

-- what a function gives for one of n numbers from a on is among what it gives for them all
among_given : (t : List Place → Bool) (get : ℕ → Option SegmentFact) (a n id : ℕ) (d : SegmentFact) → a ≤ id → id < a + n → get id ≡ Some d → t d.places ≡ true
    → list_any t (map (λ x. x.places) (filter_map get (range_with_len a n))) ≡ true
among_given t get a zero id d low high e passes = absurd (omega (arith, low, high))
among_given t get a (suc n) id d low high e passes =
    elim (cases_eq a id) [
      | inl same ↦ here (get a) refl same
      | inr other ↦ later (get a) (among_given t get (a + 1) n id d (omega (arith, low, other)) (omega (arith, high)) e passes)
    ]
  where
    here : (o : Option SegmentFact) → get a ≡ o → a ≡ id → list_any t (map (λ x. x.places) (cons_option o (filter_map get (range_with_len (a + 1) n)))) ≡ true
    here None e2 same = cc
    here (Some g) e2 same = any_left (t g.places) _ (rw (is_that g (sym e2 ∙ ap get same ∙ e)) passes)
      where
        is_that : (g : SegmentFact) → Some g ≡ Some d → g ≡ d
        is_that g e3 = cc

    later : (o : Option SegmentFact) → list_any t (map (λ x. x.places) (filter_map get (range_with_len (a + 1) n))) ≡ true → list_any t (map (λ x. x.places) (cons_option o (filter_map get (range_with_len (a + 1) n)))) ≡ true
    later None h = h
    later (Some g) h = any_right (t g.places) _ h

pub data_is_used : (boot : BootRecord) (facts : Facts) (f : Place → Type 0) → AllByRecursion (λ x. x.segment.0 < boot.next.segment) facts.segments → ((p : Place) → is_used boot facts p.slot p.unit ≡ true → f p)
    → (id : ℕ) (d : SegmentFact) → segment facts id ≡ Some d → AllByRecursion f d.places
data_is_used boot facts f all h id d e =
    all_among d.places f (λ p passes. h p (any_append_right (list_any (is_place p.slot p.unit)) (map (λ s. s.places) (named_segments boot)) _
    (among_given (list_any (is_place p.slot p.unit)) (segment facts) 0 boot.next.segment id d (omega arith) (omega (arith, segment_below boot.next.segment facts id d all e)) e passes)))

-- a unit among places of which each is a data unit is one
among_data : (slot unit : ℕ) (ps : List Place) → AllByRecursion (λ p. 3 ≤ p.unit) ps → list_any (is_place slot unit) ps ≡ true → 3 ≤ unit
among_data slot unit [] all e = cc
among_data slot unit (p ∷ ps) all e = elim (or_cases (is_place slot unit p) (list_any (is_place slot unit) ps) e) [
  | inl h ↦ subst (λ n. 3 ≤ n) (eqb-true p.unit unit (and_parts (p.slot == slot) (p.unit == unit) h).1) all.0
  | inr h ↦ among_data slot unit ps all.1 h
]

among_all_data : (slot unit : ℕ) (pss : List (List Place)) → AllByRecursion (λ ps. AllByRecursion (λ p. 3 ≤ p.unit) ps) pss → list_any (list_any (is_place slot unit)) pss ≡ true → 3 ≤ unit
among_all_data slot unit [] all e = cc
among_all_data slot unit (ps ∷ pss) all e = elim (or_cases (list_any (is_place slot unit) ps) (list_any (list_any (is_place slot unit)) pss) e) [
  | inl h ↦ among_data slot unit ps all.0 h
  | inr h ↦ among_all_data slot unit pss all.1 h
]

pub all_append : {X : Type 0} (P : X → Type 0) (xs ys : List X) → AllByRecursion P xs → AllByRecursion P ys → AllByRecursion P (xs ++ ys)
all_append P [] ys h k = k
all_append P (x ∷ xs) ys h k = (h.0, all_append P xs ys h.1 k)

places_are_data : (slots units least : ℕ) (ps : List Place) → AscendFrom slots units least ps → AllByRecursion (λ p. 3 ≤ p.unit) ps
places_are_data slots units least [] h = tt
places_are_data slots units least (p ∷ ps) h = (h.1.data_unit, places_are_data slots units (p.slot + 1) ps h.2)

segments_are_data : (slots units : ℕ) (ss : List PatchSegment) → AllByRecursion (IsSegment slots units) ss → AllByRecursion (λ ps. AllByRecursion (λ p. 3 ≤ p.unit) ps) (map (λ s. s.places) ss)
segments_are_data slots units [] h = tt
segments_are_data slots units (s ∷ ss) h = (places_are_data slots units 0 s.places h.0.places, segments_are_data slots units ss h.1)

pub patches_are_lawful : (slots units : ℕ) (ps : List Patch) → AllByRecursion (IsPatch slots units) ps → AllByRecursion (IsSegment slots units) (flat_map (λ p. p.segments) ps)
patches_are_lawful slots units [] h = tt
patches_are_lawful slots units (p ∷ ps) h = all_append (IsSegment slots units) p.segments (flat_map (λ q. q.segments) ps) h.0.segments (patches_are_lawful slots units ps h.1)

given_are_data : (shelf : Geometry) (get : ℕ → Option SegmentFact) → ((id : ℕ) (d : SegmentFact) → get id ≡ Some d → ArePlaces shelf d.places) → (a n : ℕ)
    → AllByRecursion (λ ps. AllByRecursion (λ p. 3 ≤ p.unit) ps) (map (λ d. d.places) (filter_map get (range_with_len a n)))
given_are_data shelf get h a zero = tt
given_are_data shelf get h a (suc n) = one (get a) refl (given_are_data shelf get h (a + 1) n)
  where
    one : (o : Option SegmentFact) → get a ≡ o → AllByRecursion (λ ps. AllByRecursion (λ p. 3 ≤ p.unit) ps) (map (λ d. d.places) (filter_map get (range_with_len (a + 1) n)))
        → AllByRecursion (λ ps. AllByRecursion (λ p. 3 ≤ p.unit) ps) (map (λ d. d.places) (cons_option o (filter_map get (range_with_len (a + 1) n))))
    one None e rest = rest
    one (Some d) e rest = (places_are_data shelf.slots shelf.units 0 d.places (h a d e).ascending, rest)

-- units 0 to 2 are never used
pub used_is_data : (shelf : Geometry) (boot : BootRecord) (facts : Facts) (slot unit : ℕ) → IsRecordOf shelf boot → AreSegmentsSound shelf boot facts → is_used boot facts slot unit ≡ true → 3 ≤ unit
used_is_data shelf boot facts slot unit lawful sound e =
    among_all_data slot unit (used_places boot facts)
    (all_append (λ ps. AllByRecursion (λ p. 3 ≤ p.unit) ps) (map (λ s. s.places) (named_segments boot)) (map (λ d. d.places) (segments facts boot.next.segment))
    (segments_are_data boot.slots boot.units (named_segments boot) (patches_are_lawful boot.slots boot.units boot.patches lawful.lawful.patches.each))
    (given_are_data shelf (segment facts) sound.places 0 boot.next.segment)) e
