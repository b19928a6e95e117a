-- The first table whose answer is false is the first that fails.
use Rattle.table_soundness.proofs.Prelude.{nat_tests, ◌≡◌, ℕ, ◌<◌, ◌^◌, ◌∙◌, ◌++◌, Bool, true, false, List, map, refl, sym, subst, arith, inl, inr, All, IsPermutation, IsTrue, IfNone, IfSome, ◌↔◌, eq-eqb, [], false≢true, All-weaker, All-contains, IsPermutation-append_left, IsPermutation-sym, IsPermutation-trans, medium_key, is_empty_range, newest, has_key, says, MediumFact, AddressFact, ObjectFact, SegmentFact, Table, IsFact, facts_of, IsShown, all_contained, said_found, said_whole, Rises, IsSmall, first_false, IsFirst, numbers_before, numbers_of, AreNumbersSound, get_or_append_left, length-append, LoadedTables}
use Rattle.pur_base.specs.declared.facts.AnyFact.TheVariants as any
use Rattle.pur_base.specs.declared.request.Table.TheVariants as table
use Rattle.table_soundness.specs.Mediums as mediums
use Rattle.table_soundness.proofs.DistinctLemmas.{AreDistinct, distinct-permutation}
use Rattle.table_soundness.proofs.NewestLemmas.{found_one}

-- ---- the first that fails

module _ (P : Table → Type 0) where
  pub all_of : P table.Object → P table.Medium → P table.Address → P table.Segment → P table.Elision → (t : Table) → P t
  all_of o m a s e table.Object = o
  all_of o m a s e table.Medium = m
  all_of o m a s e table.Address = a
  all_of o m a s e table.Segment = s
  all_of o m a s e table.Elision = e

  pub first_is : (o m a s e : Bool) → (IsTrue o ↔ P table.Object) → (IsTrue m ↔ P table.Medium) → (IsTrue a ↔ P table.Address) → (IsTrue s ↔ P table.Segment) → (IsTrue e ↔ P table.Elision)
      → IfNone (first_false o m a s e) ((t : Table) → P t) × IfSome (first_false o m a s e) (IsFirst P)
  first_is false m a s e ho hm ha hs he = (tt, record { before = λ x l. grind (arith, nat_tests, l); fails = λ p. false≢true (ho.1 p) })
  first_is true false a s e ho hm ha hs he = (tt, record { before = λ x l. grind (arith, nat_tests, l); fails = λ p. false≢true (hm.1 p) })
  first_is true true false s e ho hm ha hs he = (tt, record { before = λ x l. grind (arith, nat_tests, l); fails = λ p. false≢true (ha.1 p) })
  first_is true true true false e ho hm ha hs he = (tt, record { before = λ x l. grind (arith, nat_tests, l); fails = λ p. false≢true (hs.1 p) })
  first_is true true true true false ho hm ha hs he = (tt, record { before = λ x l. grind (arith, nat_tests, l); fails = λ p. false≢true (he.1 p) })
  first_is true true true true true ho hm ha hs he = (all_of (ho.0 refl) (hm.0 refl) (ha.0 refl) (hs.0 refl) (he.0 refl), tt)

-- ---- numbers, of which the earlier ones stand in some order

numbers_moved : {F : Type 0} (number : F → ℕ) (next : ℕ) (one two : List ℕ) (ps : List (List F)) → IsPermutation one two → AreNumbersSound number next one ps → AreNumbersSound number next two ps
numbers_moved number next one two ps moved h = record {
  below = h.below;
  distinct = distinct-permutation (one ++ map number (facts_of ps)) (two ++ map number (facts_of ps)) (IsPermutation-append_left (map number (facts_of ps)) one two moved) h.distinct;
  rising = h.rising;
}

pub numbers_step : {F : Type 0} (number : F → ℕ) (next : ℕ) (earlier old new : List ℕ) (ps qs : List (List F)) (b : Bool) → qs ≡ ps → IsPermutation earlier old
    → (IsTrue b ↔ AreNumbersSound number next old qs) → IsPermutation (old ++ map number (facts_of qs)) new
    → (IsTrue b ↔ AreNumbersSound number next earlier ps) × IsPermutation (earlier ++ map number (facts_of ps)) new
numbers_step number next earlier old new ps qs b same moved h put = (
  (
    λ yes. numbers_moved number next old earlier ps (IsPermutation-sym earlier old moved) (subst (λ xs. AreNumbersSound number next old xs) same (h.0 yes)),
    λ right. h.1 (subst (λ xs. AreNumbersSound number next old xs) (sym same) (numbers_moved number next earlier old ps moved right)),
  ),
  subst (λ xs. IsPermutation (earlier ++ map number (facts_of xs)) new) same
      (IsPermutation-trans (earlier ++ map number (facts_of qs)) (old ++ map number (facts_of qs)) new (IsPermutation-append_left (map number (facts_of qs)) earlier old moved) put),
)

-- ---- numbers of which no two are the same

front_distinct : (xs ys : List ℕ) → AreDistinct (xs ++ ys) → AreDistinct xs
front_distinct xs ys h i j d low l =
    rw (← get_or_append_left xs ys d i (omega (arith, low, l)), ← get_or_append_left xs ys d j l) (h i j d low (omega (arith, l, length-append xs ys)))

-- those of a table and of the tables in front of it
module _ (t : LoadedTables) (h : AreDistinct (numbers_before t table.Elision ++ numbers_of t table.Elision)) where
  to_segments : AreDistinct (numbers_before t table.Elision)
  to_segments = front_distinct (numbers_before t table.Elision) (numbers_of t table.Elision) h

  to_addresses : AreDistinct (numbers_before t table.Segment)
  to_addresses = front_distinct (numbers_before t table.Segment) (numbers_of t table.Segment) to_segments

  to_mediums : AreDistinct (numbers_before t table.Address)
  to_mediums = front_distinct (numbers_before t table.Address) (numbers_of t table.Address) to_addresses

  pub distinct_before : (x : Table) → AreDistinct (numbers_before t x ++ numbers_of t x)
  distinct_before table.Elision = h
  distinct_before table.Segment = to_segments
  distinct_before table.Address = to_addresses
  distinct_before table.Medium = to_mediums
  distinct_before table.Object = front_distinct (numbers_of t table.Object) (numbers_of t table.Medium) to_mediums

-- then order is all that is asked
pub in_order : {F : Type 0} (number : F → ℕ) (next : ℕ) (earlier : List ℕ) (ps qs : List (List F)) (b : Bool) → qs ≡ ps → AreDistinct (earlier ++ map number (facts_of ps))
    → (IsTrue b ↔ (All (λ f. number f < next) (facts_of qs) × Rises number qs [])) → IsTrue b ↔ AreNumbersSound number next earlier ps
in_order number next earlier ps qs b same distinct h = grind (arith, nat_tests)

-- ---- what is shown, and what lawful facts are

pub shown_with : {F : Type 0} (key number : F → ℕ) (empty : F → Bool) (facts : List F) (one two : ℕ → Bool) (shown : List F) → ((id : ℕ) → two id ≡ one id)
    → IsShown key number empty facts one shown → IsShown key number empty facts two shown
shown_with key number empty facts one two shown same h = grind (arith, nat_tests, says)

pub small_objects : (facts : List ObjectFact) → All (λ f. IsFact (any.Object f)) facts → All (λ f. f.object.0 < 2 ^ 64) facts
small_objects facts h = All-weaker (λ f. IsFact (any.Object f)) (λ f. f.object.0 < 2 ^ 64) (λ f x. let n = x.lawful.id.1 in omega (arith, n)) facts h

pub small_segments : (facts : List SegmentFact) → All (λ f. IsFact (any.Segment f)) facts → All (λ f. f.segment.0 < 2 ^ 64) facts
small_segments facts h = All-weaker (λ f. IsFact (any.Segment f)) (λ f. f.segment.0 < 2 ^ 64) (λ f x. let n = x.lawful.id.1 in omega (arith, n)) facts h

pub small_starts : (facts : List MediumFact) → All (λ f. IsFact (any.Medium f)) facts → All mediums.IsSmall facts
small_starts facts h = All-weaker (λ f. IsFact (any.Medium f)) mediums.IsSmall (λ f x. x.fits) facts h

pub small_sectors : (facts : List AddressFact) → All (λ f. IsFact (any.Address f)) facts → All IsSmall facts
small_sectors facts h = All-weaker (λ f. IsFact (any.Address f)) IsSmall (λ f x. x.lawful.statement.0) facts h

-- what is shown of the facts is one of them
pub shown_facts : {F : Type 0} (P : F → Type 0) (key number : F → ℕ) (empty : F → Bool) (facts : List F) (elided : ℕ → Bool) (shown : List F) → All P facts → IsShown key number empty facts elided shown → All P shown
shown_facts P key number empty facts elided shown h seen = all_contained P shown (λ f c. All-contains P facts f h (said_found key number empty facts elided (key f) f (seen.said f c)).0)

-- a visible range isn't empty
pub shown_ranges : (facts : List MediumFact) (elided : ℕ → Bool) (shown : List MediumFact) → All (λ f. IsFact (any.Medium f)) facts → IsShown medium_key (λ f. f.seq.0) is_empty_range facts elided shown → All mediums.IsRange shown
shown_ranges facts elided shown h seen = all_contained mediums.IsRange shown (λ f c.
    let said = seen.said f c in
    let fact = All-contains (λ g. IsFact (any.Medium g)) facts f h (said_found medium_key (λ g. g.seq.0) is_empty_range facts elided (medium_key f) f said).0 in
    let some = (found_one medium_key (λ (g : MediumFact). g.seq.0) is_empty_range f (newest (λ (g : MediumFact). g.seq.0) (has_key medium_key (medium_key f)) facts) (said_whole medium_key (λ g. g.seq.0) is_empty_range facts elided (medium_key f) f said).1).1 in
    elim fact.lawful.statement [
      | inl nowhere ↦ absurd (false≢true (sym some ∙ eq-eqb f.end f.start nowhere.0))
      | inr down ↦ record { some = down.some; end = down.end }
    ])
