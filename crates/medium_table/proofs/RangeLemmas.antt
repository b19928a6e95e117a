-- What facts of mediums say.
use Rattle.medium_table.proofs.Prelude.{nat_tests, subst, ◌⊎◌, ◌≡◌, ◌↔◌, ℕ, ◌+◌, ◌^◌, ◌<◌, ◌≤◌, Bool, true, false, List, [], ◌∷◌, ◌++◌, refl, sym, ap, ◌∙◌, arith, inl, inr, All, Contains, Option, Some, None, IfSome, nat_lt, ◌==◌, ◌&&◌, if◌then◌else◌, option_and_then, eq-eqb, ne_eqb, le-ltb, lt-ltb, cases_eq, cases_order, All-contains, MediumFact, Facts, is_empty_range, medium_key, id_of, key_of, IsOver, unless_empty, has_key, is_within, range, AreElidedRanges, IsLastSaid, newest_of, AreBelow, either, nowhere, id_of_key, within_elided, all_below, newest_found, after_cut, emptied, number, range_from, rest_of, said, AreDisjoint, IsLowest, IsRangeOver}
use Rattle.std.specs.Option.{option_or}
use Rattle.pur_base.specs.declared.request.Table.TheVariants as table
use Rattle.pyramid.proofs.EndLemmas.{said_key}
use Rattle.pyramid.proofs.WalkLemmas.{newer_over}

-- newer facts count in place of older ones
said_over : (fs run : List MediumFact) (elided : ℕ → Bool) (k : ℕ) → AreBelow number fs run
    → said (fs ++ run) elided k ≡ (if elided (id_of k) then None else option_and_then (unless_empty is_empty_range) (option_or (newest_of medium_key number k run) (newest_of medium_key number k fs)))
said_over fs run elided k below = ap (λ o. if elided (id_of k) then None else option_and_then (unless_empty is_empty_range) o) (newer_over medium_key number k fs run below)

-- ranges that end behind their starts are said in place of older facts
pub whole_over : (fs run : List MediumFact) (elided : ℕ → Bool) (k : ℕ) → AreBelow number fs run → All (λ r. r.start < r.end) run
    → said (fs ++ run) elided k ≡ option_or (said run elided k) (said fs elided k)
whole_over fs run elided k below whole = said_over fs run elided k below ∙ one (elided (id_of k)) (newest_of medium_key number k run) (newest_found number (has_key medium_key k) run)
  where
    two : (r : MediumFact) → r.start < r.end → is_empty_range r ≡ false
    two r l = ne_eqb r.end r.start (λ e. omega (arith, e, l))

    one : (b : Bool) (o : Option MediumFact) → IfSome o (λ r. Contains run r × (has_key medium_key k r ≡ true))
        → (if b then None else option_and_then (unless_empty is_empty_range) (option_or o (newest_of medium_key number k fs)))
        ≡ option_or (if b then None else option_and_then (unless_empty is_empty_range) o) (if b then None else option_and_then (unless_empty is_empty_range) (newest_of medium_key number k fs))
    one true o h = refl
    one false None h = refl
    one false (Some r) h =
        let less : r.start < r.end = All-contains (λ x. x.start < x.end) run r whole h.0 in
        rw (two r less) refl

-- facts of higher numbers are newer
pub below_emptied : (fs : List MediumFact) (r : MediumFact) (seq : ℕ) → All (λ f. number f < seq) fs → AreBelow number fs (emptied r seq ∷ [])
below_emptied fs r seq h = grind (arith, nat_tests, all_below, number, emptied, either, nowhere)

pub below_pair : (fs : List MediumFact) (r : MediumFact) (to seq : ℕ) → All (λ f. number f < seq) fs → AreBelow number fs (emptied r seq ∷ rest_of r to (seq + 1) ∷ [])
below_pair fs r to seq h = grind (arith, nat_tests, all_below, number, emptied, either, nowhere)

-- the fact alone
alone : (k : ℕ) (r : MediumFact) (b : Bool) → (medium_key r == k) ≡ b → newest_of medium_key number k (r ∷ []) ≡ (if b then Some r else None)
alone k r true e = rw e refl
alone k r false e = rw e refl

module _ (fs : List MediumFact) (elided : ℕ → Bool) (r : MediumFact) (to seq : ℕ) where
  nothing : (b : Bool) (k : ℕ) (run : List MediumFact) → elided (id_of k) ≡ b → newest_of medium_key number k run ≡ Some (emptied r seq)
      → (if b then None else option_and_then (unless_empty is_empty_range) (option_or (newest_of medium_key number k run) (newest_of medium_key number k fs))) ≡ None
  nothing true k run e h = refl
  nothing false k run e h = let same : (r.start == r.start) ≡ true = eq-eqb r.start r.start refl in rw (h, same) refl

  -- the range is gone
  pub cut_whole : (k : ℕ) → AreBelow number fs (emptied r seq ∷ []) → to ≡ r.end → said (fs ++ emptied r seq ∷ []) elided k ≡ after_cut r to seq (said fs elided) k
  cut_whole k below ends = said_over fs (emptied r seq ∷ []) elided k below ∙ elim (cases_eq k (medium_key r)) [
    | inl same ↦ grind (arith, nat_tests, true, eq-eqb, emptied, nothing, alone)
    | inr other ↦ grind (arith, nat_tests, false, ne_eqb, emptied, nat_lt, le-ltb, alone)
  ]
    where
      none_there : (b : Bool) → said fs elided k ≡ (if b && false then Some (rest_of r to (seq + 1)) else said fs elided k)
      none_there true = refl
      none_there false = refl

  pair : (k : ℕ) (a b : Bool) → (medium_key (emptied r seq) == k) ≡ a → (medium_key (rest_of r to (seq + 1)) == k) ≡ b
      → newest_of medium_key number k (emptied r seq ∷ rest_of r to (seq + 1) ∷ []) ≡ (if b then Some (rest_of r to (seq + 1)) else if a then Some (emptied r seq) else None)
  pair k true true p q = let less : nat_lt seq (seq + 1) ≡ true = lt-ltb seq (seq + 1) (omega arith) in rw (p, q, less) refl
  pair k true false p q = rw (p, q) refl
  pair k false true p q = rw (p, q) refl
  pair k false false p q = rw (p, q) refl

  -- the range has lost its front
  pub cut_part : (k : ℕ) → AreBelow number fs (emptied r seq ∷ rest_of r to (seq + 1) ∷ []) → r.start < to → to < r.end → to < 2 ^ 64 → elided r.medium.0 ≡ false
      → said (fs ++ emptied r seq ∷ rest_of r to (seq + 1) ∷ []) elided k ≡ after_cut r to seq (said fs elided) k
  cut_part k below begun within fits whole = said_over fs (emptied r seq ∷ rest_of r to (seq + 1) ∷ []) elided k below ∙ elim (cases_eq k (medium_key r)) [
    | inl same ↦ grind (arith, nat_tests, true, eq-eqb, emptied, false, ne_eqb, nothing, pair)
    | inr other ↦ elim (cases_eq k (key_of r.medium.0 to)) [
      | inl there ↦ grind (arith, nat_tests, false, ne_eqb, emptied, true, eq-eqb, nat_lt, lt-ltb, id_of_key)
      | inr nowhere ↦
          let at : (k == medium_key r) ≡ false = ne_eqb k (medium_key r) other in
          let back : (medium_key (emptied r seq) == k) ≡ false = ne_eqb (medium_key r) k (λ e. other (sym e)) in
          let miss : (k == key_of r.medium.0 to) ≡ false = ne_eqb k (key_of r.medium.0 to) nowhere in
          let misses : (medium_key (rest_of r to (seq + 1)) == k) ≡ false = ne_eqb (key_of r.medium.0 to) k (λ e. nowhere (sym e)) in
          rw (pair k false false back misses, at, miss) refl
    ]
  ]

-- facts that are taken in, by another name
pub taken_as : (new old run other : List MediumFact) → run ≡ other → ((f : MediumFact) → Contains new f ↔ (Contains old f ⊎ Contains run f)) → (f : MediumFact) → Contains new f ↔ (Contains old f ⊎ Contains other f)
taken_as new old run other same h f = subst (λ (fs : List MediumFact). Contains new f ↔ (Contains old f ⊎ Contains fs f)) same (h f)

module _ (facts : List MediumFact) (elided : ℕ → Bool) (medium : ℕ) where
  -- there is one lowest range
  pub one_lowest : (r s : MediumFact) → IsLowest facts elided medium r → IsLowest facts elided medium s → r ≡ s
  one_lowest r s a b = elim (cases_order r.start s.start) [
    | inl same ↦ grind (arith, nat_tests)
    | inr either ↦ elim either [
      | inl less ↦ (let e : Some r ≡ None = sym a.there ∙ b.first r.start less in absurd cc)
      | inr less ↦ (let e : Some s ≡ None = sym b.there ∙ a.first s.start less in absurd cc)
    ]
  ]

  -- a visible range is of the medium, which isn't elided
  pub visible_medium : (r : MediumFact) (start : ℕ) → range_from facts elided medium start ≡ Some r → start ≡ r.start → r.medium.0 ≡ medium
  visible_medium r start e same = let at = said_key medium_key number is_empty_range facts elided (key_of medium start) r e in omega (arith, at, same)

  pub not_elided : (start : ℕ) (r : MediumFact) → start < 2 ^ 64 → range_from facts elided medium start ≡ Some r → elided medium ≡ false
  not_elided start r l e = one (elided medium) refl
    where
      one : (b : Bool) → elided medium ≡ b → elided medium ≡ false
      one false h = h
      one true h =
          let gone : elided (id_of (key_of medium start)) ≡ true = ap elided (id_of_key medium start l) ∙ h in
          let none : range_from facts elided medium start ≡ None = rw gone refl in
          absurd (two (sym none ∙ e))
        where
          two : None ≡ Some r → ⊥
          two e = cc

  -- where the last range that begins up to a sector ends in front of it, none has the sector
  pub none_over : (sector : ℕ) (r s : MediumFact) → AreDisjoint facts elided medium → IsLastSaid medium_key (said facts elided) (key_of medium 0) (key_of medium sector) r
      → r.start < 2 ^ 64 → sector < 2 ^ 64 → r.end ≤ sector → IsRangeOver facts elided medium sector s → ⊥
  none_over sector r s disjoint last small low ended over = elim (cases_order s.start r.start) [
    | inl same ↦ grind (arith, nat_tests)
    | inr either ↦ elim either [
      | inl before ↦
          let within : r.start < r.end = disjoint.whole r there in
          let up = over.below_end in
          let equal : r ≡ s = disjoint.apart r.start r s (record { there = there; from_start = omega arith; below_end = within })
          (record { there = over.there; from_start = omega (arith, before); below_end = omega (arith, start_within, up) }) in
          let starts : r.start ≡ s.start = ap (λ x. x.start) equal in
          omega (arith, starts, before)
      | inr behind ↦ grind (arith, nat_tests, said)
    ]
  ]
    where
      never : None ≡ Some s → ⊥
      never e = cc

      of_medium : r.medium.0 ≡ medium
      of_medium = let a = last.begun in let b = last.within in omega (arith, a, b, small, low)

      start_within : r.start ≤ sector
      start_within = let b = last.within in omega (arith, b, of_medium)

      there : range_from facts elided medium r.start ≡ Some r
      there = ap (λ m. range_from facts elided m r.start) (sym of_medium) ∙ last.is_said

-- the ranges of elided ids elide the same
pub same_ranges : (facts : Facts) (ranges : List (ℕ × ℕ)) (medium start : ℕ) → AreElidedRanges facts.elisions table.Medium ranges → range_from facts.mediums (is_within ranges) medium start ≡ range facts medium start
same_ranges facts ranges medium start h = rw (within_elided facts.elisions table.Medium ranges (id_of (key_of medium start)) h) refl

pub same_over : (facts : Facts) (ranges : List (ℕ × ℕ)) (medium sector : ℕ) (r : MediumFact) → AreElidedRanges facts.elisions table.Medium ranges
    → IsRangeOver facts.mediums (is_within ranges) medium sector r ↔ IsOver facts medium sector r
same_over facts ranges medium sector r h = (
  (λ o. record { there = sym (same_ranges facts ranges medium r.start h) ∙ o.there; from_start = o.from_start; below_end = o.below_end }),
  (λ o. record { there = same_ranges facts ranges medium r.start h ∙ o.there; from_start = o.from_start; below_end = o.below_end }),
)
