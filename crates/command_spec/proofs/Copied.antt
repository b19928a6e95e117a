-- What facts read as after a copy: the array with the sectors in their new place.
use Rattle.command_spec.proofs.Prelude.{nat_tests, ◌≡◌, ◌≢◌, ℕ, zero, suc, ◌+◌, ◌-◌, ◌<◌, ◌≤◌, Bool, true, false, List, [], ◌∷◌, ◌++◌, length, refl, sym, ap, ◌∙◌, arith, inl, inr, subst, map, drop, get_or, Some, Contains, AllPairs, if◌then◌else◌, ◌==◌, nat_lt, ne_eqb, lt-ltb, get_or-drop, get_or-take, length-take-le, length-drop, AllZip, cases_Bool, cases_eq, cases_lt, Contains-append_left, Contains-append_right, bytes_eq-Decides, Entry, is_named, sectors_of, with_sectors, with_span, Facts, object, objects, ObjectFact, MediumFact, span, facts, Memory, Contents, SectorReads, EntryReads, FactsRead, ReadsAs, pairs_of, object_is, in_objects, entries_read, span_in, span_before, span_after, span_long, here, there, either, within_size, Derived, moved, leading, whole, around, moves_both, IsDerived, WasVisible, MayBeCopied, CopyFactsRead}
use Rattle.array_spec.specs.Prelude.{Array, replaced}
use Rattle.command_spec.proofs.Chains.{sector_through}
use Rattle.command_spec.proofs.Entries.{shown, moves, Follows, same, at_id, IsNewOrVisible, AreTold, all_follow, old_medium, of_none, of_one, of_two, second}

-- ---- the sectors

taken_span : (lba count : ℕ) (from : List (List ℕ)) → lba + count ≤ length from → length (span lba count from) ≡ count
taken_span lba count from within = length-take-le count (drop lba from) (let left = length-drop lba from in omega (arith, left, within))

span_at : (lba count j : ℕ) (from : List (List ℕ)) → j < count → get_or (span lba count from) j [] ≡ get_or from (lba + j) []
span_at lba count j from l = get_or-take count (drop lba from) j [] l ∙ get_or-drop lba from j []

-- ---- the ranges of a medium around a copy

of_if : {X : Type 0} (P : X → Type 0) (b : Bool) (xs ys : List X) → ((z : X) → Contains xs z → P z) → ((z : X) → Contains ys z → P z) → (z : X) → Contains (if b then xs else ys) z → P z
of_if P true xs ys p q z c = p z c
of_if P false xs ys p q z c = q z c

module _ (medium number : ℕ) (x : ObjectFact) (lba : ℕ) (y : ObjectFact) (to count : ℕ) where
  abbrev Front : List MediumFact
  Front = if to == 0 then [] else leading medium 0 to y.medium.0 0 number ∷ []

  abbrev behind : ℕ
  behind = number + (if to == 0 then 0 else 1)

  abbrev Copy : List MediumFact
  Copy = leading medium to (to + count) x.medium.0 lba behind ∷ []

  abbrev Behind : List MediumFact
  Behind = if nat_lt (to + count) y.sectors then leading medium (to + count) y.sectors y.medium.0 (to + count) (behind + 1) ∷ [] else []

  -- all of them are the medium's
  around_on : (q : MediumFact) → Contains (around medium number x lba y to count) q → q.medium.0 ≡ medium
  around_on q c = grind (arith, nat_tests, of_if, of_none, of_one, nat_lt)

  in_front : (to ≡ 0 → ⊥) → Contains (around medium number x lba y to count) (leading medium 0 to y.medium.0 0 number)
  in_front ne = grind (arith, nat_tests, ne_eqb, here)

  in_copy : Contains (around medium number x lba y to count) (leading medium to (to + count) x.medium.0 lba behind)
  in_copy =
      let f : MediumFact = leading medium to (to + count) x.medium.0 lba behind in
      Contains-append_left (Front ++ Copy) Behind f (Contains-append_right Front Copy f (here f []))

  in_behind : to + count < y.sectors → Contains (around medium number x lba y to count) (leading medium (to + count) y.sectors y.medium.0 (to + count) (behind + 1))
  in_behind l = grind (arith, nat_tests, lt-ltb, here)

-- ---- the entry of a name, replaced among others

module _ (contents : Contents) (staged : List (List ℕ)) (f : Facts) (name : List ℕ) (sectors : List (List ℕ)) where
  abbrev with_others : Entry → Entry
  with_others e = if is_named name e then record e { sectors = sectors } else e

  not_named : (e : Entry) → e.name ≢ name → is_named name e ≡ false
  not_named e ne = elim (cases_Bool (is_named name e)) [ inl t ↦ absurd (ne (sym ((bytes_eq-Decides name e.name).0 t))) | inr t ↦ t ]

  unnamed : (xs : List ObjectFact) (es : Array) → AllZip (EntryReads contents staged f) xs es → ((x : ObjectFact) → Contains xs x → x.name ≢ name) → es ≡ map with_others es
  unnamed [] [] h none = refl
  unnamed [] (e ∷ es) h none = absurd h
  unnamed (x ∷ xs) [] h none = absurd h
  unnamed (x ∷ xs) (e ∷ es) h none =
      let differs : is_named name e ≡ false = not_named e (λ same. none x (here x xs) (sym h.0.name ∙ same)) in
      ap (λ l. e ∷ l) (unnamed xs es h.1 (λ z c. none z (there x z xs c)))
      ∙ ap (λ (b : Bool). (if b then record e { sectors = sectors } else e) ∷ map with_others es) (sym differs)

  replaced_one : (xs : List ObjectFact) (es : Array) → AllZip (EntryReads contents staged f) xs es → AllPairs (λ x y. x.name ≢ y.name) xs → with_sectors es name sectors ≡ map with_others es
  replaced_one [] [] h apart = refl
  replaced_one [] (e ∷ es) h apart = absurd h
  replaced_one (x ∷ xs) [] h apart = absurd h
  replaced_one (x ∷ xs) (e ∷ es) h apart =
      one (is_named name e) refl (replaced_one xs es h.1 (λ i j d l w. apart (suc i) (suc j) d (omega (arith, l)) (omega (arith, w))))
    where
      one : (b : Bool) → is_named name e ≡ b → with_sectors es name sectors ≡ map with_others es
          → (if b then record e { sectors = sectors } ∷ es else e ∷ with_sectors es name sectors) ≡ (if b then record e { sectors = sectors } else e) ∷ map with_others es
      one false t rest = ap (λ l. e ∷ l) rest
      one true t rest =
          let named : name ≡ e.name = (bytes_eq-Decides name e.name).0 t in
          ap (λ l. record e { sectors = sectors } ∷ l) (unnamed xs es h.1 (λ z c same.
          let differ : x.name ≢ (get_or xs c.0 z).name = apart zero (suc c.0) z (omega arith) (omega (arith, c.1)) in
          differ (sym h.0.name ∙ sym named ∙ sym same ∙ ap (λ o. o.name) (sym c.2))))

-- ---- the copy

module _ (contents : Contents) (was now : Memory) (d : Derived) (array : Array) (r : ReadsAs contents was array) (is : IsDerived (facts was.tables) (facts now.tables) d)
    (fresh : (q : MediumFact) → Contains d.ranges q → was.next.medium ≤ q.medium.0) (x : ObjectFact) (lba : ℕ) (y : ObjectFact) (to count : ℕ) (may : MayBeCopied was x lba y to count)
    (medium number sequence : ℕ) (given : Contains d.objects (moved y medium sequence))
    (leads : (q : MediumFact) → Contains (around medium number x lba y to count) q → Contains d.ranges q) where
  abbrev Taken : List (List ℕ)
  Taken = span lba count (sectors_of array x.name)

  abbrev Before : List (List ℕ)
  Before = sectors_of array y.name

  taken_long : length Taken ≡ count
  taken_long = taken_span lba count (sectors_of array x.name) (let size = ((entries_read contents was array r).each x may.source).size in let from = may.from in omega (arith, size, from))

  before_long : length Before ≡ y.sectors
  before_long = ((entries_read contents was array r).each y may.target).size

  abbrev Reads : ℕ → List ℕ → Type 0
  Reads place sector = SectorReads contents was.staged (facts now.tables) medium place sector

  -- a sector of the volume that isn't copied over
  beside : (q : MediumFact) (place : ℕ) → Contains (around medium number x lba y to count) q → q.medium.0 ≡ medium → q.target.0 ≡ y.medium.0 → q.start ≤ place → place < q.end
      → q.target_start ≡ q.start → place < y.sectors → Reads place (get_or Before place [])
  beside q place c its target low high from l =
      let most = (within_size was r.sound).objects y may.target in
      let at : q.target_start + (place - q.start) ≡ place = omega (arith, from, low) in
      subst (λ m. SectorReads contents was.staged (facts now.tables) m place (get_or Before place [])) its
      (sector_through was now d r.sound is fresh contents q place (get_or Before place []) (leads q c) low high
      (subst (λ m. m < was.next.medium) (sym target) (old_medium contents was now d array r is fresh y may.target)) (omega (arith, at, l, most))
      (subst (λ m. SectorReads contents was.staged (facts was.tables) m (q.target_start + (place - q.start)) (get_or Before place [])) (sym target)
      (subst (λ p. SectorReads contents was.staged (facts was.tables) y.medium.0 p (get_or Before place [])) (sym at) (shown contents was now d array r is fresh y place may.target l))))

  inside : (place : ℕ) → to ≤ place → place < to + count → Reads place (get_or Taken (place - to) [])
  inside place low high =
      let q : MediumFact = leading medium to (to + count) x.medium.0 lba (behind medium number x lba y to count) in
      let most = (within_size was r.sound).objects x may.source in
      let less : lba + (place - to) < x.sectors = omega (arith, may.from, low, high) in
      subst (λ (s : List ℕ). Reads place s) (sym (span_at lba count (place - to) (sectors_of array x.name) (omega (arith, low, high))))
      (sector_through was now d r.sound is fresh contents q place (get_or (sectors_of array x.name) (lba + (place - to)) []) (leads q (in_copy medium number x lba y to count)) low high
      (old_medium contents was now d array r is fresh x may.source) (omega (arith, less, most)) (shown contents was now d array r is fresh x (lba + (place - to)) may.source less))

  each_place : (place : ℕ) → place < y.sectors → Reads place (get_or (with_span to Taken Before) place [])
  each_place place l =
      elim (cases_lt place to) [
        | inl low ↦
            subst (λ (s : List ℕ). Reads place s) (sym (span_before to place Taken Before (omega (arith, may.to_within, before_long)) low))
            (beside (leading medium 0 to y.medium.0 0 number) place (in_front medium number x lba y to count (λ e. omega (arith, e, low))) refl refl (omega arith) low refl l)
        | inr from ↦ elim (cases_lt place (to + count)) [
          | inl within ↦
              let j : to + (place - to) ≡ place = omega (arith, from) in
              let value : get_or (with_span to Taken Before) place [] ≡ get_or Taken (place - to) [] =
              ap (λ n. get_or (with_span to Taken Before) n []) (sym j)
              ∙ span_in to (place - to) Taken Before (omega (arith, may.to_within, before_long)) (omega (arith, from, within, taken_long)) in
              subst (λ (s : List ℕ). Reads place s) (sym value) (inside place from within)
          | inr after ↦
              subst (λ (s : List ℕ). Reads place s) (sym (span_after to place Taken Before (omega (arith, may.to_within, before_long)) (omega (arith, after, taken_long))))
              (beside (leading medium (to + count) y.sectors y.medium.0 (to + count) (behind medium number x lba y to count + 1)) place
              (in_behind medium number x lba y to count (omega (arith, after, l))) refl refl after l refl l)
        ]
      ]

  -- the entry of the volume
  copied : (e : Entry) → EntryReads contents was.staged (facts was.tables) y e
      → EntryReads contents was.staged (facts now.tables) (moved y medium sequence) (record e { sectors = with_span to Taken Before })
  copied e h = grind (arith, nat_tests, span_long, taken_long, before_long, each_place)

  abbrev With : Entry → Entry
  With = with_others contents was.staged (facts was.tables) y.name (with_span to Taken Before)

  -- only the volume has its name
  other_name : (z : ObjectFact) → WasVisible was z → z.object.0 ≢ y.object.0 → z.name ≢ y.name
  other_name z c ne same_name = elim (pairs_of (λ a b. a.name ≢ b.name) (objects (facts was.tables) was.next.object) z y r.sound.objects.names c may.target) [
    | inl one ↦ ne (ap (λ o. o.object.0) one)
    | inr either ↦ elim either [ inl differ ↦ differ same_name | inr differ ↦ differ (sym same_name) ]
  ]

  -- so memory reads where all other objects follow
  copy_read : AreTold contents was now d array r is fresh
      → ((id : ℕ) (z : ObjectFact) → id < was.next.object → object (facts was.tables) id ≡ Some z → id ≢ y.object.0 → Follows contents was now d array r is fresh (λ e. e) id z)
      → FactsRead contents was.staged (facts now.tables) was.next.object (replaced array y.name to Taken)
  copy_read told rest =
      rw (replaced_one contents was.staged (facts was.tables) y.name (with_span to Taken Before) (objects (facts was.tables) was.next.object) array r.reads r.sound.objects.names)
      (all_follow contents was now d array r is fresh With told each)
    where
      target_with : (e : Entry) → EntryReads contents was.staged (facts was.tables) y e → EntryReads contents was.staged (facts now.tables) (moved y medium sequence) (With e)
      target_with e h = grind (arith, nat_tests, bytes_eq-Decides, copied)

      other_with : (z w : ObjectFact) → z.name ≢ y.name → (e : Entry) → EntryReads contents was.staged (facts was.tables) z e → EntryReads contents was.staged (facts now.tables) w e
          → EntryReads contents was.staged (facts now.tables) w (With e)
      other_with z w differs e h now_reads = grind (arith, nat_tests, not_named)

      each : (id : ℕ) (z : ObjectFact) → id < was.next.object → object (facts was.tables) id ≡ Some z → Follows contents was now d array r is fresh With id z
      each id z l said = elim (cases_eq id y.object.0) [
        | inl at ↦ at_id contents was now d array r is fresh With y may.target (moved y medium sequence, is.given (moved y medium sequence) given, target_with) id z at said
        | inr ne ↦
            let w = rest id z l said ne in
            let c = in_objects (facts was.tables) was.next.object id z said l in
            let its = (object_is (facts was.tables) id z said).1 in
            (w.0, w.1, λ e h. other_with z w.0 (other_name z c (λ s. ne (sym its ∙ s))) e h (w.2 e h))
      ]

pub copy_facts_read : CopyFactsRead
copy_facts_read contents was now x lba y to count array r may is = elim (cases_Bool (moves_both x y)) [
  | inl both ↦
      let d = rw both at is in
      let m : ℕ = was.next.medium in
      let s : ℕ = was.next.sequence in
      let from : ObjectFact = moved x m s in
      let into : ObjectFact = moved y (m + 1) (s + 2) in
      let q : MediumFact = whole m x (s + 1) in
      let ranges : List MediumFact = around (m + 1) (s + 3) x lba y to count in
      let leads = λ (p : MediumFact) (c : Contains ranges p). there q p ranges c in
      let fresh : (p : MediumFact) → Contains (q ∷ ranges) p → m ≤ p.medium.0 =
      λ p c. elim (either q p ranges c) [
        | inl one ↦ omega (arith, ap (λ o. o.medium.0) one)
        | inr in_rest ↦ omega (arith, around_on (m + 1) (s + 3) x lba y to count p in_rest)
      ] in
      let its : Follows contents was now _ array r d fresh (λ e. e) x.object.0 x =
      (from, d.given from (here from (into ∷ [])), λ e h. moves contents was now _ array r d fresh x e m (s + 1) s may.source (here q ranges) h) in
      rw both (copy_read contents was now _ array r d fresh x lba y to count may (m + 1) (s + 3) (s + 2) (second from into []) leads
      (of_two (IsNewOrVisible was) from into (inr (x, may.source, refl)) (inr (y, may.target, refl)))
      (λ id z l said ne. elim (cases_eq id x.object.0) [
        | inl at ↦ at_id contents was now _ array r d fresh (λ e. e) x may.source its id z at said
        | inr other ↦ same contents was now _ array r d fresh id z l said (of_two (λ (z : ObjectFact). z.object.0 ≢ id) from into (λ e. other (sym e)) (λ e. ne (sym e)))
      ]))
  | inr alone ↦
      let d = rw alone at is in
      let m : ℕ = was.next.medium in
      let s : ℕ = was.next.sequence in
      let into : ObjectFact = moved y m s in
      let ranges : List MediumFact = around m (s + 1) x lba y to count in
      let fresh : (p : MediumFact) → Contains ranges p → m ≤ p.medium.0 = λ p c. omega (arith, around_on m (s + 1) x lba y to count p c) in
      rw alone (copy_read contents was now _ array r d fresh x lba y to count may m (s + 1) s (here into []) (λ p c. c)
      (of_one (IsNewOrVisible was) into (inr (y, may.target, refl)))
      (λ id z l said ne. same contents was now _ array r d fresh id z l said (of_one (λ (z : ObjectFact). z.object.0 ≢ id) into (λ e. ne (sym e)))))
]
