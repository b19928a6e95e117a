-- Which segments visible addresses name.
use Rattle.array_memory.proofs.Prelude.{◌≢◌, set, ◌≡◌, ℕ, ◌+◌, ◌<◌, ◌≤◌, Bool, true, false, not, ◌&&◌, ◌||◌, List, [], ◌∷◌, ◌++◌, length, get_or, take, refl, sym, ap, ◌∙◌, arith, inl, inr, cond, map, Option, Some, None, option_map, AllPairs, Contains, append-nil, eq-eqb, eqb-true, get_or-set_other, get_or-set_same, list_any, is_some, cases_Bool, cases_eq, cases_lt, or_cases, get_or_default, take_more, Contains-get_or, Contains-push_cases, filter-append, list_any_at, all_pairs_push, address_key, segment_key, never, key_of, Ascends, says, Location, Target, Stored, Zero, AddressFact, SegmentFact, said_found, all_contained, target_of, stands_in, is_said_in, names_at, names, is_named, unnamed}
use Rattle.std.proofs.Math.Bool.{or-false}
use Rattle.table_plan.specs.declared.witnesses.Witness.{Witness}
use Rattle.std.proofs.lemmas.Bool.{ne_eqb}
use Rattle.std.proofs.lemmas.List.Folds.{list_any_none}
use Rattle.pur_base.specs.Facts.{pointed_of}

-- ---- addresses that name a segment

-- what is said stands somewhere
said_at : (segment : ℕ) (o : Option Target) → is_said_in segment o ≡ true → (at : Location) × (o ≡ Some (Stored at)) × (at.segment.0 ≡ segment)
said_at segment None e = cc
said_at segment (Some (Stored at)) e = (at, refl, eqb-true at.segment.0 segment e)
said_at segment (Some Zero) e = cc

both : (a b : Bool) → (a && b) ≡ true → (a ≡ true) × (b ≡ true)
both true true e = (refl, refl)
both true false e = cc
both false b e = cc

module _ (addresses : List AddressFact) (hidden : ℕ → Bool) (segment : ℕ) where
  abbrev Said : ℕ → Option AddressFact
  Said key = says address_key (λ f. f.seq.0) never addresses hidden key

  abbrev said_in : Option AddressFact → Bool
  said_in o = is_said_in segment (option_map (λ f. f.target) o)

  -- an address that names the segment is that of a fact
  pub named_by : (medium sector : ℕ) → names_at addresses hidden segment medium sector ≡ true → is_named addresses hidden segment ≡ true
  unfolding names_at names is_named
  named_by medium sector e = one (Said (key_of medium sector)) refl e
    where
      one : (o : Option AddressFact) → Said (key_of medium sector) ≡ o → said_in o ≡ true → list_any (λ f. stands_in segment f.target && names_at addresses hidden segment f.medium.0 f.sector) addresses ≡ true
      one None is e = cc
      one (Some f) is e =
          let found = said_found address_key (λ (g : AddressFact). g.seq.0) never addresses hidden (key_of medium sector) f is in
          let still : said_in (Said (address_key f)) ≡ true = ap (λ k. said_in (Said k)) found.1 ∙ ap said_in is ∙ e in
          let here : (stands_in segment f.target && said_in (Said (address_key f))) ≡ true = rw (e, still) refl in
          list_any_at (λ g. stands_in segment g.target && names_at addresses hidden segment g.medium.0 g.sector) addresses found.0.0 f found.0.1
          (ap (λ g. stands_in segment g.target && names_at addresses hidden segment g.medium.0 g.sector) found.0.2 ∙ here)

  some_fact : (fs : List AddressFact) → list_any (λ f. stands_in segment f.target && names_at addresses hidden segment f.medium.0 f.sector) fs ≡ true → (f : AddressFact) × (names_at addresses hidden segment f.medium.0 f.sector ≡ true)
  some_fact [] e = cc
  some_fact (f ∷ fs) e = elim (or_cases (stands_in segment f.target && names_at addresses hidden segment f.medium.0 f.sector) (list_any (λ g. stands_in segment g.target && names_at addresses hidden segment g.medium.0 g.sector) fs) e) [
    | inl one ↦ (f, (both (stands_in segment f.target) (names_at addresses hidden segment f.medium.0 f.sector) one).1)
    | inr rest ↦ some_fact fs rest
  ]

  -- a named segment has such an address
  pub named_at : is_named addresses hidden segment ≡ true → (medium sector : ℕ) × ((at : Location) × (target_of addresses hidden medium sector ≡ Some (Stored at)) × (at.segment.0 ≡ segment))
  unfolding names_at names is_named
  named_at e = let w = some_fact addresses e in (w.0.medium.0, w.0.sector, said_at segment (target_of addresses hidden w.0.medium.0 w.0.sector) w.1)

  -- and an address of one makes it named
  pub at_named : (medium sector : ℕ) (at : Location) → target_of addresses hidden medium sector ≡ Some (Stored at) → at.segment.0 ≡ segment → is_named addresses hidden segment ≡ true
  unfolding names_at
  at_named medium sector at e its = named_by medium sector (ap (is_said_in segment) e ∙ eq-eqb at.segment.0 segment its)

-- ---- the segments that lost their witness

module _ (addresses : List AddressFact) (hidden : ℕ → Bool) (ds : List SegmentFact) (i : ℕ) (d : SegmentFact) (l : i < length ds) where
  abbrev Id : ℕ
  Id = (get_or ds i d).segment.0

  abbrev Ids : ℕ → List ℕ
  Ids n = map (λ (x : SegmentFact). x.segment.0) (take n ds)

  map_push : (xs : List SegmentFact) (x : SegmentFact) → map (λ (y : SegmentFact). y.segment.0) (xs ++ x ∷ []) ≡ map (λ (y : SegmentFact). y.segment.0) xs ++ x.segment.0 ∷ []
  map_push [] x = refl
  map_push (y ∷ ys) x = ap (λ r. y.segment.0 ∷ r) (map_push ys x)

  more_ids : unnamed addresses hidden (Ids (i + 1)) ≡ unnamed addresses hidden (Ids i) ++ unnamed addresses hidden (Id ∷ [])
  more_ids = ap (λ (xs : List SegmentFact). unnamed addresses hidden (map (λ (x : SegmentFact). x.segment.0) xs)) (take_more ds i d l) ∙ ap (unnamed addresses hidden) (map_push (take i ds) (get_or ds i d))
      ∙ filter-append (λ id. not (is_named addresses hidden id)) (Ids i) (Id ∷ [])

  -- one is lost
  pub lost_more : (ids : List ℕ) → unnamed addresses hidden ids ≡ unnamed addresses hidden (Ids i) → unnamed addresses hidden (ids ++ Id ∷ []) ≡ unnamed addresses hidden (Ids (i + 1))
  lost_more ids e = filter-append (λ id. not (is_named addresses hidden id)) ids (Id ∷ []) ∙ ap (λ xs. xs ++ unnamed addresses hidden (Id ∷ [])) e ∙ sym more_ids

  -- and one isn't, which is named
  pub lost_same : (ids : List ℕ) → unnamed addresses hidden ids ≡ unnamed addresses hidden (Ids i) → is_named addresses hidden Id ≡ true → unnamed addresses hidden ids ≡ unnamed addresses hidden (Ids (i + 1))
  lost_same ids e named = e ∙ sym (append-nil (unnamed addresses hidden (Ids i))) ∙ ap (λ (b : Bool). unnamed addresses hidden (Ids i) ++ cond (not b) (Id ∷ []) []) (sym named) ∙ sym more_ids

  -- those that are lost are below the next ones
  pub below_more : (ids : List ℕ) → Ascends segment_key ds → ((id j : ℕ) (x : SegmentFact) → Contains ids id → i ≤ j → j < length ds → id < (get_or ds j x).segment.0)
      → (id j : ℕ) (x : SegmentFact) → Contains (ids ++ Id ∷ []) id → i + 1 ≤ j → j < length ds → id < (get_or ds j x).segment.0
  below_more ids up below id j x c past within = elim (Contains-push_cases ids Id id c) [
    | inl before ↦ below id j x before (omega (arith, past)) within
    | inr same ↦
        let less = up i j x (omega (arith, past)) within in
        let it : (get_or ds i x).segment.0 ≡ Id = ap (λ (y : SegmentFact). y.segment.0) (get_or_default ds i x d l) in
        omega (arith, less, it, same)
  ]

  pub ascend_more : (ids : List ℕ) → AllPairs (λ a b. a < b) ids → ((id j : ℕ) (x : SegmentFact) → Contains ids id → i ≤ j → j < length ds → id < (get_or ds j x).segment.0)
      → AllPairs (λ a b. a < b) (ids ++ Id ∷ [])
  ascend_more ids up below = all_pairs_push (λ a b. a < b) ids Id up (λ k x m. below (get_or ids k x) i d (Contains-get_or ids k x m) (omega arith) l)

-- ---- what is found for them

-- a sector stands in one segment
one_segment : (t : Target) (x y : ℕ) → stands_in x t ≡ true → stands_in y t ≡ true → x ≡ y
one_segment (Stored at) x y e f = sym (eqb-true at.segment.0 x e) ∙ eqb-true at.segment.0 y f
one_segment Zero x y e f = cc

module _ (addresses : List AddressFact) (hidden : ℕ → Bool) (f : AddressFact) (ids : List ℕ) (up : AllPairs (λ a b. a < b) ids) where
  same_place : (i p : ℕ) → i < length ids → p < length ids → get_or ids i 0 ≡ get_or ids p 0 → i ≡ p
  same_place i p l m e = elim (cases_lt i p) [
    | inl under ↦ (let less = up i p 0 under m in absurd (omega (arith, less, e)))
    | inr over ↦ elim (cases_lt p i) [
      | inl under ↦ (let less = up p i 0 under l in absurd (omega (arith, less, e)))
      | inr low ↦ omega (arith, over, low)
    ]
  ]

  other_place : (i p : ℕ) → i < length ids → p < length ids → stands_in (get_or ids p 0) f.target ≡ true → i ≢ p → stands_in (get_or ids i 0) f.target ≡ false
  other_place i p l m e ne = elim (cases_Bool (stands_in (get_or ids i 0) f.target)) [
    | inl it ↦ absurd (ne (same_place i p l m (one_segment f.target (get_or ids i 0) (get_or ids p 0) it e)))
    | inr none ↦ none
  ]

  -- nothing, where the fact's sector stands in another segment
  pub found_none : (i : ℕ) (b : Bool) → stands_in (get_or ids i 0) f.target ≡ false → b ≡ (b || names addresses hidden (get_or ids i 0) f)
  unfolding names
  found_none i b e = rw e (sym (or-false b))

  -- no more, where there is an address already
  pub found_before : (found : List (Option Witness)) (p : ℕ) → p < length ids → stands_in (get_or ids p 0) f.target ≡ true → is_some (get_or found p None) ≡ true
      → (i : ℕ) → i < length ids → is_some (get_or found i None) ≡ (is_some (get_or found i None) || names addresses hidden (get_or ids i 0) f)
  found_before found p m e there i l = elim (cases_eq i p) [
    | inl same ↦ (let is : is_some (get_or found i None) ≡ true = ap (λ n. is_some (get_or found n None)) same ∙ there in rw is refl)
    | inr ne ↦ found_none i (is_some (get_or found i None)) (other_place i p l m e ne)
  ]

  -- and else the fact's address, if that still names the segment
  pub found_now : (found : List (Option Witness)) (p : ℕ) (w : Option Witness) → p < length ids → p < length found → stands_in (get_or ids p 0) f.target ≡ true → is_some (get_or found p None) ≡ false
      → is_some w ≡ names_at addresses hidden (get_or ids p 0) f.medium.0 f.sector
      → (i : ℕ) → i < length ids → is_some (get_or (set found p w) i None) ≡ (is_some (get_or found i None) || names addresses hidden (get_or ids i 0) f)
  unfolding names
  found_now found p w m n e none is i l = elim (cases_eq i p) [
    | inl same ↦ rw (same, get_or-set_same found p w None n, none, e) is
    | inr ne ↦ rw (get_or-set_other found p i w None ne) (found_none i (is_some (get_or found i None)) (other_place i p l m e ne))
  ]

-- ---- facts that don't point to the segment

not_there : (segment : ℕ) (t : Target) → pointed_of t ≢ Some segment → stands_in segment t ≡ false
not_there segment (Stored at) other = ne_eqb at.segment.0 segment (λ e. other (ap Some e))
not_there segment Zero other = refl

-- they don't name it
pub none_named : (addresses : List AddressFact) (hidden : ℕ → Bool) (segment : ℕ) (facts : List AddressFact) → ((f : AddressFact) → Contains facts f → pointed_of f.target ≢ Some segment)
    → list_any (names addresses hidden segment) facts ≡ false
unfolding names
none_named addresses hidden segment facts other = list_any_none (names addresses hidden segment) facts (all_contained (λ f. names addresses hidden segment f ≡ false) facts (λ f c. rw (not_there segment f.target (other f c)) refl))

-- so what is found stays
pub still_found : (b : Bool) (addresses : List AddressFact) (hidden : ℕ → Bool) (segment : ℕ) (facts : List AddressFact) → ((f : AddressFact) → Contains facts f → pointed_of f.target ≢ Some segment)
    → b ≡ (b || list_any (names addresses hidden segment) facts)
still_found b addresses hidden segment facts other = rw (none_named addresses hidden segment facts other) (sym (or-false b))
