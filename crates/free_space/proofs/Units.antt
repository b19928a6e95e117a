-- What a map says once units are made used, and which units may be.
use Rattle.free_space.proofs.Prelude.{ℕ, zero, suc, Bool, true, false, not, eqb, leb, ltb, ◌&&◌, ◌||◌, ◌≡◌, ◌≢◌, ◌<◌, ◌≤◌, ◌+◌, ◌-◌, ⊎_elim, List, [], ◌∷◌, length, get_or, replicate, AllPairs, Contains, refl, sym, ap, ◌∙◌, subst, arith, eqb-true, eq-eqb, lt-ltb, le-ltb, leb-false, length-append, AllByRecursion, list_any, flat_map, cases_lt, cases_Bool, and_parts, get_or_past, length-replicate, get_or-replicate, Place, AscendFrom, is_place, AreApart, Drive, fresh, is_free, with_unit, with_units, IsPlace, IsMapWith, unit_at, is_data_unit, used_or_among, CanMark, SetsMembers}
use Rattle.boot_codec.specs.Record as record_of
use Rattle.unit_map.proofs.MapLemmas.{length-with_unit, is_free-with_unit_same, is_free-with_unit_other, member-with_units, size-with_units}
use Rattle.free_space.proofs.Loops.{can_join}

-- ---- lists

pub here : {X : Type 0} (x : X) (xs : List X) → Contains (x ∷ xs) x
here x xs = (0, omega arith, refl)

pub there : {X : Type 0} (x y : X) (xs : List X) → Contains xs x → Contains (y ∷ xs) x
there x y xs c = (suc c.0, let lt = c.1 in omega (arith, lt), c.2)

pub all_in : {X : Type 0} (P : X → Type 0) (xs : List X) → AllByRecursion P xs → (x : X) → Contains xs x → P x
all_in P [] h x (k, lt, is) = absurd (omega (arith, lt))
all_in P (y ∷ ys) h x (zero, lt, is) = subst P is h.0
all_in P (y ∷ ys) h x (suc k, lt, is) = all_in P ys h.1 x (k, omega (arith, lt), is)

pub pairs_head : {X : Type 0} (R : X → X → Type 0) (x : X) (xs : List X) → AllPairs R (x ∷ xs) → (y : X) → Contains xs y → R x y
pairs_head R x xs h y c = subst (λ z. R x z) c.2 (h 0 (suc c.0) y (omega arith) (let l = c.1 in omega (arith, l)))

pub pairs_tail : {X : Type 0} (R : X → X → Type 0) (x : X) (xs : List X) → AllPairs R (x ∷ xs) → AllPairs R xs
pairs_tail R x xs h i j d l m = h (suc i) (suc j) d (omega (arith, l)) (omega (arith, m))

-- ---- one place

is_place_true : (slot unit : ℕ) (p : Place) → is_place slot unit p ≡ true → unit_at slot unit ≡ p
is_place_true slot unit p e =
    let parts = and_parts (eqb p.slot slot) (eqb p.unit unit) e in
    let s : p.slot ≡ slot = eqb-true p.slot slot parts.0 in
    let u : p.unit ≡ unit = eqb-true p.unit unit parts.1 in
    ap (λ (n : ℕ). unit_at n unit) (sym s) ∙ ap (λ (n : ℕ). unit_at p.slot n) (sym u)

is_place_self : (p : Place) → is_place p.slot p.unit p ≡ true
is_place_self p = rw (eq-eqb p.slot p.slot refl) (rw (eq-eqb p.unit p.unit refl) refl)

is_place_false : (slot unit : ℕ) (p : Place) → unit_at slot unit ≢ p → is_place slot unit p ≡ false
is_place_false slot unit p apart =
    ⊎_elim
    (λ (is : is_place slot unit p ≡ true). absurd (apart (is_place_true slot unit p is)))
    (λ (not_is : is_place slot unit p ≡ false). not_is)
    (cases_Bool (is_place slot unit p))

-- ---- one unit made used

and_not_or : (kept used there : Bool) → there ≡ false → (kept && not used) ≡ (kept && not (used || there))
and_not_or false used there e = refl
and_not_or true true there e = refl
and_not_or true false there e = rw e refl

and_not_true : (kept used there : Bool) → there ≡ true → false ≡ (kept && not (used || there))
and_not_true false used there e = refl
and_not_true true true there e = refl
and_not_true true false there e = rw e refl

in_map : (slots units : ℕ) (member : ℕ → Bool) (used : ℕ → ℕ → Bool) (drives : List Drive) (p : Place) → IsMapWith slots units member used drives → record_of.IsPlace slots units p → IsPlace drives p
in_map slots units member used drives p h is = record {
  slot = omega (arith, h.drive_of_each_slot, is.slot);
  boot = is.data_unit;
  unit = omega (arith, h.sizes p.slot is.slot, is.unit);
}

pub marked_one : (slots units : ℕ) (member : ℕ → Bool) (used : ℕ → ℕ → Bool) (drives : List Drive) (p : Place) → IsMapWith slots units member used drives → record_of.IsPlace slots units p
    → IsMapWith slots units member (λ slot unit. used slot unit || is_place slot unit p) (with_unit false drives p)
marked_one slots units member used drives p h is = record {
  drive_of_each_slot = length-with_unit false drives p ∙ h.drive_of_each_slot;
  members = λ slot lt. member-with_units false drives (p ∷ []) slot ∙ h.members slot lt;
  sizes = λ slot lt. size-with_units false drives (p ∷ []) slot ∙ h.sizes slot lt;
  free = λ slot unit lt.
      ⊎_elim
      (λ (same : is_place slot unit p ≡ true).
      ap (is_free (with_unit false drives p)) (is_place_true slot unit p same)
      ∙ is_free-with_unit_same false drives p (in_map slots units member used drives p h is)
      ∙ and_not_true (is_data_unit units unit) (used slot unit) (is_place slot unit p) same)
      (λ (other : is_place slot unit p ≡ false).
      is_free-with_unit_other false drives p (unit_at slot unit) (λ e. not_both slot unit p e other)
      ∙ h.free slot unit lt
      ∙ and_not_or (is_data_unit units unit) (used slot unit) (is_place slot unit p) other)
      (cases_Bool (is_place slot unit p));
}
  where
    not_both : (slot unit : ℕ) (p : Place) → unit_at slot unit ≡ p → is_place slot unit p ≡ false → ⊥
    not_both slot unit p e other = let is_there : is_place slot unit p ≡ true = subst (λ q. is_place slot unit q ≡ true) e (is_place_self (unit_at slot unit)) in absurd (cc (is_there, other))

-- the same units may be said otherwise
pub same_used : (slots units : ℕ) (member : ℕ → Bool) (used used2 : ℕ → ℕ → Bool) (drives : List Drive) → ((slot unit : ℕ) → used slot unit ≡ used2 slot unit)
    → IsMapWith slots units member used drives → IsMapWith slots units member used2 drives
same_used slots units member used used2 drives e h = record {
  drive_of_each_slot = h.drive_of_each_slot;
  members = h.members;
  sizes = h.sizes;
  free = λ slot unit lt. h.free slot unit lt ∙ ap (λ b. is_data_unit units unit && not b) (e slot unit);
}

pub or_assoc3 : (a b c : Bool) → ((a || b) || c) ≡ (a || (b || c))
or_assoc3 true b c = refl
or_assoc3 false b c = refl

or_none : (a : Bool) → a ≡ (a || false)
or_none true = refl
or_none false = refl

-- units made used
pub marked_all : (slots units : ℕ) (member : ℕ → Bool) (used : ℕ → ℕ → Bool) (drives : List Drive) (ps : List Place) → IsMapWith slots units member used drives → AllByRecursion (record_of.IsPlace slots units) ps
    → IsMapWith slots units member (used_or_among used ps) (with_units false drives ps)
marked_all slots units member used drives [] h all = same_used slots units member used (used_or_among used []) drives (λ slot unit. or_none (used slot unit)) h
marked_all slots units member used drives (p ∷ ps) h all =
    same_used slots units member (used_or_among (λ slot unit. used slot unit || is_place slot unit p) ps) (used_or_among used (p ∷ ps)) (with_units false drives (p ∷ ps))
    (λ slot unit. or_assoc3 (used slot unit) (is_place slot unit p) (list_any (is_place slot unit) ps))
    (marked_all slots units member (λ slot unit. used slot unit || is_place slot unit p) (with_unit false drives p) ps (marked_one slots units member used drives p h all.0) all.1)

-- ---- which units may be made used

pub ascending_places : (slots units least : ℕ) (ps : List Place) → AscendFrom slots units least ps → AllByRecursion (record_of.IsPlace slots units) ps
ascending_places slots units least [] h = tt
ascending_places slots units least (p ∷ ps) h = (h.1, ascending_places slots units (p.slot + 1) ps h.2)

above : (slots units least : ℕ) (ps : List Place) → AscendFrom slots units least ps → (q : Place) → Contains ps q → least ≤ q.slot
above slots units least [] h q (k, lt, is) = absurd (omega (arith, lt))
above slots units least (p ∷ ps) h q (zero, lt, is) = subst (λ (r : Place). least ≤ r.slot) is h.0
above slots units least (p ∷ ps) h q (suc k, lt, is) = omega (arith, h.0, above slots units (p.slot + 1) ps h.2 q (k, omega (arith, lt), is))

pub data_unit_true : (units unit : ℕ) → 3 ≤ unit → unit < units → is_data_unit units unit ≡ true
data_unit_true units unit low high = rw (le-leb3 unit low) (lt-ltb unit units high)
  where
    le-leb3 : (unit : ℕ) → 3 ≤ unit → leb 3 unit ≡ true
    le-leb3 unit low = ⊎_elim (λ (e : leb 3 unit ≡ true). e) (λ (e : leb 3 unit ≡ false). absurd (omega (arith, low, leb-false 3 unit e))) (cases_Bool (leb 3 unit))

is_free_there : (slots units : ℕ) (member : ℕ → Bool) (used : ℕ → ℕ → Bool) (drives : List Drive) (p : Place) → IsMapWith slots units member used drives → record_of.IsPlace slots units p → used p.slot p.unit ≡ false → is_free drives p ≡ true
is_free_there slots units member used drives p h is unused =
    let is_there : (is_data_unit units p.unit && not (used p.slot p.unit)) ≡ true = rw (data_unit_true units p.unit is.data_unit is.unit, unused) refl in
    h.free p.slot p.unit is.slot ∙ is_there

or_false : (a b : Bool) → a ≡ false → b ≡ false → (a || b) ≡ false
or_false a b e f = rw e f

-- nine units of a segment
pub can_places : (slots units least : ℕ) (member : ℕ → Bool) (used : ℕ → ℕ → Bool) (drives : List Drive) (ps : List Place) → IsMapWith slots units member used drives → AscendFrom slots units least ps
    → ((p : Place) → Contains ps p → used p.slot p.unit ≡ false) → CanMark drives ps
can_places slots units least member used drives [] h up unused = tt
can_places slots units least member used drives (p ∷ ps) h up unused = (
  in_map slots units member used drives p h up.1,
  is_free_there slots units member used drives p h up.1 (unused p (here p ps)),
  can_places slots units (p.slot + 1) member (λ slot unit. used slot unit || is_place slot unit p) (with_unit false drives p) ps (marked_one slots units member used drives p h up.1) up.2
      (λ q c. or_false (used q.slot q.unit) (is_place q.slot q.unit p) (unused q (there q p ps c))
      (is_place_false q.slot q.unit p (λ e. absurd (let le = above slots units (p.slot + 1) ps up.2 q c in let same : q.slot ≡ p.slot = ap (λ (r : Place). r.slot) e in omega (arith, le, same))))),
)

apart_from : (ps qs : List Place) (q : Place) → AreApart ps qs → Contains qs q → list_any (is_place q.slot q.unit) ps ≡ false
apart_from [] qs q h c = refl
apart_from (p ∷ ps) qs q h c =
    or_false (is_place q.slot q.unit p) (list_any (is_place q.slot q.unit) ps)
    (is_place_false q.slot q.unit p (λ e. all_in (λ r. p ≢ r) qs h.0 q c (sym e)))
    (apart_from ps qs q h.1 c)

-- the units of all segments
abbrev pub units_in : List (List Place) → List Place
units_in pss = flat_map (λ ps. ps) pss

-- segments that lie apart
pub can_segments : (slots units : ℕ) (member : ℕ → Bool) (used : ℕ → ℕ → Bool) (drives : List Drive) (pss : List (List Place)) → IsMapWith slots units member used drives
    → AllByRecursion (AscendFrom slots units 0) pss → AllPairs AreApart pss → ((ps : List Place) → Contains pss ps → (p : Place) → Contains ps p → used p.slot p.unit ≡ false) → CanMark drives (units_in pss)
can_segments slots units member used drives [] h up apart unused = tt
can_segments slots units member used drives (ps ∷ pss) h up apart unused =
    can_join drives ps (units_in pss)
    (can_places slots units 0 member used drives ps h up.0 (unused ps (here ps pss)))
    (can_segments slots units member (used_or_among used ps) (with_units false drives ps) pss (marked_all slots units member used drives ps h (ascending_places slots units 0 ps up.0)) up.1
    (pairs_tail AreApart ps pss apart)
    (λ qs c q d. or_false (used q.slot q.unit) (list_any (is_place q.slot q.unit) ps) (unused qs (there qs ps pss c) q d) (apart_from ps qs q (pairs_head AreApart ps pss apart qs c) d)))

-- ---- the map to begin with

get_or_trues : (n k : ℕ) → get_or (replicate n true) k false ≡ ltb k n
get_or_trues n k =
    ⊎_elim
    (λ (lt : k < n). get_or-replicate n k true false lt ∙ sym (lt-ltb k n lt))
    (λ (ge : n ≤ k). get_or_past (replicate n true) k false (omega (arith, length-replicate n true, ge)) ∙ sym (le-ltb k n ge))
    (cases_lt k n)

ltb_more : (k units : ℕ) → ltb k (units - 3) ≡ ltb (suc (suc (suc k))) units
ltb_more k units =
    ⊎_elim
    (λ (lt : k < units - 3). lt-ltb k (units - 3) lt ∙ sym (lt-ltb (suc (suc (suc k))) units (omega (arith, lt))))
    (λ (ge : units - 3 ≤ k). le-ltb k (units - 3) ge ∙ sym (le-ltb (suc (suc (suc k))) units (omega (arith, ge))))
    (cases_lt k (units - 3))

and_none : (a : Bool) → a ≡ (a && true)
and_none true = refl
and_none false = refl

fresh_is : (units unit : ℕ) → get_or (fresh units) unit false ≡ (is_data_unit units unit && not false)
fresh_is units zero = refl
fresh_is units (suc zero) = refl
fresh_is units (suc (suc zero)) = refl
fresh_is units (suc (suc (suc k))) =
    let whole : is_data_unit units (suc (suc (suc k))) ≡ ltb (suc (suc (suc k))) units = rw (leb3 k) refl in
    get_or_trues (units - 3) k ∙ ltb_more k units ∙ sym whole ∙ and_none (is_data_unit units (suc (suc (suc k))))
  where
    leb3 : (k : ℕ) → leb 3 (suc (suc (suc k))) ≡ true
    leb3 k = ⊎_elim (λ (e : leb 3 (suc (suc (suc k))) ≡ true). e) (λ (e : leb 3 (suc (suc (suc k))) ≡ false). absurd (omega (arith, leb-false 3 (suc (suc (suc k))) e))) (cases_Bool (leb 3 (suc (suc (suc k)))))

-- a drive whose data units are all free
abbrev pub all_fresh : ℕ → Drive
all_fresh units = record { member = true; free = fresh units }

pub fresh_map : (slots units : ℕ) → 3 ≤ units → IsMapWith slots units (λ slot. true) (λ slot unit. false) (replicate slots (all_fresh units))
fresh_map slots units low = record {
  drive_of_each_slot = length-replicate slots (all_fresh units);
  members = λ slot lt. ap (λ (d : Drive). d.member) (get_or-replicate slots slot (all_fresh units) (record { member = false; free = [] }) lt);
  sizes = λ slot lt. ap (λ (d : Drive). length d.free) (get_or-replicate slots slot (all_fresh units) (record { member = false; free = [] }) lt)
      ∙ length-append (replicate 3 false) (replicate (units - 3) true) ∙ omega (arith, low, length-replicate 3 false, length-replicate (units - 3) true);
  free = λ slot unit lt. ap (λ (d : Drive). get_or d.free unit false) (get_or-replicate slots slot (all_fresh units) (record { member = false; free = [] }) lt) ∙ fresh_is units unit;
}

pub members_set : (slots units : ℕ) (member : ℕ → Bool) (used : ℕ → ℕ → Bool) (old new : List Drive) (flags : List Bool) → IsMapWith slots units member used old → SetsMembers old new flags
    → IsMapWith slots units (λ slot. get_or flags slot false) used new
members_set slots units member used old new flags h is = record {
  drive_of_each_slot = is.size ∙ h.drive_of_each_slot;
  members = λ slot lt. ap (λ (d : Drive). d.member) (is.each slot (omega (arith, lt, h.drive_of_each_slot)));
  sizes = λ slot lt. ap (λ (d : Drive). length d.free) (is.each slot (omega (arith, lt, h.drive_of_each_slot))) ∙ h.sizes slot lt;
  free = λ slot unit lt. ap (λ (d : Drive). get_or d.free unit false) (is.each slot (omega (arith, lt, h.drive_of_each_slot))) ∙ h.free slot unit lt;
}
