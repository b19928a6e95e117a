-- The loops that take the units of segments from what drives have free.
use Rattle.free_space.proofs.Prelude.{ℕ, Bool, false, cond, eqb, ◌≡◌, ◌≢◌, ◌<◌, ◌≤◌, ◌+◌, ◌-◌, ⊎_elim, List, [], ◌∷◌, ◌++◌, length, get_or, set, drop, refl, sym, ap, ◌∙◌, subst, arith, get_or-set_same, get_or-set_other, eq-eqb, ne_eqb, flat_map, cases_eq, cases_lt, at_drop_all, get_or_past, sum_by-cons, sum_by-append, Place, is_on, units_on, HasUnits, LosesUnits}
use Rattle.free_space.proofs.Loops.{next, one}

-- ---- units on a drive

pub units_on-append : (slot : ℕ) (ps qs : List Place) → units_on slot (ps ++ qs) ≡ units_on slot ps + units_on slot qs
units_on-append slot ps qs = sum_by-append (λ (p : Place). cond (is_on slot p) 1 0) ps qs

pub units_on-cons : (slot : ℕ) (p : Place) (ps : List Place) → units_on slot (p ∷ ps) ≡ cond (eqb p.slot slot) 1 0 + units_on slot ps
units_on-cons slot p ps = sum_by-cons (λ (q : Place). cond (is_on slot q) 1 0) p ps

pub units_on-here : (p : Place) → units_on p.slot (p ∷ []) ≡ 1
units_on-here p = units_on-cons p.slot p [] ∙ ap (λ (b : Bool). cond b 1 0 + 0) (eq-eqb p.slot p.slot refl)

pub units_on-elsewhere : (slot : ℕ) (p : Place) → p.slot ≢ slot → units_on slot (p ∷ []) ≡ 0
units_on-elsewhere slot p apart = units_on-cons slot p [] ∙ ap (λ (b : Bool). cond b 1 0 + 0) (ne_eqb p.slot slot apart)

-- ---- several takings

-- what was given has all units, and has lost those that aren't left
pub record IsTaking (old now : List ℕ) (all rest : List Place) : Type 0 where
  pub enough : HasUnits old all
  pub so_far : (slot : ℕ) → get_or now slot 0 + units_on slot all ≡ get_or old slot 0 + units_on slot rest

pub taking_none : (old : List ℕ) (all : List Place) → HasUnits old all → IsTaking old old all all
taking_none old all h = record { enough = h; so_far = λ slot. refl }

pub taking_rest : (old now : List ℕ) (all rest : List Place) → IsTaking old now all rest → HasUnits now rest
taking_rest old now all rest h = λ slot. omega (arith, h.enough slot, h.so_far slot)

pub taking_can : (old now : List ℕ) (all ps rest : List Place) → IsTaking old now all (ps ++ rest) → HasUnits now ps
taking_can old now all ps rest h = λ slot. omega (arith, taking_rest old now all (ps ++ rest) h slot, units_on-append slot ps rest)

pub taking_more : (old now new : List ℕ) (all ps rest : List Place) → IsTaking old now all (ps ++ rest) → LosesUnits now new ps → IsTaking old new all rest
taking_more old now new all ps rest h loses = record {
  enough = h.enough;
  so_far = λ slot. omega (arith, h.so_far slot, loses slot, units_on-append slot ps rest);
}

pub taking_all : (old now : List ℕ) (all : List Place) → IsTaking old now all [] → LosesUnits old now all
taking_all old now all h = λ slot. omega (arith, h.so_far slot)

-- ---- segment by segment

pub next_has : {X : Type 0} (f : X → List Place) (xs : List X) (i : ℕ) (x d : X) (old now : List ℕ) (all : List Place) → i < length xs → get_or xs i d ≡ x
    → IsTaking old now all (flat_map f (drop i xs)) → HasUnits now (f x)
next_has f xs i x d old now all lt is h = taking_can old now all (f x) (flat_map f (drop (i + 1) xs)) (subst (IsTaking old now all) (next f xs i x d lt is) h)

pub next_taken : {X : Type 0} (f : X → List Place) (xs : List X) (i : ℕ) (x d : X) (old now new : List ℕ) (all : List Place) → i < length xs → get_or xs i d ≡ x
    → IsTaking old now all (flat_map f (drop i xs)) → LosesUnits now new (f x) → IsTaking old new all (flat_map f (drop (i + 1) xs))
next_taken f xs i x d old now new all lt is h loses =
    taking_more old now new all (f x) (flat_map f (drop (i + 1) xs)) (subst (IsTaking old now all) (next f xs i x d lt is) h) loses

pub all_taken : {X : Type 0} (f : X → List Place) (xs : List X) (i : ℕ) (old now : List ℕ) (all : List Place) → length xs ≤ i → IsTaking old now all (flat_map f (drop i xs)) → LosesUnits old now all
all_taken f xs i old now all le h = taking_all old now all (subst (IsTaking old now all) (at_drop_all (λ ys. flat_map f ys) xs i le) h)

-- ---- place by place

-- a drive that has a unit is there
pub unit_there : (free : List ℕ) (p : Place) → HasUnits free (p ∷ []) → (p.slot < length free) × (1 ≤ get_or free p.slot 0)
unit_there free p h =
    let some : 1 ≤ get_or free p.slot 0 = omega (arith, h p.slot, units_on-here p) in
    ⊎_elim
    (λ (lt : p.slot < length free). (lt, some))
    (λ (ge : length free ≤ p.slot). absurd (omega (arith, some, get_or_past free p.slot 0 ge)))
    (cases_lt p.slot (length free))

pub unit_taken : (free new : List ℕ) (p : Place) → HasUnits free (p ∷ []) → new ≡ set free p.slot (get_or free p.slot 0 - 1) → LosesUnits free new (p ∷ [])
unit_taken free new p h e =
    let at = unit_there free p h in
    subst (λ (xs : List ℕ). LosesUnits free xs (p ∷ [])) (sym e) (λ slot.
    ⊎_elim
    (λ (same : p.slot ≡ slot).
    subst (λ (s : ℕ). get_or (set free p.slot (get_or free p.slot 0 - 1)) s 0 + units_on s (p ∷ []) ≡ get_or free s 0) same
    (omega (arith, get_or-set_same free p.slot (get_or free p.slot 0 - 1) 0 at.0, units_on-here p, at.1)))
    (λ (other : p.slot ≢ slot).
    omega (arith, get_or-set_other free p.slot slot (get_or free p.slot 0 - 1) 0 (λ e. other (sym e)), units_on-elsewhere slot p other))
    (cases_eq p.slot slot))

pub one_has : (ps : List Place) (i : ℕ) (p d : Place) (old now : List ℕ) (all : List Place) → i < length ps → get_or ps i d ≡ p → IsTaking old now all (drop i ps) → HasUnits now (p ∷ [])
one_has ps i p d old now all lt is h = taking_can old now all (p ∷ []) (drop (i + 1) ps) (subst (IsTaking old now all) (one ps i p d lt is) h)

pub one_taken : (ps : List Place) (i : ℕ) (p d : Place) (old now new : List ℕ) (all : List Place) → i < length ps → get_or ps i d ≡ p → IsTaking old now all (drop i ps)
    → new ≡ set now p.slot (get_or now p.slot 0 - 1) → IsTaking old new all (drop (i + 1) ps)
one_taken ps i p d old now new all lt is h e =
    taking_more old now new all (p ∷ []) (drop (i + 1) ps) (subst (IsTaking old now all) (one ps i p d lt is) h) (unit_taken now new p (one_has ps i p d old now all lt is h) e)

-- ---- members

-- the drives of the slots below one count where they are members
pub record CountsUpTo (old now : List ℕ) (flags : List Bool) (slot : ℕ) : Type 0 where
  pub size : length now ≡ length old
  pub done : (k : ℕ) → k < slot → get_or now k 0 ≡ cond (get_or flags k false) (get_or old k 0) 0
  pub rest : (k : ℕ) → slot ≤ k → get_or now k 0 ≡ get_or old k 0
