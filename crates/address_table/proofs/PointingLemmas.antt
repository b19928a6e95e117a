-- The visible facts that point to a segment.
use Rattle.address_table.proofs.Prelude.{◌≡◌, ◌≢◌, ◌↔◌, ℕ, Bool, true, false, List, ◌++◌, get_or, refl, sym, ap, ◌∙◌, arith, Contains, Option, Some, None, IfSome, IsTrue, AllPairs, filter, ◌&&◌, ◌==◌, if◌then◌else◌, eqb-true, eq-eqb, option_map_or, Contains-get_or, AddressFact, address_key, never, id_of, says, has_key, facts_of, newest_of, IsLayered, filtered, of_filter, newest_found, passes_filter, number, stands_in, is_current, is_pointing, IsVisible}
use Rattle.std.proofs.lemmas.List.Kept.{AllPairs-filter}
use Rattle.pyramid.proofs.DistinctLemmas.{Differ, differ_layers, differ_same}
use Rattle.address_table.proofs.AddressLemmas.{visible_newest}

-- what is visible is one of the facts, of that key
pub visible_is : (facts : List AddressFact) (elided : ℕ → Bool) (k : ℕ) (g : AddressFact) → says address_key number never facts elided k ≡ Some g → Contains facts g × (address_key g ≡ k)
visible_is facts elided k g e = one (elided (id_of k)) (newest_of address_key number k facts) (newest_found number (has_key address_key k) facts) (sym (visible_newest facts elided k) ∙ e)
  where
    one : (b : Bool) (o : Option AddressFact) → IfSome o (λ f. Contains facts f × (has_key address_key k f ≡ true)) → (if b then None else o) ≡ Some g → Contains facts g × (address_key g ≡ k)
    one true o h e = cc
    one false None h e = cc
    one false (Some f) h e = let same : f ≡ g = cc in (rw same at h.0, rw same at (eqb-true (address_key f) k h.1))

-- a fact with the number of what is visible at its key is visible
current_visible : (facts : List AddressFact) (elided : ℕ → Bool) (f : AddressFact) → AllPairs (Differ address_key number) facts → Contains facts f → is_current facts elided f ≡ true → IsVisible facts elided f
current_visible facts elided f apart c e = one (says address_key number never facts elided (address_key f)) refl e
  where
    one : (o : Option AddressFact) → says address_key number never facts elided (address_key f) ≡ o → option_map_or (λ g. number g == number f) o false ≡ true → o ≡ Some f
    one None is e = cc
    one (Some g) is e =
        let h = visible_is facts elided (address_key f) g is in
        let same : g ≡ f = differ_same address_key number facts apart g f h.0 c h.1 (eqb-true (number g) (number f) e) in
        ap (λ x. Some x) same

visible_current : (facts : List AddressFact) (elided : ℕ → Bool) (f : AddressFact) → IsVisible facts elided f → is_current facts elided f ≡ true
visible_current facts elided f h =
    let here : (number f == number f) ≡ true = eq-eqb (number f) (number f) refl in
    rw h here

both : (a b : Bool) → (a && b) ≡ true → (a ≡ true) × (b ≡ true)
both true true e = (refl, refl)
both true false e = cc
both false b e = cc

-- the facts that are found
pub pointing : (ps : List (List AddressFact)) (us : List AddressFact) (elided : ℕ → Bool) (segment : ℕ) → IsLayered address_key number ps us
    → (f : AddressFact) → Contains (filter (is_pointing (facts_of ps ++ us) elided segment) (facts_of ps ++ us)) f ↔ (IsVisible (facts_of ps ++ us) elided f × IsTrue (stands_in segment f.target))
pointing ps us elided segment h f = (forth, back)
  where
    facts : List AddressFact
    facts = facts_of ps ++ us

    forth : Contains (filter (is_pointing (facts_of ps ++ us) elided segment) (facts_of ps ++ us)) f → IsVisible (facts_of ps ++ us) elided f × IsTrue (stands_in segment f.target)
    forth c =
        let p = both (stands_in segment f.target) (is_current (facts_of ps ++ us) elided f) (passes_filter (is_pointing (facts_of ps ++ us) elided segment) (facts_of ps ++ us) f c) in (
          current_visible (facts_of ps ++ us) elided f (differ_layers address_key number ps us h.ascend h.ordered h.rises) (of_filter (is_pointing (facts_of ps ++ us) elided segment) (facts_of ps ++ us) f c) p.1,
          p.0,
        )

    back : IsVisible (facts_of ps ++ us) elided f × IsTrue (stands_in segment f.target) → Contains (filter (is_pointing (facts_of ps ++ us) elided segment) (facts_of ps ++ us)) f
    back v =
        let there = (visible_is (facts_of ps ++ us) elided (address_key f) f v.0).0 in
        let first : stands_in segment f.target ≡ true = v.1 in
        let second : is_current (facts_of ps ++ us) elided f ≡ true = visible_current (facts_of ps ++ us) elided f v.0 in
        let all : is_pointing (facts_of ps ++ us) elided segment f ≡ true = rw (first, second) refl in
        filtered (is_pointing (facts_of ps ++ us) elided segment) (facts_of ps ++ us) f there all

-- each of them once
pub pointing_once : (ps : List (List AddressFact)) (us : List AddressFact) (elided : ℕ → Bool) (segment : ℕ) → IsLayered address_key number ps us
    → AllPairs (λ f g. address_key f ≢ address_key g) (filter (is_pointing (facts_of ps ++ us) elided segment) (facts_of ps ++ us))
pointing_once ps us elided segment h i j d l m e =
    let apart = AllPairs-filter (Differ address_key number) (is_pointing (facts_of ps ++ us) elided segment) (facts_of ps ++ us) (differ_layers address_key number ps us h.ascend h.ordered h.rises) in
    let found = filter (is_pointing (facts_of ps ++ us) elided segment) (facts_of ps ++ us) in
    let one = ((pointing ps us elided segment h (get_or found i d)).0 (Contains-get_or found i d (omega (arith, l, m)))).0 in
    let two = ((pointing ps us elided segment h (get_or found j d)).0 (Contains-get_or found j d m)).0 in
    let same : Some (get_or found i d) ≡ Some (get_or found j d) = sym one ∙ ap (λ k. says address_key number never (facts_of ps ++ us) elided k) e ∙ two in
    let equal : get_or found i d ≡ get_or found j d = cc in
    apart i j d l m e (ap number equal)
