-- The newest facts of keys in a row.
use Rattle.pyramid.proofs.Prelude.{nat_tests, ◌≡◌, ℕ, zero, suc, ◌+◌, ◌<◌, ◌≤◌, true, false, List, [], ◌∷◌, ◌++◌, length, get_or, take, drop, refl, sym, ap, ◌∙◌, arith, inl, inr, Contains, set, Option, Some, None, IfSome, ◌==◌, eqb-true, eq-eqb, ne_eqb, lt-ltb, take-append-drop, get_or-take, length-take-le, get_or-drop, length-drop, get_or-set_same, get_or-set_other, is_some, option_or, false≢true, cases_eq, take_more, get_or_default, has_key, Ascends, facts_of, newest_of, IsOrdered, AreBelow, Rises, later, newest-append, newest_none, newest_found, later_none, later_below, below-left}
use Rattle.std.proofs.lemmas.Option.{none-some}
use Rattle.pyramid.proofs.SearchLemmas.{rises}

pub option_or-assoc : {F : Type 0} (a b c : Option F) → option_or a (option_or b c) ≡ option_or (option_or a b) c
option_or-assoc None b c = refl
option_or-assoc (Some x) b c = refl

pub option_or-none : {F : Type 0} (a b : Option F) → b ≡ None → option_or a b ≡ a
option_or-none None b e = e
option_or-none (Some x) b e = refl

-- what isn't there, by its test
pub by_none : {F : Type 0} (o : Option F) → is_some o ≡ false → o ≡ None
by_none None e = refl
by_none (Some x) e = absurd (false≢true (sym e))

-- what is there, by its test
pub by_some : {F : Type 0} (o : Option F) → is_some o ≡ true → o ≡ None → ⊥
by_some None e n = absurd (false≢true e)
by_some (Some x) e n = absurd (none-some x (sym n))

module _ {F : Type 0} (key number : F → ℕ) where
  -- no fact has the key
  pub none_of : (k : ℕ) (fs : List F) → ((i : ℕ) (d : F) → i < length fs → key (get_or fs i d) ≡ k → ⊥) → newest_of key number k fs ≡ None
  none_of k fs h = newest_none number (has_key key k) fs (λ i d l. ne_eqb _ _ (h i d l))

  -- facts behind, of which none has the key
  none_behind : (k : ℕ) (fs gs : List F) → newest_of key number k gs ≡ None → newest_of key number k (fs ++ gs) ≡ newest_of key number k fs
  none_behind k fs gs e = newest-append number (has_key key k) fs gs ∙ rw e (later_none number (newest_of key number k fs))

  -- one more fact, of another key
  pub more_other : (k : ℕ) (fs : List F) (i : ℕ) (x : F) → i < length fs → x ≡ get_or fs i x → (key x ≡ k → ⊥) → newest_of key number k (take (i + 1) fs) ≡ newest_of key number k (take i fs)
  more_other k fs i x l is ne =
      let more : take (i + 1) fs ≡ take i fs ++ x ∷ [] = take_more fs i x l ∙ ap (λ y. take i fs ++ y ∷ []) (sym is) in
      let apart : (key x == k) ≡ false = ne_eqb _ _ ne in
      let alone : newest_of key number k (x ∷ []) ≡ None = rw apart refl in
      ap (newest_of key number k) more ∙ none_behind k (take i fs) (x ∷ []) alone

  -- one more fact of that key, in order
  pub more_same : (k : ℕ) (fs : List F) (i : ℕ) (x : F) → IsOrdered key number fs → i < length fs → x ≡ get_or fs i x → key x ≡ k → newest_of key number k (take (i + 1) fs) ≡ Some x
  more_same k fs i x ordered l is e =
      let more : take (i + 1) fs ≡ take i fs ++ x ∷ [] = take_more fs i x l ∙ ap (λ y. take i fs ++ y ∷ []) (sym is) in
      let passes : (key x == k) ≡ true = eq-eqb _ _ e in
      let alone : newest_of key number k (x ∷ []) ≡ Some x = rw passes refl in
      ap (newest_of key number k) more ∙ newest-append number (has_key key k) (take i fs) (x ∷ []) ∙ rw alone (one (newest_of key number k (take i fs)) (newest_found number (has_key key k) (take i fs)))
    where
      one : (o : Option F) → IfSome o (λ f. Contains (take i fs) f × (has_key key k f ≡ true)) → later number o (Some x) ≡ Some x
      one None h = refl
      one (Some f) h =
          let c = h.0 in
          let short : length (take i fs) ≡ i = length-take-le i fs (omega (arith, l)) in
          let j : c.0 < i = omega (arith, c.1, short) in
          let at : get_or fs c.0 f ≡ f = sym (get_or-take i fs c.0 f j) ∙ c.2 in
          let here : get_or fs i f ≡ x = get_or_default fs i f x l ∙ sym is in
          let kf : key f ≡ k = eqb-true _ _ h.1 in
          let less : number f < number x = elim (ordered c.0 i f j l) [
            | inl b ↦ (let kb : key f < key x = rw (at, here) at b in absurd (omega (arith, kb, kf, e)))
            | inr b ↦ (let nb : number f < number x = rw (at, here) at b.1 in nb)
          ] in
          rw (lt-ltb (number f) (number x) less) refl

  -- the facts from a place on have greater keys
  pub rest_above : (k : ℕ) (fs : List F) (i : ℕ) → i ≤ length fs → ((j : ℕ) (d : F) → i ≤ j → j < length fs → k < key (get_or fs j d)) → newest_of key number k fs ≡ newest_of key number k (take i fs)
  rest_above k fs i le above =
      ap (newest_of key number k) (sym (take-append-drop i fs)) ∙ none_behind k (take i fs) (drop i fs) (none_of k (drop i fs) (λ j d l e.
      let at : get_or (drop i fs) j d ≡ get_or fs (i + j) d = get_or-drop i fs j d in
      let up : k < key (get_or fs (i + j) d) = above (i + j) d (omega arith) (omega (arith, l, length-drop i fs)) in
      let same : key (get_or fs (i + j) d) ≡ k = rw at at e in
      omega (arith, up, same)))

  -- newer facts take the place of older ones
  pub newer_over : (k : ℕ) (fs gs : List F) → AreBelow number fs gs → newest_of key number k (fs ++ gs) ≡ option_or (newest_of key number k gs) (newest_of key number k fs)
  newer_over k fs gs below = newest-append number (has_key key k) fs gs ∙ one (newest_of key number k gs) refl
    where
      one : (o : Option F) → newest_of key number k gs ≡ o → later number (newest_of key number k fs) o ≡ option_or o (newest_of key number k fs)
      one None e = later_none number (newest_of key number k fs)
      one (Some g) e = rw e at (later_below key number k fs gs g below e)

  -- the facts in front of those of a key
  pub none_in_front : (k from s : ℕ) (fs : List F) → s ≤ length fs → from ≤ k → ((i : ℕ) (d : F) → i < s → key (get_or fs i d) < from) → newest_of key number k (take s fs) ≡ None
  none_in_front k from s fs le up below = grind (arith, nat_tests, none_of, length-take-le, get_or-take)

  -- a fact of a greater key, and so all behind it
  pub all_past : (k : ℕ) (fs : List F) (i : ℕ) (x : F) → IsOrdered key number fs → i < length fs → x ≡ get_or fs i x → k < key x → newest_of key number k fs ≡ newest_of key number k (take i fs)
  all_past k fs i x ordered l is less = rest_above k fs i (omega (arith, l)) (λ j d le m.
      let up : key (get_or fs i x) ≤ key (get_or fs j d) = rises key number fs i j x (get_or fs j d) ordered le m (get_or_default fs j d (get_or fs j d) m) in
      let here : key x ≡ key (get_or fs i x) = ap key is in
      omega (arith, up, here, less))

  -- a fact put in its place
  pub put_one : (fs : List F) (from at p : ℕ) (x : F) (out old : List (Option F)) → IsOrdered key number fs → at < length fs → x ≡ get_or fs at x → p < length out → key x ≡ from + p
      → ((i : ℕ) → i < length out → get_or out i None ≡ option_or (newest_of key number (from + i) (take at fs)) (get_or old i None))
      → (i : ℕ) → i < length out → get_or (set out p (Some x)) i None ≡ option_or (newest_of key number (from + i) (take (at + 1) fs)) (get_or old i None)
  put_one fs from at p x out old ordered l is fits here so_far i m = elim (cases_eq i p) [
    | inl same ↦
        let hit : newest_of key number (from + i) (take (at + 1) fs) ≡ Some x = more_same (from + i) fs at x ordered l is (here ∙ ap (λ j. from + j) (sym same)) in
        let there : get_or (set out p (Some x)) i None ≡ Some x = ap (λ j. get_or (set out p (Some x)) j None) same ∙ get_or-set_same out p (Some x) None fits in
        there ∙ rw hit refl
    | inr other ↦
        let miss : newest_of key number (from + i) (take (at + 1) fs) ≡ newest_of key number (from + i) (take at fs) = more_other (from + i) fs at x l is (λ e. other (omega (arith, e, here))) in
        get_or-set_other out p i (Some x) None other ∙ so_far i m ∙ rw miss refl
  ]

  -- a key of which nothing stands in front, where facts ascend
  pub none_before : (k : ℕ) (fs : List F) (at : ℕ) (x : F) → Ascends key fs → at < length fs → x ≡ get_or fs at x → key x ≡ k → newest_of key number k (take at fs) ≡ None
  none_before k fs at x ascends l is e = none_of k (take at fs) (λ j d m same.
      let short : length (take at fs) ≡ at = length-take-le at fs (omega (arith, l)) in
      let less : j < at = omega (arith, m, short) in
      let there : get_or (take at fs) j d ≡ get_or fs j d = get_or-take at fs j d less in
      let here : get_or fs at d ≡ x = get_or_default fs at d x l ∙ sym is in
      let up : key (get_or fs j d) < key (get_or fs at d) = ascends j at d less l in
      let kj : key (get_or fs j d) ≡ k = rw there at same in
      let kx : key (get_or fs at d) ≡ k = ap key here ∙ e in
      omega (arith, up, kj, kx))

  -- what is filled stays
  pub filled_stays : (o m : Option F) → (o ≡ None → ⊥) → option_or o m ≡ o
  filled_stays None m ne = absurd (ne refl)
  filled_stays (Some x) m ne = refl

  -- a fact put where nothing stood
  pub put_absent : (fs : List F) (from at p : ℕ) (x : F) (out old : List (Option F)) → Ascends key fs → IsOrdered key number fs → at < length fs → x ≡ get_or fs at x → p < length out → key x ≡ from + p → get_or out p None ≡ None
      → ((i : ℕ) → i < length out → get_or out i None ≡ option_or (get_or old i None) (newest_of key number (from + i) (take at fs)))
      → (i : ℕ) → i < length out → get_or (set out p (Some x)) i None ≡ option_or (get_or old i None) (newest_of key number (from + i) (take (at + 1) fs))
  put_absent fs from at p x out old ascends ordered l is fits here none so_far i m = grind (arith, nat_tests, more_same, set, get_or-set_same, none_before, option_or-none, more_other, get_or-set_other)

  -- a fact left out where something stands
  pub put_present : (fs : List F) (from at p : ℕ) (x : F) (out old : List (Option F)) → Ascends key fs → at < length fs → x ≡ get_or fs at x → p < length out → key x ≡ from + p → (get_or out p None ≡ None → ⊥)
      → ((i : ℕ) → i < length out → get_or out i None ≡ option_or (get_or old i None) (newest_of key number (from + i) (take at fs)))
      → (i : ℕ) → i < length out → get_or out i None ≡ option_or (get_or old i None) (newest_of key number (from + i) (take (at + 1) fs))
  put_present fs from at p x out old ascends l is fits here some so_far i m = elim (cases_eq i p) [
    | inl same ↦
        let before : newest_of key number (from + p) (take at fs) ≡ None = none_before (from + p) fs at x ascends l is here in
        let there : get_or out p None ≡ get_or old p None = so_far p fits ∙ option_or-none (get_or old p None) (newest_of key number (from + p) (take at fs)) before in
        rw same (there ∙ sym (filled_stays (get_or old p None) (newest_of key number (from + p) (take (at + 1) fs)) (λ e. some (there ∙ e))))
    | inr other ↦
        let miss : newest_of key number (from + i) (take (at + 1) fs) ≡ newest_of key number (from + i) (take at fs) = more_other (from + i) fs at x l is (λ e. other (omega (arith, e, here))) in
        so_far i m ∙ rw miss refl
  ]

  -- the newest in a patch and those behind it
  pub newest_from_patch : (k : ℕ) (ps : List (List F)) (us : List F) (i : ℕ) (p : List F) → Rises number ps us → i < length ps → p ≡ get_or ps i p
      → newest_of key number k (facts_of (drop i ps)) ≡ option_or (newest_of key number k (facts_of (drop (suc i) ps))) (newest_of key number k p)
  newest_from_patch k [] us i p h l is = absurd (omega (arith, l))
  newest_from_patch k (q ∷ ps) us zero p h l is = newer_over k q (facts_of ps) (below-left number q (facts_of ps) us h.0) ∙ rw (← is) refl
  newest_from_patch k (q ∷ ps) us (suc i) p h l is = newest_from_patch k ps us i p h.1 (omega (arith, l)) is

  -- a patch more, under what stands there
  pub under_more : (k : ℕ) (ps : List (List F)) (us : List F) (i : ℕ) (p : List F) (old now new : Option F) → Rises number ps us → i < length ps → p ≡ get_or ps i p
      → now ≡ option_or old (newest_of key number k (facts_of (drop (suc i) ps))) → new ≡ option_or now (newest_of key number k p)
      → new ≡ option_or old (newest_of key number k (facts_of (drop i ps)))
  under_more k ps us i p old now new h l is e f = grind (arith, nat_tests, option_or-assoc, newest_from_patch)

  -- what is filled by the newest patches stays, whatever the older ones say
  pub under_filled : (k : ℕ) (ps : List (List F)) (us : List F) (i : ℕ) (old now : Option F) → Rises number ps us → (now ≡ None → ⊥)
      → now ≡ option_or old (newest_of key number k (facts_of (drop i ps))) → now ≡ option_or old (newest_of key number k (facts_of ps))
  under_filled k ps us zero old now h some e = e
  under_filled k [] us (suc i) old now h some e = e
  under_filled k (q ∷ ps) us (suc i) old now h some e =
      let inner : now ≡ option_or old (newest_of key number k (facts_of ps)) = under_filled k ps us i old now h.1 some e in
      let more : newest_of key number k (q ++ facts_of ps) ≡ option_or (newest_of key number k (facts_of ps)) (newest_of key number k q) = newer_over k q (facts_of ps) (below-left number q (facts_of ps) us h.0) in
      sym (filled_stays now (newest_of key number k q) some) ∙ ap (λ o. option_or o (newest_of key number k q)) inner
      ∙ sym (option_or-assoc old (newest_of key number k (facts_of ps)) (newest_of key number k q)) ∙ ap (λ o. option_or old o) (sym more)

  -- first nothing, then the unflushed facts, then the others
  pub under_all : (k : ℕ) (fs us : List F) (a b c : Option F) → AreBelow number fs us → a ≡ None → b ≡ option_or (newest_of key number k us) a → c ≡ option_or b (newest_of key number k fs)
      → c ≡ newest_of key number k (fs ++ us)
  under_all k fs us a b c below e f h = grind (arith, nat_tests, option_or-none, newer_over)
