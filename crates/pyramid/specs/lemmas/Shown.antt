-- What a table shows after facts are put in, elided or moved between layers.
use Rattle.std.proofs.lemmas.Bool.Decides.{nat_tests}
use Rattle.std.proofs.Common.{◌≡◌, ◌≢◌, ◌⊎◌, ℕ, zero, suc, ◌+◌, ◌<◌, ◌≤◌, ◌==◌, Bool, true, false, not, filter, map, cond, List, [], ◌∷◌, ◌++◌, refl, sym, ap, subst, ◌∙◌, arith, inl, inr, All, Contains}
use Rattle.std.specs.List.{filter_map, range_with_len}
use Rattle.std.specs.Prelude.{Option, Some, None, IfSome, if◌then◌else◌, option_and_then, ◌↔◌}
use Rattle.std.proofs.lemmas.Bool.{cases_eq, le-ltb, eq-eqb, ne_eqb, eqb-true, false≢true}
use Rattle.std.proofs.lemmas.List.Elements.{All-contains, Contains-append_left, Contains-append_right, Contains-append_cases}
use Rattle.pur_base.specs.Prelude.{newer, has_key, says, unless_empty, Ascends, id_of}
use Rattle.pyramid.specs.Layers.{AreBelow, AreDistinct, facts_of, newest_of}
use Rattle.pyramid.specs.Shown.{IsShown}
use Rattle.pyramid.specs.lemmas.Sets.{same_newest}
use Rattle.pyramid.specs.lemmas.Newest.{newest_found}
use Rattle.pyramid.specs.lemmas.Layers.{all_contained, all_below}
use Rattle.pyramid.specs.lemmas.Merges.{ascends-cons, ascends-nil, ascends-head, ascends-tail, ascends_filter}
use Rattle.pyramid.specs.lemmas.Contains.{here, there, either, nowhere, filtered, of_filter}

-- what stands in a mapped list
pub contains_map : {X : Type 0} (h : X → X) (xs : List X) (y : X) → Contains (map h xs) y → (x : X) × Contains xs x × (h x ≡ y)
contains_map h [] y c = absurd (nowhere y c)
contains_map h (x ∷ xs) y c = elim (either (h x) y (map h xs) c) [
  | inl same ↦ (x, here x xs, sym same)
  | inr d ↦ let r = contains_map h xs y d in (r.0, there x r.0 xs r.1, r.2)
]

pub map_contains : {X : Type 0} (h : X → X) (xs : List X) (x : X) → Contains xs x → Contains (map h xs) (h x)
map_contains h [] x c = absurd (nowhere x c)
map_contains h (y ∷ xs) x c = elim (either y x xs c) [
  | inl same ↦ rw same (here (h y) (map h xs))
  | inr d ↦ there (h y) (h x) (map h xs) (map_contains h xs x d)
]

-- what a filter keeps passes
pub passes_filter : {X : Type 0} (p : X → Bool) (xs : List X) (f : X) → Contains (filter p xs) f → p f ≡ true
passes_filter p [] f c = absurd (omega (arith, c.1))
passes_filter {X} p (x ∷ xs) f c = one (p x) refl (λ d. passes_filter p xs f d) c
  where
    one : (b : Bool) → p x ≡ b → (Contains (filter p xs) f → p f ≡ true) → Contains (cond b (x ∷ filter p xs) (filter p xs)) f → p f ≡ true
    one true e inner c = elim (either x f (filter p xs) c) [ inl same ↦ ap p same ∙ e | inr d ↦ inner d ]
    one false e inner c = inner c

module _ {F : Type 0} (key : F → ℕ) (fact : F) where
  -- the fact in the place of the one with its key
  abbrev pub put : F → F
  put f = if key f == key fact then fact else f

  pub put_key : (f : F) → key (put f) ≡ key f
  put_key f = grind (arith, nat_tests, eqb-true)

  pub put_it : (f : F) → key f ≡ key fact → put f ≡ fact
  put_it f e = rw (eq-eqb (key f) (key fact) e) refl

  pub put_other : (f : F) → key f ≢ key fact → put f ≡ f
  put_other f e = rw (ne_eqb (key f) (key fact) e) refl

module _ {F : Type 0} (key number : F → ℕ) (empty : F → Bool) where
  abbrev Says : List F → (ℕ → Bool) → ℕ → Option F
  Says facts elided k = says key number empty facts elided k

  -- what is said is said of an id that isn't elided
  pub said_whole : (facts : List F) (elided : ℕ → Bool) (k : ℕ) (f : F) → Says facts elided k ≡ Some f
      → (elided (id_of k) ≡ false) × (option_and_then (unless_empty empty) (newest_of key number k facts) ≡ Some f)
  said_whole facts elided k f h = grind (arith, nat_tests, id_of, option_and_then, unless_empty)

  pub whole_said : (facts : List F) (elided : ℕ → Bool) (k : ℕ) (f : F) → elided (id_of k) ≡ false
      → option_and_then (unless_empty empty) (newest_of key number k facts) ≡ Some f → Says facts elided k ≡ Some f
  whole_said facts elided k f e h = rw e h

  -- the facts say the same
  pub shown_same : (old new : List F) (elided : ℕ → Bool) (shown : List F) → ((k : ℕ) → Says new elided k ≡ Says old elided k)
      → IsShown key number empty old elided shown → IsShown key number empty new elided shown
  shown_same old new elided shown same h = grind (arith, nat_tests)

  -- more ids are elided: what has none of them stays
  pub shown_elided : (facts : List F) (elided wider : ℕ → Bool) (shown : List F) (keep : F → Bool)
      → ((id : ℕ) → elided id ≡ true → wider id ≡ true) → ((f : F) → Contains shown f → keep f ≡ not (wider (id_of (key f))))
      → IsShown key number empty facts elided shown → IsShown key number empty facts wider (filter keep shown)
  shown_elided facts elided wider shown keep more kept h = record {
    ascends = ascends_filter key keep shown h.ascends;
    said = λ f c.
        let is = of_filter keep shown f c in
        let passes = passes_filter keep shown f c in
        let old = said_whole facts elided (key f) f (h.said f is) in
        whole_said facts wider (key f) f (not_true (wider (id_of (key f))) (sym (kept f is) ∙ passes)) old.1;
    all = λ f l e.
        let new = said_whole facts wider (key f) f e in
        let is = h.all f l (whole_said facts elided (key f) f (not_more (id_of (key f)) (elided (id_of (key f))) refl new.0) new.1) in
        filtered keep shown f is (kept f is ∙ ap not new.0);
  }
    where
      not_true : (b : Bool) → not b ≡ true → b ≡ false
      not_true true e = absurd (false≢true e)
      not_true false e = refl

      not_more : (id : ℕ) (b : Bool) → elided id ≡ b → wider id ≡ false → elided id ≡ false
      not_more id true e w = absurd (false≢true (sym w ∙ more id e))
      not_more id false e w = e

  pub ascends_push : (fs : List F) (x : F) → All (λ f. key f < key x) fs → Ascends key fs → Ascends key (fs ++ x ∷ [])
  ascends_push [] x l h = ascends-cons key x [] (λ i d m. absurd (omega (arith, m))) (ascends-nil key)
  ascends_push (f ∷ fs) x l h = ascends-cons key f (fs ++ x ∷ []) (all_contained (λ g. key f < key g) (fs ++ x ∷ []) above)
      (ascends_push fs x (all_contained (λ g. key g < key x) fs (λ g c. All-contains (λ g. key g < key x) (f ∷ fs) g l (there f g fs c))) (ascends-tail key f fs h))
    where
      above : (g : F) → Contains (fs ++ x ∷ []) g → key f < key g
      above g c = elim (Contains-append_cases fs (x ∷ []) g c) [
        | inl a ↦ All-contains (λ g. key f < key g) fs g (ascends-head key f fs h) a
        | inr b ↦ elim (either x g [] b) [ inl s ↦ rw s (All-contains (λ g. key g < key x) (f ∷ fs) f l (here f fs)) | inr z ↦ absurd (nowhere g z) ]
      ]

  pub ascends_map : (h : F → F) → ((f : F) → key (h f) ≡ key f) → (fs : List F) → Ascends key fs → Ascends key (map h fs)
  ascends_map h same [] a = ascends-nil key
  ascends_map h same (f ∷ fs) a = ascends-cons key (h f) (map h fs) (all_contained (λ g. key (h f) < key g) (map h fs) above) (ascends_map h same fs (ascends-tail key f fs a))
    where
      above : (g : F) → Contains (map h fs) g → key (h f) < key g
      above g c =
          let from = contains_map h fs g c in
          let less = All-contains (λ y. key f < key y) fs from.0 (ascends-head key f fs a) from.1 in
          let right : key g ≡ key from.0 = ap key (sym from.2) ∙ same from.0 in
          omega (arith, less, right, same f)

  -- one more fact, newer than all others
  module _ (old new : List F) (fact : F) (taken : (f : F) → Contains new f ↔ (Contains old f ⊎ (f ≡ fact))) (newer_than : All (λ f. number f < number fact) old)
      (distinct : AreDistinct number old) where
    alike : (f : F) → Contains new f ↔ Contains (fact ∷ old) f
    alike f = (
      λ c. elim ((taken f).0 c) [ inl a ↦ there fact f old a | inr e ↦ rw e (here fact old) ],
      λ c. elim (either fact f old c) [ inl e ↦ (taken f).1 (inr e) | inr a ↦ (taken f).1 (inl a) ],
    )

    all_distinct : AreDistinct number (fact ∷ old)
    all_distinct f g a b e = elim (either fact f old a) [
      | inl s ↦ elim (either fact g old b) [
        | inl t ↦ s ∙ sym t
        | inr d ↦ let below = All-contains (λ x. number x < number fact) old g newer_than d in
            let same : number fact ≡ number g = rw s at e in absurd (omega (arith, below, same))
      ]
      | inr c ↦ elim (either fact g old b) [
        | inl t ↦ let below = All-contains (λ x. number x < number fact) old f newer_than c in
            let same : number f ≡ number fact = rw t at e in absurd (omega (arith, below, same))
        | inr d ↦ distinct f g c d e
      ]
    ]

    newest_new : (k : ℕ) → newest_of key number k new ≡ newest_of key number k (fact ∷ old)
    newest_new k = same_newest number (has_key key k) new (fact ∷ old) alike all_distinct

    -- what is said of the new fact's key
    says_it : (elided : ℕ → Bool) → elided (id_of (key fact)) ≡ false → empty fact ≡ false → Says new elided (key fact) ≡ Some fact
    says_it elided e f = rw (e, newest_new (key fact)) (two (newest_of key number (key fact) old) (newest_found number (has_key key (key fact)) old))
      where
        three : (g : F) → Contains old g → newer number fact (Some g) ≡ Some fact
        three g c = let below = All-contains (λ x. number x < number fact) old g newer_than c in rw (le-ltb (number fact) (number g) (omega (arith, below))) refl

        two : (o : Option F) → IfSome o (λ g. Contains old g × (has_key key (key fact) g ≡ true))
            → option_and_then (unless_empty empty) (if has_key key (key fact) fact then newer number fact o else o) ≡ Some fact
        two None h = rw (eq-eqb (key fact) (key fact) refl, f) refl
        two (Some g) h = rw (eq-eqb (key fact) (key fact) refl, three g h.0, f) refl

    -- what is said of the others
    says_others : (elided : ℕ → Bool) (k : ℕ) → k ≢ key fact → Says new elided k ≡ Says old elided k
    says_others elided k ne = rw (newest_new k, ne_eqb (key fact) k (λ e. ne (sym e))) refl

    says_same : (elided : ℕ → Bool) (f : F) → key f ≡ key fact → elided (id_of (key fact)) ≡ false → empty fact ≡ false → Says new elided (key f) ≡ Some f → f ≡ fact
    says_same elided f same e none h =
        let it : Says new elided (key fact) ≡ Some f = rw same at h in
        let both : Some fact ≡ Some f = sym (says_it elided e none) ∙ it in
        cc

    -- its key is above those shown
    pub shown_added : (elided : ℕ → Bool) (shown : List F) → All (λ f. key f < key fact) shown → elided (id_of (key fact)) ≡ false → empty fact ≡ false
        → IsShown key number empty old elided shown → IsShown key number empty new elided (shown ++ fact ∷ [])
    shown_added elided shown last e none h = record {
      ascends = ascends_push shown fact last h.ascends;
      said = λ f c. elim (Contains-append_cases shown (fact ∷ []) f c) [
        | inl a ↦ let less = All-contains (λ g. key g < key fact) shown f last a in says_others elided (key f) (λ s. omega (arith, less, s)) ∙ h.said f a
        | inr b ↦ elim (either fact f [] b) [ inl s ↦ subst (λ g. Says new elided (key g) ≡ Some g) (sym s) (says_it elided e none) | inr z ↦ absurd (nowhere f z) ]
      ];
      all = λ f l s. elim (cases_eq (key f) (key fact)) [
        | inl same ↦ subst (Contains (shown ++ fact ∷ [])) (sym (says_same elided f same e none s)) (Contains-append_right shown (fact ∷ []) fact (here fact []))
        | inr ne ↦ Contains-append_left shown (fact ∷ []) f (h.all f l (sym (says_others elided (key f) ne) ∙ s))
      ];
    }

    -- its key is one of those shown
    pub shown_replaced : (elided : ℕ → Bool) (shown : List F) (was : F) → Contains shown was → key was ≡ key fact → empty fact ≡ false
        → IsShown key number empty old elided shown → IsShown key number empty new elided (map (put key fact) shown)
    shown_replaced elided shown was have is none h = record {
      ascends = ascends_map (put key fact) (put_key key fact) shown h.ascends;
      said = λ f c. let from = contains_map (put key fact) shown f c in elim (cases_eq (key from.0) (key fact)) [
        | inl same ↦ subst (λ g. Says new elided (key g) ≡ Some g) (sym (put_it key fact from.0 same) ∙ from.2) (says_it elided whole none)
        | inr ne ↦ subst (λ g. Says new elided (key g) ≡ Some g) (sym (put_other key fact from.0 ne) ∙ from.2) (says_others elided (key from.0) ne ∙ h.said from.0 from.1)
      ];
      all = λ f l s. elim (cases_eq (key f) (key fact)) [
        | inl same ↦ subst (Contains (map (put key fact) shown)) (put_it key fact was is ∙ sym (says_same elided f same whole none s)) (map_contains (put key fact) shown was have)
        | inr ne ↦ subst (Contains (map (put key fact) shown)) (put_other key fact f ne) (map_contains (put key fact) shown f (h.all f l (sym (says_others elided (key f) ne) ∙ s)))
      ];
    }
      where
        whole : elided (id_of (key fact)) ≡ false
        whole = ap (λ k. elided (id_of k)) (sym is) ∙ (said_whole old elided (key was) was (h.said was have)).0

module _ {F : Type 0} (number : F → ℕ) (ps : List (List F)) (us : List F) (fact : F) (newer_than : All (λ f. number f < number fact) (facts_of ps ++ us)) where
  -- a fact that is newer than all others, as a run of one
  pub fresh_of : (f g : F) → Contains (fact ∷ []) f → Contains us g → number f ≢ number g
  fresh_of f g c d e =
      let below = All-contains (λ x. number x < number fact) (facts_of ps ++ us) g newer_than (Contains-append_right (facts_of ps) us g d) in
      elim (either fact f [] c) [ inl s ↦ let same : number f ≡ number fact = ap number s in omega (arith, below, same, e) | inr z ↦ nowhere f z ]

  pub rising_of : AreBelow number (facts_of ps) (fact ∷ [])
  rising_of = all_below number (facts_of ps) (fact ∷ []) (λ f g c d.
      let below = All-contains (λ x. number x < number fact) (facts_of ps ++ us) f newer_than (Contains-append_left (facts_of ps) us f c) in
      elim (either fact g [] d) [ inl s ↦ let same : number g ≡ number fact = ap number s in omega (arith, below, same) | inr z ↦ absurd (nowhere g z) ])

module _ {F : Type 0} (ps : List (List F)) (us new : List F) (fact : F) (taken : (f : F) → Contains new f ↔ (Contains us f ⊎ Contains (fact ∷ []) f)) where
  -- it joins the unflushed facts
  pub taken_in : (f : F) → Contains new f ↔ (Contains us f ⊎ (f ≡ fact))
  taken_in f = (
    λ c. elim ((taken f).0 c) [ inl a ↦ inl a | inr b ↦ elim (either fact f [] b) [ inl s ↦ inr s | inr z ↦ absurd (nowhere f z) ] ],
    λ d. elim d [ inl a ↦ (taken f).1 (inl a) | inr s ↦ (taken f).1 (inr (subst (Contains (fact ∷ [])) (sym s) (here fact []))) ],
  )

  -- and all facts
  pub taken_of : (f : F) → Contains (facts_of ps ++ new) f ↔ (Contains (facts_of ps ++ us) f ⊎ (f ≡ fact))
  taken_of f = (
    λ c. elim (Contains-append_cases (facts_of ps) new f c) [
      | inl a ↦ inl (Contains-append_left (facts_of ps) us f a)
      | inr b ↦ elim ((taken_in f).0 b) [ inl d ↦ inl (Contains-append_right (facts_of ps) us f d) | inr s ↦ inr s ]
    ],
    λ d. elim d [
      | inl a ↦ elim (Contains-append_cases (facts_of ps) us f a) [
        | inl b ↦ Contains-append_left (facts_of ps) new f b
        | inr b ↦ Contains-append_right (facts_of ps) new f ((taken_in f).1 (inl b))
      ]
      | inr s ↦ Contains-append_right (facts_of ps) new f ((taken_in f).1 (inr s))
    ],
  )

module _ {F : Type 0} (key number : F → ℕ) (empty : F → Bool) where
  -- what is said of a key is one of the facts, and has the key
  pub said_found : (facts : List F) (elided : ℕ → Bool) (k : ℕ) (f : F) → says key number empty facts elided k ≡ Some f → Contains facts f × (key f ≡ k)
  said_found facts elided k f h = one (newest_of key number k facts) (newest_found number (has_key key k) facts) (said_whole key number empty facts elided k f h).1
    where
      two : (g : F) (b : Bool) → Contains facts g × (has_key key k g ≡ true) → (if b then None else Some g) ≡ Some f → Contains facts f × (key f ≡ k)
      two g true c e = absurd cc
      two g false c e = let same : g ≡ f = cc in subst (λ x. Contains facts x × (key x ≡ k)) same (c.0, eqb-true (key g) k c.1)

      one : (o : Option F) → IfSome o (λ g. Contains facts g × (has_key key k g ≡ true)) → option_and_then (unless_empty empty) o ≡ Some f → Contains facts f × (key f ≡ k)
      one None c e = absurd cc
      one (Some g) c e = two g (empty g) c e

module _ {F : Type 0} (id : F → ℕ) (said : ℕ → Option F) where
  -- all of a range of ids, each of which has what is said of it
  pub record AreOfIds (first count : ℕ) (shown : List F) : Type 0 where
    pub ascends : Ascends id shown
    pub each : (x : F) → Contains shown x → (first ≤ id x) × (id x < first + count) × (said (id x) ≡ Some x)
    pub all : (i : ℕ) (x : F) → first ≤ i → i < first + count → said i ≡ Some x → Contains shown x × (id x ≡ i)

  -- are what is said of the ids one after the other
  pub listed_by_id : (count first : ℕ) (shown : List F) → AreOfIds first count shown → shown ≡ filter_map said (range_with_len first count)
  listed_by_id zero first [] h = refl
  listed_by_id zero first (x ∷ xs) h = let e = h.each x (here x xs) in absurd (omega (arith, e.0, e.1))
  listed_by_id (suc count) first shown h = one (said first) refl (listed_by_id count (first + 1))
    where
      one : (o : Option F) → said first ≡ o → ((rest : List F) → AreOfIds (first + 1) count rest → rest ≡ filter_map said (range_with_len (first + 1) count))
          → shown ≡ filter_map said (range_with_len first (suc count))
      one None e inner = rw e (inner shown (record {
        ascends = h.ascends;
        each = λ x c. let a = h.each x c in (two x c a.0 a.2, omega (arith, a.1), a.2);
        all = λ i x l m s. h.all i x (omega (arith, l)) (omega (arith, m)) s;
      }))
        where
          two : (x : F) → Contains shown x → first ≤ id x → said (id x) ≡ Some x → first + 1 ≤ id x
          two x c l s = elim (cases_eq first (id x)) [
            | inl same ↦ let none : said (id x) ≡ None = ap said (sym same) ∙ e in let both : (let n : Option F = None in n) ≡ Some x = sym none ∙ s in absurd cc
            | inr ne ↦ omega (arith, l, ne)
          ]
      one (Some x) e inner = three shown h (h.all first x (omega arith) (omega arith) e)
        where
          three : (shown : List F) → AreOfIds first (suc count) shown → Contains shown x × (id x ≡ first) → shown ≡ filter_map said (range_with_len first (suc count))
          three [] h c = absurd (nowhere x c.0)
          three (y ∷ ys) h c = rw (e, front) (ap (λ l. x ∷ l) (inner ys (record {
            ascends = ascends-tail id y ys h.ascends;
            each = λ z d.
                let a = h.each z (there y z ys d) in
                let less = All-contains (λ g. id y < id g) ys z (ascends-head id y ys h.ascends) d in
                let at : id y ≡ first = ap id front ∙ c.1 in
                (omega (arith, less, at), omega (arith, a.1), a.2);
            all = λ i z l m s.
                let a = h.all i z (omega (arith, l)) (omega (arith, m)) s in (
                  elim (either y z ys a.0) [
                    | inl same ↦ let at : id z ≡ first = ap id (same ∙ front) ∙ c.1 in absurd (omega (arith, at, a.1, l))
                    | inr d ↦ d
                  ],
                  a.1,
                );
          })))
            where
              front : y ≡ x
              front = elim (either y x ys c.0) [
                | inl same ↦ sym same
                | inr d ↦
                    let less = All-contains (λ g. id y < id g) ys x (ascends-head id y ys h.ascends) d in
                    let low = (h.each y (here y ys)).0 in
                    absurd (omega (arith, less, low, c.1))
              ]

-- no facts show nothing
pub shown_nothing : {F : Type 0} (key number : F → ℕ) (empty : F → Bool) (elided : ℕ → Bool) (shown : List F) → IsShown key number empty [] elided shown → shown ≡ []
shown_nothing key number empty elided [] h = refl
shown_nothing key number empty elided (f ∷ fs) h = absurd (nowhere f (said_found key number empty [] elided (key f) f (h.said f (here f fs))).0)
