-- Facts of keys in a row.
use Rattle.pyramid.proofs.Prelude.{◌≡◌, ℕ, zero, suc, ◌+◌, ◌-◌, ◌<◌, ◌≤◌, Bool, true, false, List, [], ◌∷◌, ◌++◌, length, get_or, take, drop, refl, sym, ap, ◌∙◌, arith, inl, inr, Contains, Option, Some, None, IfSome, if◌then◌else◌, nat_lt, ◌==◌, eqb-true, eq-eqb, cases_lt, get_or_default, get_or-drop, get_or-take, length-drop, length-take-le, has_key, newer, Ascends, facts_of, newest_of, AreBelow, Rises, Contains-append_left, below_at, first_hit, newest_found}
use Rattle.std.proofs.lemmas.Option.{none-some, slice_get-get_or, slice_get_cases}
use Rattle.std.specs.Prelude.{slice_get}
use Rattle.pyramid.specs.Runs.{IsNewestRun, NoneHasRun}
use Rattle.pyramid.proofs.SpanLemmas.{only_one, patch_there}
use Rattle.pyramid.proofs.WalkLemmas.{newer_over, none_of}

module _ {F : Type 0} (key number : F → ℕ) where
  -- no fact has one of the keys, where those behind the ones in front of them are past them all
  pub none_between : (fs : List F) (from len s : ℕ) → ((i : ℕ) (d : F) → i < s → key (get_or fs i d) < from)
      → ((j : ℕ) (d : F) → s ≤ j → j < length fs → from + len ≤ key (get_or fs j d)) → (i : ℕ) → i < len → newest_of key number (from + i) fs ≡ None
  none_between fs from len s below past i l = none_of key number (from + i) fs (λ j d m e. elim (cases_lt j s) [
    | inl before ↦ (let b = below j d before in omega (arith, b, e))
    | inr behind ↦ (let p = past j d behind m in omega (arith, p, e, l))
  ])

  plus_zero : (i : ℕ) → i + 0 ≡ i
  plus_zero i = omega arith

  -- keys that ascend do so by one at least
  steps : (fs : List F) (i n : ℕ) (d : F) → Ascends key fs → i + n < length fs → key (get_or fs i d) + n ≤ key (get_or fs (i + n) d)
  steps fs i zero d up l = let e = ap (λ (p : ℕ). key (get_or fs p d)) (plus_zero i) in omega (arith, e)
  steps fs i (suc n) d up l =
      let before = steps fs i n d up (omega (arith, l)) in
      let next = up (i + n) (i + suc n) d (omega arith) l in
      omega (arith, before, next)

  steps_to : (fs : List F) (i j : ℕ) (d : F) → Ascends key fs → i ≤ j → j < length fs → key (get_or fs i d) + (j - i) ≤ key (get_or fs j d)
  steps_to fs i j d up le l =
      let at : i + (j - i) ≡ j = omega (arith, le) in
      rw at at (steps fs i (j - i) d up (omega (arith, at, l)))

  newer_some : (x : F) (o : Option F) → newer number x o ≡ None → ⊥
  newer_some x None e = cc
  newer_some x (Some g) e = one (nat_lt (number x) (number g)) e
    where
      one : (b : Bool) → (if b then Some g else Some x) ≡ None → ⊥
      one true e = cc
      one false e = cc

  -- a key that a fact has, has a newest one
  pub some_newest : (k : ℕ) (fs : List F) (f : F) → Contains fs f → key f ≡ k → newest_of key number k fs ≡ None → ⊥
  some_newest k [] f c e n = omega (arith, c.1)
  some_newest k (x ∷ xs) f (zero, l, is) e n =
      let passes : (key x == k) ≡ true = eq-eqb _ _ (ap key is ∙ e) in
      newer_some x (newest_of key number k xs) (rw passes at n)
  some_newest k (x ∷ xs) f (suc i, l, is) e n = one (key x == k) (some_newest k xs f (i, omega (arith, l), is) e) n
    where
      one : (b : Bool) → (newest_of key number k xs ≡ None → ⊥) → (if b then newer number x (newest_of key number k xs) else newest_of key number k xs) ≡ None → ⊥
      one true h n = newer_some x (newest_of key number k xs) n
      one false h n = h n

  -- the newest fact of a key is there, and has it
  there : (k : ℕ) (fs : List F) (f : F) → newest_of key number k fs ≡ Some f → Contains fs f × (key f ≡ k)
  there k fs f e = one (newest_of key number k fs) (newest_found number (has_key key k) fs) e
    where
      one : (o : Option F) → IfSome o (λ g. Contains fs g × (has_key key k g ≡ true)) → o ≡ Some f → Contains fs f × (key f ≡ k)
      one None h e = cc
      one (Some g) h e = let same : g ≡ f = cc in let found : Contains fs g × (key g ≡ k) = (h.0, eqb-true (key g) k h.1) in rw same at found

  -- the run has a newest fact of each key
  pub each_has : (fs : List F) (from len : ℕ) (run : List F) → IsNewestRun key number fs from len run → (i : ℕ) → i < len → (f : F) × (slice_get run i ≡ Some f) × (newest_of key number (from + i) fs ≡ Some f)
  each_has fs from len run h i l = elim (slice_get_cases run i).1 [
    | inl at ↦ (at.0, at.2, h.newest i l ∙ at.2)
    | inr past ↦ absurd (omega (arith, l, h.long, past.0))
  ]

  module _ (fs : List F) (from s : ℕ) (up : Ascends key fs) (below : (i : ℕ) (d : F) → i < s → key (get_or fs i d) < from) (above : (i : ℕ) (d : F) → s ≤ i → i < length fs → from ≤ key (get_or fs i d)) where
    -- a fact of a key stands so many behind the first as its key is
    stands_at : (i : ℕ) (f : F) → Contains fs f → key f ≡ from + i → (0 < i → (s + (i - 1) < length fs) × ((d : F) → key (get_or fs (s + (i - 1)) d) ≡ from + (i - 1))) → (s + i < length fs) × ((d : F) → key (get_or fs (s + i) d) ≡ from + i)
    stands_at i f c e before =
        let same : key (get_or fs c.0 f) ≡ key f = ap key c.2 in
        let here : c.0 ≡ s + i = elim (cases_lt c.0 s) [
          | inl front ↦ (let b = below c.0 f front in absurd (omega (arith, b, same, e)))
          | inr behind ↦
              let first = above s f (omega arith) (omega (arith, behind, c.1)) in
              let far = steps_to fs s c.0 f up behind c.1 in
              elim (cases_lt c.0 (s + i)) [
                | inl short ↦
                    let b = before (omega (arith, short, behind)) in
                    let last = b.1 f in
                    let step = steps_to fs c.0 (s + (i - 1)) f up (omega (arith, short, behind)) b.0 in
                    absurd (omega (arith, step, last, same, e, short, behind))
                | inr long ↦ omega (arith, long, far, first, same, e, behind)
              ]
        ] in
        (omega (arith, here, c.1), (λ d. ap (λ (p : ℕ). key (get_or fs p d)) (sym here) ∙ ap key (get_or_default fs c.0 d f c.1 ∙ c.2) ∙ e))

    -- where each key has a fact, these stand one behind another
    pub stand_together : (len : ℕ) (run : List F) → IsNewestRun key number fs from len run → (i : ℕ) → i < len → (s + i < length fs) × ((d : F) → key (get_or fs (s + i) d) ≡ from + i)
    stand_together len run h zero l =
        let has = each_has fs from len run h 0 l in
        let at = there (from + 0) fs has.0 has.2 in
        stands_at 0 has.0 at.0 at.1 (λ some. absurd (omega (arith, some)))
    stand_together len run h (suc i) l =
        let has = each_has fs from len run h (suc i) l in
        let at = there (from + suc i) fs has.0 has.2 in
        let before = stand_together len run h i (omega (arith, l)) in
        let back : suc i - 1 ≡ i = omega arith in
        stands_at (suc i) has.0 at.0 at.1 (λ some. rw back before)

    module _ (len e : ℕ) (last : F) (some : 0 < len) (end : e ≡ s + len) (fits : s + len ≤ length fs) (is : last ≡ get_or (take (e - s) (drop s fs)) (len - 1) last) where
      slice_at : (i : ℕ) → i < len → get_or (take (e - s) (drop s fs)) i last ≡ get_or fs (s + i) last
      slice_at i l = get_or-take (e - s) (drop s fs) i last (omega (arith, end, l)) ∙ get_or-drop s fs i last

      pub last_at : last ≡ get_or fs (s + (len - 1)) last
      last_at = is ∙ slice_at (len - 1) (omega (arith, some))

      -- as many facts as there are keys, of which the last has the last key, are those of the keys
      pub whole_run : key last - from ≡ len - 1 → IsNewestRun key number fs from len (take (e - s) (drop s fs))
      whole_run k = record {
        long = long;
        newest = λ i l.
            let f = get_or fs (s + i) last in
            let within : s + i < length fs = omega (arith, fits, l) in
            let final : key last ≡ key (get_or fs (s + (len - 1)) last) = ap key last_at in
            let first = above s last (omega arith) (omega (arith, fits, some)) in
            let front = steps_to fs s (s + i) last up (omega arith) within in
            let rest = steps_to fs (s + i) (s + (len - 1)) last up (omega (arith, l)) (omega (arith, fits, some)) in
            let same : key f ≡ from + i = omega (arith, final, first, front, rest, l, k) in
            let found = only_one key number fs f up (s + i, within, get_or_default fs (s + i) f last within) in
            let read : slice_get (take (e - s) (drop s fs)) i ≡ Some f = slice_get-get_or (take (e - s) (drop s fs)) i last (omega (arith, l, long)) ∙ ap (λ (g : F). Some g) (slice_at i l) in
            rw same at found ∙ sym read;
      }
        where
          long : length (take (e - s) (drop s fs)) ≡ len
          long = length-take-le (e - s) (drop s fs) (omega (arith, end, fits, length-drop s fs)) ∙ omega (arith, end)

  -- no patch has a fact of two of them
  same_patch : (ps : List (List F)) (i j : ℕ) (p q : List F) (f : F) → Rises number ps [] → i < length ps → p ≡ get_or ps i p → j < length ps → q ≡ get_or ps j q → Contains p f → Contains q f → p ≡ q
  same_patch [] i j p q f h l is m at c d = absurd (omega (arith, l))
  same_patch (x ∷ ps) zero zero p q f h l is m at c d = is ∙ sym at
  same_patch (x ∷ ps) zero (suc j) p q f h l is m at c d =
      let less = below_at number x (facts_of ps ++ []) f f h.0 (rw is at c) (Contains-append_left (facts_of ps) [] f (patch_there key number ps j q f (omega (arith, m)) at d)) in
      absurd (omega (arith, less))
  same_patch (x ∷ ps) (suc i) zero p q f h l is m at c d =
      let less = below_at number x (facts_of ps ++ []) f f h.0 (rw at at d) (Contains-append_left (facts_of ps) [] f (patch_there key number ps i p f (omega (arith, l)) is c)) in
      absurd (omega (arith, less))
  same_patch (x ∷ ps) (suc i) (suc j) p q f h l is m at c d = same_patch ps i j p q f h.1 (omega (arith, l)) is (omega (arith, m)) at c d

  module _ (ps : List (List F)) (from len left : ℕ) (q : List F) (rises : Rises number ps []) (within : left < length ps) (is : q ≡ get_or ps left q)
      (none : (i : ℕ) → i < len → newest_of key number (from + i) (facts_of (drop (suc left) ps)) ≡ None) where
    -- what the newest patch with one of the keys has of each is the newest of all
    pub run_of_all : (run : List F) → IsNewestRun key number q from len run → IsNewestRun key number (facts_of ps) from len run
    run_of_all run h = record {
      long = h.long;
      newest = λ i l.
          let has = each_has q from len run h i l in
          first_hit key number (from + i) ps [] left q has.0 rises within is (none i l) has.2 ∙ sym has.1;
    }

    -- where it hasn't all of them, none has
    pub none_of_all : (f : F) → Contains q f → from ≤ key f → key f < from + len → ((run : List F) → IsNewestRun key number q from len run → ⊥) → NoneHasRun key number ps (facts_of ps) from len
    none_of_all f c low high not p run d here all =
        let i = key f - from in
        let l : i < len = omega (arith, low, high) in
        let at : key f ≡ from + i = omega (arith, low) in
        let has = each_has p from len run here i l in
        let g = has.0 in
        let found = there (from + i) p g has.2 in
        let top = newest_there (newest_of key number (from + i) q) i l g refl (some_newest (from + i) q f c at) (all.newest i l ∙ has.1) in
        let same : p ≡ q = same_patch ps d.0 left p q g rises d.1 (sym d.2 ∙ get_or_default ps d.0 p p d.1) within is found.0 top in
        not run (rw same at here)
      where
        newest_there : (o : Option F) (i : ℕ) → i < len → (g : F) → newest_of key number (from + i) q ≡ o → (newest_of key number (from + i) q ≡ None → ⊥) → newest_of key number (from + i) (facts_of ps) ≡ Some g → Contains q g
        newest_there None i l g e some all = absurd (some e)
        newest_there (Some x) i l g e some all =
            let hit = first_hit key number (from + i) ps [] left q x rises within is (none i l) e in
            let same : x ≡ g = cc in
            rw same at (there (from + i) q x e).0

  -- keys of which nothing is said have no run
  pub none_said : (ps : List (List F)) (fs : List F) (from len : ℕ) → 0 < len → ((i : ℕ) → i < len → newest_of key number (from + i) fs ≡ None) → NoneHasRun key number ps fs from len
  none_said ps fs from len some none p run d here all =
      let has = each_has fs from len run all 0 some in
      none-some has.0 (sym (none 0 some) ∙ has.2)

  module _ (ps : List (List F)) (us : List F) (from len : ℕ) (below : AreBelow number (facts_of ps) us) where
    -- the unflushed facts have none of the keys
    module _ (none : (i : ℕ) → i < len → newest_of key number (from + i) us ≡ None) where
      same_newest : (i : ℕ) → i < len → newest_of key number (from + i) (facts_of ps ++ us) ≡ newest_of key number (from + i) (facts_of ps)
      same_newest i l = newer_over key number (from + i) (facts_of ps) us below ∙ rw (none i l) refl

      pub run_under : (run : List F) → IsNewestRun key number (facts_of ps) from len run → IsNewestRun key number (facts_of ps ++ us) from len run
      run_under run h = record { long = h.long; newest = λ i l. same_newest i l ∙ h.newest i l }

      pub none_under : NoneHasRun key number ps (facts_of ps) from len → NoneHasRun key number ps (facts_of ps ++ us) from len
      none_under h p run d here all = h p run d here (record { long = all.long; newest = λ i l. sym (same_newest i l) ∙ all.newest i l })

    -- they have one of them
    pub none_over : (f : F) → Contains us f → from ≤ key f → key f < from + len → NoneHasRun key number ps (facts_of ps ++ us) from len
    none_over f c low high p run d here all =
        let i = key f - from in
        let l : i < len = omega (arith, low, high) in
        let at : key f ≡ from + i = omega (arith, low) in
        let has = each_has p from len run here i l in
        let found = there (from + i) p has.0 has.2 in
        let top = newest_there (newest_of key number (from + i) us) i has.0 refl (some_newest (from + i) us f c at) (all.newest i l ∙ has.1) in
        let less = below_at number (facts_of ps) us has.0 has.0 below (patch_there key number ps d.0 p has.0 d.1 (sym d.2 ∙ get_or_default ps d.0 p p d.1) found.0) top in
        omega (arith, less)
      where
        newest_there : (o : Option F) (i : ℕ) (g : F) → newest_of key number (from + i) us ≡ o → (newest_of key number (from + i) us ≡ None → ⊥) → newest_of key number (from + i) (facts_of ps ++ us) ≡ Some g → Contains us g
        newest_there None i g e some all = absurd (some e)
        newest_there (Some x) i g e some all =
            let hit : newest_of key number (from + i) (facts_of ps ++ us) ≡ Some x = newer_over key number (from + i) (facts_of ps) us below ∙ rw e refl in
            let same : x ≡ g = cc in
            rw same at (there (from + i) us x e).0
