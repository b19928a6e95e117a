-- A patch in the place of others.
use Rattle.pyramid.proofs.Prelude.{nat_tests, ◌≡◌, ℕ, zero, suc, ◌+◌, ◌<◌, Bool, true, List, [], ◌∷◌, ◌++◌, length, get_or, take, drop, refl, sym, ap, ◌∙◌, arith, inl, inr, All, Contains, ◌==◌, Option, Some, None, filter, eqb-true, append-nil, append_assoc, get_or_default, AllPairs-filter, All-append, All-contains, All-take, All-drop, All-cons, Contains-append_left, Contains-append_right, Contains-append_cases, Ascends, has_key, says, facts_of, IsBefore, patch_facts, patches_of, AreBelow, Rises, IsLayered, IsMerged, IsFlushed, IsApart, SaysTheSame, merged, stays, newest-append, of_filter, ascends-nil, all_contained, below_at, all_below, rises_below, rises_with}
use Rattle.pyramid.proofs.ReasonLemmas.{merged_is}
use Rattle.pyramid.proofs.SaysLemmas.{merge_says, wider_says, alike_says}

-- the neighbours at a place as one patch
abbrev pub replaced : {F : Type 0} → List (List F) → ℕ → Option (List F) → List (List F)
replaced ps i patch = take i ps ++ (patches_of patch ++ drop (i + 2) ps)

module _ {F : Type 0} where
  pub facts_append : (xs ys : List (List F)) → facts_of (xs ++ ys) ≡ facts_of xs ++ facts_of ys
  facts_append [] ys = refl
  facts_append (x ∷ xs) ys = ap (λ l. x ++ l) (facts_append xs ys) ∙ sym (append_assoc x (facts_of xs) (facts_of ys))

  pub facts_patches : (patch : Option (List F)) → facts_of (patches_of patch) ≡ patch_facts patch
  facts_patches None = refl
  facts_patches (Some fs) = append-nil fs

  pub all_patches : (P : List F → Type 0) (patch : Option (List F)) → P (patch_facts patch) → All P (patches_of patch)
  all_patches P None h = λ k d l. absurd (omega (arith, l))
  all_patches P (Some fs) h = All-cons P fs [] h (λ k d l. absurd (omega (arith, l)))

  -- what holds of all facts holds of them after a flush
  pub all_flushed : (P : F → Type 0) (ps : List (List F)) (us : List F) (patch : Option (List F)) → ((f : F) → Contains (patch_facts patch) f → Contains us f)
      → All P (facts_of ps ++ us) → All P (facts_of (ps ++ patches_of patch))
  all_flushed P ps us patch source h =
      rw (facts_append ps (patches_of patch), facts_patches patch) (all_contained P (facts_of ps ++ patch_facts patch) (λ f c. elim (Contains-append_cases (facts_of ps) (patch_facts patch) f c) [
        | inl a ↦ All-contains P (facts_of ps ++ us) f h (Contains-append_left (facts_of ps) us f a)
        | inr b ↦ All-contains P (facts_of ps ++ us) f h (Contains-append_right (facts_of ps) us f (source f b))
      ]))

  -- each fact of the new patch is of one of the two
  abbrev pub IsOfTwo : List (List F) → ℕ → Option (List F) → Type 0
  IsOfTwo ps i patch = (f : F) → Contains (patch_facts patch) f → Contains (get_or ps i [] ++ get_or ps (i + 1) []) f

  split : (ps : List (List F)) (i : ℕ) → suc i < length ps → ps ≡ take i ps ++ (get_or ps i [] ∷ get_or ps (suc i) [] ∷ drop (suc (suc i)) ps)
  split [] i l = absurd (omega (arith, l))
  split (x ∷ []) i l = absurd (omega (arith, l))
  split (x ∷ y ∷ ps) zero l = refl
  split (x ∷ y ∷ ps) (suc i) l = ap (λ l. x ∷ l) (split (y ∷ ps) i (omega (arith, l)))

  -- the facts with a patch in the place of two, and with the two
  pub facts_replaced : (ps : List (List F)) (i : ℕ) (patch : Option (List F)) (us : List F)
      → facts_of (take i ps ++ (patches_of patch ++ drop (suc (suc i)) ps)) ++ us ≡ facts_of (take i ps) ++ (patch_facts patch ++ (facts_of (drop (suc (suc i)) ps) ++ us))
  facts_replaced ps i patch us = grind (arith, nat_tests, facts_append, facts_patches, append_assoc)

  pub facts_split : (ps : List (List F)) (i : ℕ) (us : List F) → suc i < length ps
      → facts_of ps ++ us ≡ facts_of (take i ps) ++ ((get_or ps i [] ++ get_or ps (suc i) []) ++ (facts_of (drop (suc (suc i)) ps) ++ us))
  facts_split ps i us l = ap (λ fs. facts_of fs ++ us) (split ps i l)
      ∙ ap (λ fs. fs ++ us) (facts_append (take i ps) (get_or ps i [] ∷ get_or ps (suc i) [] ∷ drop (suc (suc i)) ps)
      ∙ ap (λ fs. facts_of (take i ps) ++ fs) (sym (append_assoc (get_or ps i []) (get_or ps (suc i) []) (facts_of (drop (suc (suc i)) ps)))))
      ∙ append_assoc (facts_of (take i ps)) ((get_or ps i [] ++ get_or ps (suc i) []) ++ facts_of (drop (suc (suc i)) ps)) us
      ∙ ap (λ fs. facts_of (take i ps) ++ fs) (append_assoc (get_or ps i [] ++ get_or ps (suc i) []) (facts_of (drop (suc (suc i)) ps)) us)

module _ {F : Type 0} (number : F → ℕ) where
  -- numbers still rise
  rises_place : (ps : List (List F)) (i : ℕ) (patch : Option (List F)) (us : List F) → suc i < length ps → Rises number ps us
      → ((f : F) → Contains (patch_facts patch) f → Contains (get_or ps i [] ++ get_or ps (suc i) []) f)
      → Rises number (take i ps ++ (patches_of patch ++ drop (suc (suc i)) ps)) us
      × ((f : F) → Contains (facts_of (take i ps ++ (patches_of patch ++ drop (suc (suc i)) ps))) f → Contains (facts_of ps) f)
  rises_place [] i patch us l h s = absurd (omega (arith, l))
  rises_place (x ∷ []) i patch us l h s = absurd (omega (arith, l))
  rises_place (x ∷ y ∷ ps) zero None us l h s = (h.1.1, (λ f c. Contains-append_right x (y ++ facts_of ps) f (Contains-append_right y (facts_of ps) f c)))
  rises_place (x ∷ y ∷ ps) zero (Some fs) us l h s = (
    (
      all_below number fs (facts_of ps ++ us) (λ f g c d. elim (Contains-append_cases x y f (s f c)) [
        | inl a ↦ below_at number x ((y ++ facts_of ps) ++ us) f g h.0 a (rw (append_assoc y (facts_of ps) us) (Contains-append_right y (facts_of ps ++ us) g d))
        | inr b ↦ below_at number y (facts_of ps ++ us) f g h.1.0 b d
      ]),
      h.1.1,
    ),
    (λ f c. elim (Contains-append_cases fs (facts_of ps) f c) [
      | inl a ↦ rw (← append_assoc x y (facts_of ps)) (Contains-append_left (x ++ y) (facts_of ps) f (s f a))
      | inr b ↦ Contains-append_right x (y ++ facts_of ps) f (Contains-append_right y (facts_of ps) f b)
    ]),
  )
  rises_place (x ∷ y ∷ ps) (suc i) patch us l h s = one (rises_place (y ∷ ps) i patch us (omega (arith, l)) h.1 s)
    where
      one : Rises number (take i (y ∷ ps) ++ (patches_of patch ++ drop (suc (suc i)) (y ∷ ps))) us
          × ((f : F) → Contains (facts_of (take i (y ∷ ps) ++ (patches_of patch ++ drop (suc (suc i)) (y ∷ ps)))) f → Contains (facts_of (y ∷ ps)) f)
          → (AreBelow number x (facts_of (take i (y ∷ ps) ++ (patches_of patch ++ drop (suc (suc i)) (y ∷ ps))) ++ us)
          × Rises number (take i (y ∷ ps) ++ (patches_of patch ++ drop (suc (suc i)) (y ∷ ps))) us)
          × ((f : F) → Contains (x ++ facts_of (take i (y ∷ ps) ++ (patches_of patch ++ drop (suc (suc i)) (y ∷ ps)))) f → Contains (x ++ facts_of (y ∷ ps)) f)
      one inner = (
        (
          all_below number x (facts_of (take i (y ∷ ps) ++ (patches_of patch ++ drop (suc (suc i)) (y ∷ ps))) ++ us)
              (λ f g c d. below_at number x (facts_of (y ∷ ps) ++ us) f g h.0 c (elim (Contains-append_cases (facts_of (take i (y ∷ ps) ++ (patches_of patch ++ drop (suc (suc i)) (y ∷ ps)))) us g d) [
                | inl a ↦ Contains-append_left (facts_of (y ∷ ps)) us g (inner.1 g a)
                | inr b ↦ Contains-append_right (facts_of (y ∷ ps)) us g b
              ])),
          inner.0,
        ),
        (λ f c. elim (Contains-append_cases x (facts_of (take i (y ∷ ps) ++ (patches_of patch ++ drop (suc (suc i)) (y ∷ ps)))) f c) [
          | inl a ↦ Contains-append_left x (facts_of (y ∷ ps)) f a
          | inr b ↦ Contains-append_right x (facts_of (y ∷ ps)) f (inner.1 f b)
        ]),
      )

  pub rises_replaced : (ps : List (List F)) (i : ℕ) (patch : Option (List F)) (us : List F) → i + 1 < length ps → Rises number ps us → IsOfTwo ps i patch → Rises number (replaced ps i patch) us
  rises_replaced ps i patch us l h s =
      let one : i + 1 ≡ suc i = omega arith in
      let two : i + 2 ≡ suc (suc i) = omega arith in
      rw two (rises_place ps i patch us (omega (arith, l)) h (rw one at s)).0

  -- the two are below all behind them
  below_two : (ps : List (List F)) (i : ℕ) (us : List F) → suc i < length ps → Rises number ps us → AreBelow number (get_or ps i [] ++ get_or ps (suc i) []) (facts_of (drop (suc (suc i)) ps) ++ us)
  below_two [] i us l h = absurd (omega (arith, l))
  below_two (x ∷ []) i us l h = absurd (omega (arith, l))
  below_two (x ∷ y ∷ ps) zero us l h = all_below number (x ++ y) (facts_of ps ++ us) (λ f g c d. elim (Contains-append_cases x y f c) [
    | inl a ↦ below_at number x ((y ++ facts_of ps) ++ us) f g h.0 a (rw (append_assoc y (facts_of ps) us) (Contains-append_right y (facts_of ps ++ us) g d))
    | inr b ↦ below_at number y (facts_of ps ++ us) f g h.1.0 b d
  ])
  below_two (x ∷ y ∷ ps) (suc i) us l h = below_two (y ∷ ps) i us (omega (arith, l)) h.1

  -- a patch behind all others
  pub rises_flushed : (ps : List (List F)) (us : List F) (patch : Option (List F)) → Rises number ps us → ((f : F) → Contains (patch_facts patch) f → Contains us f) → Rises number (ps ++ patches_of patch) []
  rises_flushed [] us None h s = tt
  rises_flushed [] us (Some fs) h s = (λ i d l j e m. absurd (omega (arith, m)), tt)
  rises_flushed (p ∷ ps) us patch h s = (
    all_below number p (facts_of (ps ++ patches_of patch) ++ []) (λ f g c d. below_at number p (facts_of ps ++ us) f g h.0 c (move g (rw (append-nil (facts_of (ps ++ patches_of patch))) at d))),
    rises_flushed ps us patch h.1 s,
  )
    where
      move : (g : F) → Contains (facts_of (ps ++ patches_of patch)) g → Contains (facts_of ps ++ us) g
      move g d = elim (Contains-append_cases (facts_of ps) (patch_facts patch) g (rw (facts_append ps (patches_of patch), facts_patches patch) at d)) [
        | inl a ↦ Contains-append_left (facts_of ps) us g a
        | inr b ↦ Contains-append_right (facts_of ps) us g (s g b)
      ]

  -- another patch behind all others
  pub rises_instead : (ps : List (List F)) (us : List F) (patch : Option (List F)) → Rises number ps us → AreBelow number (facts_of ps) (patch_facts patch) → Rises number (ps ++ patches_of patch) []
  rises_instead ps us patch h below = rises_flushed ps (patch_facts patch) patch (rises_with number ps us (patch_facts patch) h below) (λ f c. c)

module _ {F : Type 0} (key : F → ℕ) where
  pub ascend_replaced : (ps : List (List F)) (i : ℕ) (patch : Option (List F)) → All (Ascends key) ps → Ascends key (patch_facts patch) → All (Ascends key) (replaced ps i patch)
  ascend_replaced ps i patch h up = All-append (Ascends key) (take i ps) (patches_of patch ++ drop (i + 2) ps) (All-take (Ascends key) i ps h)
      (All-append (Ascends key) (patches_of patch) (drop (i + 2) ps) (all_patches (Ascends key) patch up) (All-drop (Ascends key) (i + 2) ps h))

  pub ascend_flushed : (ps : List (List F)) (patch : Option (List F)) → All (Ascends key) ps → Ascends key (patch_facts patch) → All (Ascends key) (ps ++ patches_of patch)
  ascend_flushed ps patch h up = All-append (Ascends key) ps (patches_of patch) h (all_patches (Ascends key) patch up)

module _ {F : Type 0} (key number : F → ℕ) (empty : F → Bool) where
  -- says the same after a merge
  pub says_merged : (within : F → F → Bool) (elided : ℕ → Bool) (ps : List (List F)) (i : ℕ) (patch : Option (List F)) (us : List F) → i + 1 < length ps → Rises number ps us
      → IsMerged key number empty within (i == 0) elided (get_or ps i []) (get_or ps (i + 1) []) (patch_facts patch) → IsApart within
      → SaysTheSame key number empty elided (facts_of ps ++ us) (facts_of (replaced ps i patch) ++ us)
  says_merged within elided ps i patch us l h m apart wider more k =
      wider_says key number empty elided wider (facts_of ps ++ us) (facts_of (replaced ps i patch) ++ us) same more k
    where
      one : i + 1 ≡ suc i
      one = omega arith

      two : i + 2 ≡ suc (suc i)
      two = omega arith

      first : (i == 0) ≡ true → facts_of (take i ps) ≡ []
      first e = let z : i ≡ 0 = eqb-true _ _ e in ap (λ n. facts_of (take n ps)) z

      same : (k : ℕ) → says key number empty (facts_of (replaced ps i patch) ++ us) elided k ≡ says key number empty (facts_of ps ++ us) elided k
      same k = rw two (rw (facts_replaced ps i patch us, facts_split ps i us (omega (arith, l)))
          (merge_says key number empty (i == 0) elided k (facts_of (take i ps)) (get_or ps i [] ++ get_or ps (suc i) []) (patch_facts patch) (facts_of (drop (suc (suc i)) ps) ++ us)
          (rw one at (m.newest apart k)) first (below_two number ps i us (omega (arith, l)) h)))

  -- says the same after a flush
  pub says_flushed : (ps : List (List F)) (us : List F) (patch : Option (List F)) → IsFlushed key number us (patch_facts patch) → (elided : ℕ → Bool) (k : ℕ)
      → says key number empty (facts_of (ps ++ patches_of patch) ++ []) elided k ≡ says key number empty (facts_of ps ++ us) elided k
  says_flushed ps us patch h elided k = grind (arith, nat_tests, alike_says, append-nil, facts_append, facts_patches, newest-append, has_key)

module _ {F : Type 0} (key number : F → ℕ) where
  pub flush_layered : (ps : List (List F)) (us : List F) (patch : Option (List F)) → IsLayered key number ps us → IsFlushed key number us (patch_facts patch) → IsLayered key number (ps ++ patches_of patch) []
  flush_layered ps us patch h f = record {
    ascend = ascend_flushed key ps patch h.ascend f.ascends;
    ordered = λ i j d l m. absurd (omega (arith, m));
    rises = rises_flushed number ps us patch h.rises f.source;
  }

  pub instead_layered : (ps : List (List F)) (us : List F) (patch : Option (List F)) → IsLayered key number ps us → Ascends key (patch_facts patch) → AreBelow number (facts_of ps) (patch_facts patch)
      → IsLayered key number (ps ++ patches_of patch) []
  instead_layered ps us patch h up below = record {
    ascend = ascend_flushed key ps patch h.ascend up;
    ordered = λ i j d l m. absurd (omega (arith, m));
    rises = rises_instead number ps us patch h.rises below;
  }

  pub merge_layered : (ps : List (List F)) (i : ℕ) (patch : Option (List F)) (us : List F) → i + 1 < length ps → IsLayered key number ps us → Ascends key (patch_facts patch) → IsOfTwo ps i patch
      → IsLayered key number (replaced ps i patch) us
  merge_layered ps i patch us l h up source = record {
    ascend = ascend_replaced key ps i patch h.ascend up;
    ordered = h.ordered;
    rises = rises_replaced number ps i patch us l h.rises source;
  }

  -- neighbours rise
  neighbours : (ps : List (List F)) (i : ℕ) (us : List F) → suc i < length ps → Rises number ps us → AreBelow number (get_or ps i []) (get_or ps (suc i) [])
  neighbours [] i us l h = absurd (omega (arith, l))
  neighbours (x ∷ []) i us l h = absurd (omega (arith, l))
  neighbours (x ∷ y ∷ ps) zero us l h = all_below number x y (λ f g c d. below_at number x ((y ++ facts_of ps) ++ us) f g h.0 c (Contains-append_left (y ++ facts_of ps) us g (Contains-append_left y (facts_of ps) g d)))
  neighbours (x ∷ y ∷ ps) (suc i) us l h = neighbours (y ∷ ps) i us (omega (arith, l)) h.1

  -- what two neighbours are merged to
  pub merged_at : (empty : F → Bool) (within : F → F → Bool) (apart : IsApart within) (elided : ℕ → Bool) (ps : List (List F)) (i : ℕ) (us a b : List F) → i + 1 < length ps → IsLayered key number ps us
      → a ≡ get_or ps i a → b ≡ get_or ps (i + 1) b
      → IsMerged key number empty within (i == 0) elided (get_or ps i []) (get_or ps (i + 1) []) (filter (stays key empty (i == 0) elided) (merged key a b))
  merged_at empty within apart elided ps i us a b l h a_is b_is =
      let at : a ≡ get_or ps i [] = a_is ∙ get_or_default ps i a [] (omega (arith, l)) in
      let at2 : b ≡ get_or ps (i + 1) [] = b_is ∙ get_or_default ps (i + 1) b [] l in
      let one : i + 1 ≡ suc i = omega arith in
      let below : AreBelow number (get_or ps i []) (get_or ps (i + 1) []) = rw one (neighbours ps i us (omega (arith, l)) h.rises) in
      rw (at, at2) (merged_is key number empty within apart (i == 0) elided (get_or ps i []) (get_or ps (i + 1) []) (h.ascend i [] (omega (arith, l))) (h.ascend (i + 1) [] l) below)

  -- fewer unflushed facts
  pub filter_layered : (ps : List (List F)) (us : List F) (p : F → Bool) → IsLayered key number ps us → IsLayered key number ps (filter p us)
  filter_layered ps us p h = record {
    ascend = h.ascend;
    ordered = AllPairs-filter (IsBefore key number) p us h.ordered;
    rises = rises_with number ps us (filter p us) h.rises
        (all_below number (facts_of ps) (filter p us) (λ f g c d. below_at number (facts_of ps) us f g (rises_below number ps us h.rises) c (of_filter p us g d)));
  }

  -- what the only patch is rewritten to
  pub rewritten_at : (empty : F → Bool) (within : F → F → Bool) (apart : IsApart within) (elided : ℕ → Bool) (ps : List (List F)) (us b : List F) → length ps ≡ 1 → IsLayered key number ps us → b ≡ get_or ps 0 b
      → IsMerged key number empty within true elided [] (get_or ps 0 []) (filter (stays key empty true elided) (merged key [] b))
  rewritten_at empty within apart elided ps us b l h b_is =
      let at : b ≡ get_or ps 0 [] = b_is ∙ get_or_default ps 0 b [] (omega (arith, l)) in
      rw at (merged_is key number empty within apart true elided [] (get_or ps 0 []) (ascends-nil key) (h.ascend 0 [] (omega (arith, l))) (λ i d m. absurd (omega (arith, m))))

  pub rewrite_layered : (ps : List (List F)) (patch : Option (List F)) (us : List F) → length ps ≡ 1 → IsLayered key number ps us → Ascends key (patch_facts patch)
      → ((f : F) → Contains (patch_facts patch) f → Contains (get_or ps 0 []) f) → IsLayered key number (patches_of patch) us
  rewrite_layered [] patch us l h up source = absurd (omega (arith, l))
  rewrite_layered (p ∷ q ∷ ps) patch us l h up source = absurd (omega (arith, l))
  rewrite_layered (p ∷ []) None us l h up source = record { ascend = λ k d m. absurd (omega (arith, m)); ordered = h.ordered; rises = tt }
  rewrite_layered (p ∷ []) (Some fs) us l h up source = record {
    ascend = all_patches (Ascends key) (Some fs) up;
    ordered = h.ordered;
    rises = (all_below number fs us (λ f g c d. below_at number p us f g h.rises.0 (source f c) d), tt);
  }

module _ {F : Type 0} (key number : F → ℕ) (empty : F → Bool) where
  -- says the same after a rewriting
  pub says_rewritten : (within : F → F → Bool) (elided : ℕ → Bool) (ps : List (List F)) (patch : Option (List F)) (us : List F) → length ps ≡ 1 → Rises number ps us
      → IsMerged key number empty within true elided [] (get_or ps 0 []) (patch_facts patch) → IsApart within
      → SaysTheSame key number empty elided (facts_of ps ++ us) (facts_of (patches_of patch) ++ us)
  says_rewritten within elided [] patch us l h m apart = absurd (omega (arith, l))
  says_rewritten within elided (p ∷ q ∷ ps) patch us l h m apart = absurd (omega (arith, l))
  says_rewritten within elided (p ∷ []) patch us l h m apart = λ wider more k.
      wider_says key number empty elided wider ((p ++ []) ++ us) (facts_of (patches_of patch) ++ us)
      (λ k. rw (append-nil p, facts_patches patch) (merge_says key number empty true elided k [] p (patch_facts patch) us (m.newest apart k) (λ e. refl) h.0)) more k
