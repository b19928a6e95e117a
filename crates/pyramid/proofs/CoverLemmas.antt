-- What the facts of a table cover, where some of them lie in others.
use Rattle.pyramid.proofs.Prelude.{◌≡◌, ℕ, suc, ◌+◌, ◌<◌, ◌≤◌, Bool, true, false, List, [], ◌∷◌, ◌++◌, length, get_or, take, drop, sym, ap, subst, ◌∙◌, arith, inl, inr, Contains, ◌&&◌, not, Option, Some, None, IfSome, IsTrue, eq-eqb, eqb-true, append-nil, Contains-append_left, Contains-append_right, Contains-append_cases, IsTransitive, id_of, has_key, AreCovered, Grow, HasNewer, IsFlushed, IsMerged, LiesInOne, facts_of, newest_of, patch_facts, patches_of, stays, newest_found, newest_over}
use Rattle.pyramid.proofs.PlaceLemmas.{replaced, facts_append, facts_patches, facts_replaced, facts_split}

module _ {F : Type 0} (key number : F → ℕ) (within : F → F → Bool) where
  -- the newest fact of a key that has a newer one
  found : (k : ℕ) (fs : List F) (h : F) → newest_of key number k fs ≡ Some h → Contains fs h × (key h ≡ k)
  found k fs h e = one (newest_of key number k fs) e (newest_found number (has_key key k) fs)
    where
      one : (o : Option F) → o ≡ Some h → IfSome o (λ f. Contains fs f × (has_key key k f ≡ true)) → Contains fs h × (key h ≡ k)
      one None e c = absurd cc
      one (Some f) e c = let same : f ≡ h = cc in subst (λ x. Contains fs x × (key x ≡ k)) same (c.0, eqb-true (key f) k c.1)

  abbrev Latest : List F → F → Type 0
  Latest fs f = (h : F) × Contains fs h × (newest_of key number (key f) fs ≡ Some h) × IsTrue (within f h)

  latest : (fs : List F) (f : F) → Grow key number within fs → Contains fs f → HasNewer key number fs f → Latest fs f
  latest fs f grow c n =
      let over = newest_over number (has_key key (key f)) fs n.0 n.1 (eq-eqb (key n.0) (key f) n.2) in
      let is = found (key f) fs over.0 over.1 in
      (over.0, is.0, over.1, grow f over.0 c is.0 (sym is.1) (omega (arith, n.3, over.2)))

  pub cover_flushed : (us new : List F) → IsFlushed key number us new → Grow key number within us → AreCovered within us new
  cover_flushed us new h grow f c = elim (h.dropped f c) [
    | inl a ↦ inl a
    | inr n ↦
        let last = latest us f grow c n in
        inr (last.0, (found (key f) new last.0 (h.newest (key f) ∙ last.2)).0, last.3)
  ]

  -- what is at the front and at the end stays
  pub cover_middle : (a old new b : List F) → AreCovered within old new → AreCovered within (a ++ (old ++ b)) (a ++ (new ++ b))
  cover_middle a old new b h f c = elim (Contains-append_cases a (old ++ b) f c) [
    | inl d ↦ inl (Contains-append_left a (new ++ b) f d)
    | inr d ↦ elim (Contains-append_cases old b f d) [
      | inr e ↦ inl (Contains-append_right a (new ++ b) f (Contains-append_right new b f e))
      | inl e ↦ elim (h f e) [
        | inl i ↦ inl (Contains-append_right a (new ++ b) f (Contains-append_left new b f i))
        | inr i ↦ inr (i.0, Contains-append_right a (new ++ b) i.0 (Contains-append_left new b i.0 i.1), i.2)
      ]
    ]
  ]

  module _ (empty : F → Bool) (whole : IsTransitive within) (oldest : Bool) (elided : ℕ → Bool) (stay : (f : F) → IsTrue (stays key empty oldest elided f)) where
    left_in : (f : F) → IsTrue (elided (id_of (key f))) → ⊥
    left_in f e = one (elided (id_of (key f))) e (stay f)
      where
        one : (a : Bool) → a ≡ true → (not a && not (oldest && empty f)) ≡ true → ⊥
        one true p q = absurd cc
        one false p q = absurd cc

    some_in : (f : F) → IsTrue oldest → IsTrue (empty f) → ⊥
    some_in f o e = one (elided (id_of (key f))) oldest (empty f) o e (stay f)
      where
        one : (a b c : Bool) → b ≡ true → c ≡ true → (not a && not (b && c)) ≡ true → ⊥
        one true b c p q r = absurd cc
        one false true true p q r = absurd cc
        one false false c p q r = absurd cc
        one false true false p q r = absurd cc

    pub cover_merged : (xs ys new : List F) → IsMerged key number empty within oldest elided xs ys new → Grow key number within (xs ++ ys) → AreCovered within (xs ++ ys) new
    cover_merged xs ys new m grow f c = elim (m.dropped f c) [
      | inl a ↦ inl a
      | inr r ↦ elim r [
        | inl gone ↦ absurd (left_in f gone)
        | inr s ↦ elim s [
          | inr t ↦ elim t [ inl none ↦ absurd (some_in f none.0 none.1) | inr lies ↦ inr lies ]
          | inl newer ↦ inr (last f (latest (xs ++ ys) f grow c newer))
        ]
      ]
    ]
      where
        last : (f : F) → Latest (xs ++ ys) f → LiesInOne within new f
        last f l = elim (m.dropped l.0 l.1) [
          | inl a ↦ (l.0, a, l.3)
          | inr r ↦ elim r [
            | inl gone ↦ absurd (left_in l.0 gone)
            | inr s ↦ elim s [
              | inl newer ↦
                  let key_is = (found (key f) (xs ++ ys) l.0 l.2).1 in
                  let over = newest_over number (has_key key (key f)) (xs ++ ys) newer.0 newer.1 (eq-eqb (key newer.0) (key f) (newer.2 ∙ key_is)) in
                  let both : Some over.0 ≡ Some l.0 = sym over.1 ∙ l.2 in
                  let same : over.0 ≡ l.0 = cc in
                  let less : number newer.0 ≤ number l.0 = subst (λ x. number newer.0 ≤ number x) same over.2 in
                  absurd (omega (arith, newer.3, less))
              | inr t ↦ elim t [
                | inl none ↦ absurd (some_in l.0 none.0 none.1)
                | inr lies ↦ (lies.0, lies.1, whole f l.0 lies.0 l.3 lies.2)
              ]
            ]
          ]
        ]

    pub cover_replaced : (ps : List (List F)) (i : ℕ) (patch : Option (List F)) (us : List F) → i + 1 < length ps
        → IsMerged key number empty within oldest elided (get_or ps i []) (get_or ps (i + 1) []) (patch_facts patch) → Grow key number within (facts_of ps ++ us)
        → AreCovered within (facts_of ps ++ us) (facts_of (replaced ps i patch) ++ us)
    cover_replaced ps i patch us l m grow =
        let one : i + 1 ≡ suc i = omega arith in
        let two : i + 2 ≡ suc (suc i) = omega arith in
        let split = facts_split ps i us (omega (arith, l)) in
        let some = rw one at m in
        rw two (rw (facts_replaced ps i patch us, split) (cover_middle (facts_of (take i ps)) (get_or ps i [] ++ get_or ps (suc i) []) (patch_facts patch) (facts_of (drop (suc (suc i)) ps) ++ us)
        (cover_merged (get_or ps i []) (get_or ps (suc i) []) (patch_facts patch) some (λ f g c d. grow f g (part ps i us (omega (arith, l)) f c) (part ps i us (omega (arith, l)) g d)))))
      where
        part : (ps : List (List F)) (i : ℕ) (us : List F) → suc i < length ps → (f : F) → Contains (get_or ps i [] ++ get_or ps (suc i) []) f → Contains (facts_of ps ++ us) f
        part ps i us l f c = rw (facts_split ps i us l) (Contains-append_right (facts_of (take i ps)) ((get_or ps i [] ++ get_or ps (suc i) []) ++ (facts_of (drop (suc (suc i)) ps) ++ us)) f
            (Contains-append_left (get_or ps i [] ++ get_or ps (suc i) []) (facts_of (drop (suc (suc i)) ps) ++ us) f c))

    pub cover_rewritten : (ps : List (List F)) (patch : Option (List F)) (us : List F) → length ps ≡ 1
        → IsMerged key number empty within oldest elided [] (get_or ps 0 []) (patch_facts patch) → Grow key number within (facts_of ps ++ us)
        → AreCovered within (facts_of ps ++ us) (facts_of (patches_of patch) ++ us)
    cover_rewritten [] patch us l m grow = absurd (omega (arith, l))
    cover_rewritten (p ∷ q ∷ ps) patch us l m grow = absurd (omega (arith, l))
    cover_rewritten (p ∷ []) patch us l m grow =
        rw (append-nil p, facts_patches patch) (cover_middle [] p (patch_facts patch) us
        (cover_merged [] p (patch_facts patch) m (λ f g c d. grow f g (rw (append-nil p) (Contains-append_left p us f c)) (rw (append-nil p) (Contains-append_left p us g d)))))

  pub cover_put : (ps : List (List F)) (us : List F) (patch : Option (List F)) → IsFlushed key number us (patch_facts patch) → Grow key number within (facts_of ps ++ us)
      → AreCovered within (facts_of ps ++ us) (facts_of (ps ++ patches_of patch) ++ [])
  cover_put ps us patch h grow f c =
      let covered : AreCovered within us (patch_facts patch) = cover_flushed us (patch_facts patch) h (λ f g c d. grow f g (Contains-append_right (facts_of ps) us f c) (Contains-append_right (facts_of ps) us g d)) in
      let new_is : facts_of (ps ++ patches_of patch) ++ [] ≡ facts_of ps ++ patch_facts patch = append-nil (facts_of (ps ++ patches_of patch)) ∙ facts_append ps (patches_of patch) ∙ ap (λ fs. facts_of ps ++ fs) (facts_patches patch) in
      rw new_is (elim (Contains-append_cases (facts_of ps) us f c) [
        | inl a ↦ inl (Contains-append_left (facts_of ps) (patch_facts patch) f a)
        | inr b ↦ elim (covered f b) [
          | inl d ↦ inl (Contains-append_right (facts_of ps) (patch_facts patch) f d)
          | inr d ↦ inr (d.0, Contains-append_right (facts_of ps) (patch_facts patch) d.0 d.1, d.2)
        ]
      ])
