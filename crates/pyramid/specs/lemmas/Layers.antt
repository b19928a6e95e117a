-- Layers of facts whose numbers rise.
use Rattle.std.proofs.Common.{◌≡◌, ◌⊎◌, ℕ, zero, suc, ◌+◌, ◌<◌, ◌≤◌, true, List, [], ◌∷◌, ◌++◌, length, get_or, drop, refl, ◌∙◌, arith, inl, inr, All, Contains}
use Rattle.std.specs.Prelude.{Option, Some, None, Result, Ok, Err, OnOk, OnErr, IfNone, IfSome}
use Rattle.std.proofs.lemmas.Bool.{lt-ltb}
use Rattle.std.proofs.lemmas.List.{append-nil, get_or_default, get_or_append_left, get_or-append-add, length-append}
use Rattle.std.proofs.lemmas.List.Elements.{All-append, All-contains, Contains-append_left, Contains-append_right, Contains-append_cases}
use Rattle.pur_base.specs.Prelude.{has_key, Ascends}
use Rattle.pyramid.specs.Layers.{facts_of, newest_of, AreBelow, Rises, IsOrdered}
use Rattle.pyramid.specs.Merging.{later}
use Rattle.pyramid.specs.lemmas.Newest.{newest-append, newest_found, later_none}

module _ {F : Type 0} (key : F → ℕ) (number : F → ℕ) where
  -- a patch stands in order
  pub ascends_ordered : (fs : List F) → Ascends key fs → IsOrdered key number fs
  ascends_ordered fs h i j d l m = inl (h i j d l m)

module _ {F : Type 0} (number : F → ℕ) where
  pub below-left : (fs gs hs : List F) → AreBelow number fs (gs ++ hs) → AreBelow number fs gs
  below-left fs gs hs h i d l j e m = rw (← get_or_append_left gs hs e j m) (h i d l j e (omega (arith, m, length-append gs hs)))

  pub below-right : (fs gs hs : List F) → AreBelow number fs (gs ++ hs) → AreBelow number fs hs
  below-right fs gs hs h i d l j e m = rw (← get_or-append-add gs hs j e) (h i d l (length gs + j) e (omega (arith, m, length-append gs hs)))

  -- all patches are below what isn't flushed
  pub rises_below : (ps : List (List F)) (us : List F) → Rises number ps us → AreBelow number (facts_of ps) us
  rises_below [] us h = λ k d l. absurd (omega (arith, l))
  rises_below (p ∷ ps) us h = All-append (λ f. All (λ g. number f < number g) us) p (facts_of ps) (below-right p (facts_of ps) us h.0) (rises_below ps us h.1)

  -- patches rise among themselves
  pub rises_alone : (ps : List (List F)) (us : List F) → Rises number ps us → Rises number ps []
  rises_alone [] us h = tt
  rises_alone (p ∷ ps) us h = (rw (append-nil (facts_of ps)) (below-left p (facts_of ps) us h.0), rises_alone ps us h.1)

-- what holds of whatever is contained holds of each
pub all_contained : {X : Type 0} (P : X → Type 0) (xs : List X) → ((x : X) → Contains xs x → P x) → All P xs
all_contained P xs h i d l = h (get_or xs i d) (i, l, get_or_default xs i (get_or xs i d) d l)

-- one of both
pub ok_or_err : {T E : Type 0} (r : Result T E) (P Q : Type 0) → OnOk r P → OnErr r Q → P ⊎ Q
ok_or_err (Ok x) P Q p q = inl p
ok_or_err (Err e) P Q p q = inr q

-- what follows where nothing is found
pub none_then : {X : Type 0} (o : Option X) {P Q : Type 0} → IfNone o P → (P → Q) → IfNone o Q
none_then None p f = f p
none_then (Some x) p f = tt

module _ {F : Type 0} (number : F → ℕ) where
  pub below_at : (fs gs : List F) (f g : F) → AreBelow number fs gs → Contains fs f → Contains gs g → number f < number g
  below_at fs gs f g h c d = All-contains (λ x. number f < number x) gs g (All-contains (λ x. All (λ y. number x < number y) gs) fs f h c) d

  pub all_below : (fs gs : List F) → ((f g : F) → Contains fs f → Contains gs g → number f < number g) → AreBelow number fs gs
  all_below fs gs h = all_contained (λ f. All (λ g. number f < number g) gs) fs (λ f c. all_contained (λ g. number f < number g) gs (λ g d. h f g c d))

  -- other facts behind all patches
  pub rises_with : (ps : List (List F)) (us vs : List F) → Rises number ps us → AreBelow number (facts_of ps) vs → Rises number ps vs
  rises_with [] us vs h b = tt
  rises_with (p ∷ ps) us vs h b = (
    all_below p (facts_of ps ++ vs) (λ f g c d. elim (Contains-append_cases (facts_of ps) vs g d) [
      | inl e ↦ below_at p (facts_of ps ++ us) f g h.0 c (Contains-append_left (facts_of ps) us g e)
      | inr e ↦ below_at (p ++ facts_of ps) vs f g b (Contains-append_left p (facts_of ps) f c) e
    ]),
    rises_with ps us vs h.1 (all_below (facts_of ps) vs (λ f g c d. below_at (p ++ facts_of ps) vs f g b (Contains-append_right p (facts_of ps) f c) d)),
  )

  -- a fact more, above all patches
  pub rises_insert : (ps : List (List F)) (us vs : List F) (y : F) → Rises number ps us → All (λ f. number f < number y) (facts_of ps)
      → ((f : F) → Contains vs f → Contains us f ⊎ (f ≡ y)) → Rises number ps vs
  rises_insert ps us vs y h above source = rises_with ps us vs h (all_below (facts_of ps) vs (λ f g c d. elim (source g d) [
    | inl old ↦ below_at (facts_of ps) us f g (rises_below number ps us h) c old
    | inr same ↦ rw same (All-contains (λ x. number x < number y) (facts_of ps) f above c)
  ]))

  -- more facts, above all patches
  pub rises_run : (ps : List (List F)) (us vs rs : List F) → Rises number ps us → AreBelow number (facts_of ps) rs
      → ((f : F) → Contains vs f → Contains us f ⊎ Contains rs f) → Rises number ps vs
  rises_run ps us vs rs h above source = rises_with ps us vs h (all_below (facts_of ps) vs (λ f g c d. elim (source g d) [
    | inl old ↦ below_at (facts_of ps) us f g (rises_below number ps us h) c old
    | inr new ↦ below_at (facts_of ps) rs f g above c new
  ]))

module _ {F : Type 0} (key number : F → ℕ) where
  -- what is newer counts
  pub later_below : (k : ℕ) (fs gs : List F) (g : F) → AreBelow number fs gs → newest_of key number k gs ≡ Some g → later number (newest_of key number k fs) (newest_of key number k gs) ≡ Some g
  later_below k fs gs g h e = rw e (one (newest_of key number k fs) (newest_found number (has_key key k) fs))
    where
      is : Contains gs g
      is = two (newest_of key number k gs) e (newest_found number (has_key key k) gs)
        where
          two : (o : Option F) → o ≡ Some g → IfSome o (λ f. Contains gs f × (has_key key k f ≡ true)) → Contains gs g
          two None e c = cc
          two (Some x) e c = let same : x ≡ g = cc in rw same at c.0

      one : (o : Option F) → IfSome o (λ f. Contains fs f × (has_key key k f ≡ true)) → later number o (Some g) ≡ Some g
      one None c = refl
      one (Some f) c =
          let less : number f < number g = All-contains (λ x. number f < number x) gs g (All-contains (λ x. All (λ y. number x < number y) gs) fs f h c.0) is in
          rw (lt-ltb (number f) (number g) less) refl

  -- the first hit from the newest patch down is the newest fact
  pub first_hit : (k : ℕ) (ps : List (List F)) (us : List F) (i : ℕ) (p : List F) (f : F) → Rises number ps us → suc i ≤ length ps → p ≡ get_or ps i p
      → newest_of key number k (facts_of (drop (suc i) ps)) ≡ None → newest_of key number k p ≡ Some f → newest_of key number k (facts_of ps) ≡ Some f
  first_hit k [] us i p f h l is none e = absurd (omega (arith, l))
  first_hit k (q ∷ ps) us zero p f h l is none e =
      newest-append number (has_key key k) q (facts_of ps) ∙ (rw none (later_none number (newest_of key number k q) ∙ rw (← is) e))
  first_hit k (q ∷ ps) us (suc i) p f h l is none e =
      let inner : newest_of key number k (facts_of ps) ≡ Some f = first_hit k ps us i p f h.1 (omega (arith, l)) is none e in
      newest-append number (has_key key k) q (facts_of ps) ∙ later_below k q (facts_of ps) f (below-left number q (facts_of ps) us h.0) inner

  -- one more patch without the key
  pub none_more : (k : ℕ) (ps : List (List F)) (i : ℕ) (p : List F) → suc i ≤ length ps → p ≡ get_or ps i p
      → newest_of key number k (facts_of (drop (suc i) ps)) ≡ None → newest_of key number k p ≡ None → newest_of key number k (facts_of (drop i ps)) ≡ None
  none_more k [] i p l is none e = absurd (omega (arith, l))
  none_more k (q ∷ ps) zero p l is none e = newest-append number (has_key key k) q (facts_of ps) ∙ (rw none (later_none number (newest_of key number k q) ∙ rw (← is) e))
  none_more k (q ∷ ps) (suc i) p l is none e = none_more k ps i p (omega (arith, l)) is none e
