-- What a merge, a rewriting and a flush leave said.
use Rattle.pyramid.proofs.Prelude.{arith, Option, Some, None, IfSome, if◌then◌else◌, option_and_then, ◌≡◌, ℕ, ◌<◌, Bool, true, false, List, [], ◌++◌, refl, ap, ◌∙◌, All, Contains, lt-ltb, eqb-true, nat_tests, All-contains, newer, id_of, has_key, says, unless_empty, newest_of, AreBelow, if_passes, stays, later, newest-append, newest_found}

module _ {F : Type 0} (key number : F → ℕ) (empty : F → Bool) where
  abbrev New : ℕ → List F → Option F
  New k fs = newest_of key number k fs

  -- m is what two patches say of a key, r what the later ones do, all of them newer
  kept : (oldest : Bool) (elided : ℕ → Bool) (k : ℕ) (fr m r : Option F) → elided (id_of k) ≡ false
      → IfSome m (λ f. key f ≡ k) → (oldest ≡ true → fr ≡ None) → (oldest ≡ true → IfSome m (λ f. IfSome r (λ g. number f < number g)))
      → option_and_then (unless_empty empty) (later number fr (later number (option_and_then (if_passes (stays key empty oldest elided)) m) r))
      ≡ option_and_then (unless_empty empty) (later number fr (later number m r))
  kept oldest elided k fr None r out at front below = refl
  kept false elided k fr (Some f) r out at front below = rw at (rw out refl)
  kept true elided k fr (Some f) r out at front below = rw (front refl) (one (empty f) refl r (below refl))
    where
      one : (b : Bool) → empty f ≡ b → (r : Option F) → IfSome r (λ g. number f < number g)
          → option_and_then (unless_empty empty) (later number (if_passes (stays key empty true elided) f) r) ≡ option_and_then (unless_empty empty) (newer number f r)
      one false e r h = rw (at, out, e) refl
      one true e None h = rw (at, out, e) refl
      one true e (Some g) h = rw (at, out, e, lt-ltb (number f) (number g) h) refl

  found_key : (k : ℕ) (fs : List F) → IfSome (New k fs) (λ f. key f ≡ k)
  found_key k fs = one (New k fs) (newest_found number (has_key key k) fs)
    where
      one : (o : Option F) → IfSome o (λ f. Contains fs f × (has_key key k f ≡ true)) → IfSome o (λ f. key f ≡ k)
      one None h = tt
      one (Some f) h = eqb-true _ _ h.1

  -- each fact of a list has a smaller number than each of another one
  below_found : (k : ℕ) (fs gs : List F) → AreBelow number fs gs → IfSome (New k fs) (λ f. IfSome (New k gs) (λ g. number f < number g))
  below_found k fs gs h = one (New k fs) (newest_found number (has_key key k) fs) (New k gs) (newest_found number (has_key key k) gs)
    where
      one : (o : Option F) → IfSome o (λ f. Contains fs f × (has_key key k f ≡ true)) → (p : Option F) → IfSome p (λ g. Contains gs g × (has_key key k g ≡ true))
          → IfSome o (λ f. IfSome p (λ g. number f < number g))
      one None a p b = tt
      one (Some f) a None b = tt
      one (Some f) a (Some g) b = All-contains (λ g. number f < number g) gs g (All-contains (λ f. All (λ g. number f < number g) gs) fs f h a.0) b.0

  -- front and rest are the facts of the older patches, and of the newer ones with those that aren't flushed
  pub merge_says : (oldest : Bool) (elided : ℕ → Bool) (k : ℕ) (front two new rest : List F)
      → New k new ≡ option_and_then (if_passes (stays key empty oldest elided)) (New k two) → (oldest ≡ true → front ≡ []) → AreBelow number two rest
      → says key number empty (front ++ (new ++ rest)) elided k ≡ says key number empty (front ++ (two ++ rest)) elided k
  merge_says oldest elided k front two new rest is first below = one (elided (id_of k)) refl
    where
      old_is : New k (front ++ (two ++ rest)) ≡ later number (New k front) (later number (New k two) (New k rest))
      old_is = newest-append number (has_key key k) front (two ++ rest) ∙ ap (λ o. later number (New k front) o) (newest-append number (has_key key k) two rest)

      new_is : New k (front ++ (new ++ rest)) ≡ later number (New k front) (later number (option_and_then (if_passes (stays key empty oldest elided)) (New k two)) (New k rest))
      new_is = newest-append number (has_key key k) front (new ++ rest) ∙ ap (λ o. later number (New k front) o) (newest-append number (has_key key k) new rest ∙ ap (λ o. later number o (New k rest)) is)

      one : (w : Bool) → elided (id_of k) ≡ w
          → (if w then None else option_and_then (unless_empty empty) (New k (front ++ (new ++ rest))))
          ≡ (if w then None else option_and_then (unless_empty empty) (New k (front ++ (two ++ rest))))
      one true e = refl
      one false e = rw (new_is, old_is) (kept oldest elided k (New k front) (New k two) (New k rest) e (found_key k two) (λ o. ap (λ l. New k l) (first o)) (λ o. below_found k two rest below))

  -- what is said where these ids are elided is said where more are
  pub wider_says : (elided wider : ℕ → Bool) (old new : List F) → ((k : ℕ) → says key number empty new elided k ≡ says key number empty old elided k)
      → ((id : ℕ) → elided id ≡ true → wider id ≡ true) → (k : ℕ) → says key number empty new wider k ≡ says key number empty old wider k
  wider_says elided wider old new same more k = grind (arith, nat_tests, id_of, option_and_then, unless_empty)

  -- facts of which each key has the same newest one
  pub alike_says : (old new : List F) → ((k : ℕ) → New k new ≡ New k old) → (elided : ℕ → Bool) (k : ℕ) → says key number empty new elided k ≡ says key number empty old elided k
  alike_says old new same elided k = ap (λ o. if elided (id_of k) then None else option_and_then (unless_empty empty) o) (same k)
