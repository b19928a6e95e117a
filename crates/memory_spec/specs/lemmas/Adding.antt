-- The newest fact of a key, when newer facts are added in any order.
use Rattle.std.proofs.Common.{◌≡◌, ◌⊎◌, ◌↔◌, ℕ, ◌<◌, true, false, List, ◌++◌, ◌∙◌, ap, arith, inl, inr, Some, None, IfSome, Contains, eq-eqb, ne_eqb, eqb-true}
use Rattle.std.proofs.lemmas.List.Elements.{Contains-append_left, Contains-append_right, Contains-append_cases}
use Rattle.array_spec.specs.Prelude.{has_key}
use Rattle.pyramid.specs.Prelude.{newest_of, AreDistinct, later, newest-append, newest_none, newest_found, later_none, same_newest, newest_over, all_contained, all_below, later_below}

-- what is in either list is in both behind one another
pub joined : {F : Type 0} (old new run : List F) → ((f : F) → Contains new f ↔ (Contains old f ⊎ Contains run f)) → (f : F) → Contains new f ↔ Contains (old ++ run) f
joined old new run added f = (
  λ c. elim ((added f).0 c) [ inl a ↦ Contains-append_left old run f a | inr a ↦ Contains-append_right old run f a ],
  λ c. (added f).1 (Contains-append_cases old run f c),
)

module _ {F : Type 0} (key number : F → ℕ) where
  -- the only fact of a key is its newest
  pub only_newest : (fs : List F) (k : ℕ) (g : F) → Contains fs g → key g ≡ k → ((f : F) → Contains fs f → key f ≡ k → f ≡ g) → newest_of key number k fs ≡ Some g
  only_newest fs k g c is only =
      let w = newest_over number (has_key key k) fs g c (eq-eqb (key g) k is) in
      let found : IfSome (Some w.0) (λ f. Contains fs f × (has_key key k f ≡ true)) = rw w.1 at (newest_found number (has_key key k) fs) in
      w.1 ∙ ap (λ f. Some f) (only w.0 found.0 (eqb-true (key w.0) k found.1))

  -- a key without a fact
  pub no_newest : (fs : List F) (k : ℕ) → ((f : F) → Contains fs f → key f ≡ k → ⊥) → newest_of key number k fs ≡ None
  no_newest fs k none = newest_none number (has_key key k) fs (all_contained (λ f. has_key key k f ≡ false) fs (λ f c. ne_eqb (key f) k (none f c)))

  module _ (old new run : List F) (added : (f : F) → Contains new f ↔ (Contains old f ⊎ Contains run f)) (below : (f g : F) → Contains old f → Contains run g → number f < number g)
      (distinct : AreDistinct number old) (distinct_run : AreDistinct number run) where
    all_distinct : AreDistinct number (old ++ run)
    all_distinct f g c d e = elim (Contains-append_cases old run f c) [
      | inl a ↦ elim (Contains-append_cases old run g d) [
        | inl b ↦ distinct f g a b e
        | inr b ↦ (let less = below f g a b in absurd (omega (arith, less, e)))
      ]
      | inr a ↦ elim (Contains-append_cases old run g d) [
        | inl b ↦ (let less = below g f b a in absurd (omega (arith, less, e)))
        | inr b ↦ distinct_run f g a b e
      ]
    ]

    newest_is : (k : ℕ) → newest_of key number k new ≡ later number (newest_of key number k old) (newest_of key number k run)
    newest_is k = same_newest number (has_key key k) new (old ++ run) (joined old new run added) all_distinct ∙ newest-append number (has_key key k) old run

    -- a key of none of the new facts
    pub newest_kept : (k : ℕ) → newest_of key number k run ≡ None → newest_of key number k new ≡ newest_of key number k old
    newest_kept k none = newest_is k ∙ ap (λ o. later number (newest_of key number k old) o) none ∙ later_none number (newest_of key number k old)

    -- a key of a new fact
    pub newest_given : (k : ℕ) (g : F) → newest_of key number k run ≡ Some g → newest_of key number k new ≡ Some g
    newest_given k g is = newest_is k ∙ later_below key number k old run g (all_below number old run below) is
