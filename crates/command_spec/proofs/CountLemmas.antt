-- How many facts there are at most.
use Rattle.command_spec.proofs.Prelude.{◌≡◌, ◌⊎◌, ◌↔◌, ℕ, ◌+◌, ◌<◌, ◌≤◌, List, [], ◌∷◌, ◌++◌, length, sym, arith, inl, inr, subst, Contains, length-append, Contains-append_left, Contains-append_right, Contains-append_cases, Ascends, IsBefore, IsFlushed, IsOrdered}
use Rattle.memory_spec.specs.Prelude.{here, either, nowhere}
use Rattle.memory_spec.proofs.CountLemmas.{no_more_than}
use Rattle.memory_spec.proofs.Records.{pairs_append}

-- ---- one fact more

-- the one that a list has
pub only : {F : Type 0} (x f : F) → Contains (x ∷ []) f → f ≡ x
only x f c = elim (either x f [] c) [ inl same ↦ same | inr rest ↦ absurd (nowhere f rest) ]

-- one more is the facts of a list of one more
pub as_one : {F : Type 0} (was now : List F) (x : F) → ((f : F) → Contains now f ↔ (Contains was f ⊎ (f ≡ x))) → (f : F) → Contains now f ↔ (Contains was f ⊎ Contains (x ∷ []) f)
as_one was now x h f = (
  λ c. elim ((h f).0 c) [ inl a ↦ inl a | inr e ↦ inr (subst (λ z. Contains (x ∷ []) z) (sym e) (here x [])) ],
  λ c. (h f).1 (elim c [ inl a ↦ inl a | inr b ↦ inr (only x f b) ]),
)

pub as_none : {F : Type 0} (was : List F) (f : F) → Contains was f ↔ (Contains was f ⊎ Contains [] f)
as_none was f = (λ c. inl c, λ c. elim c [ inl a ↦ a | inr none ↦ absurd (nowhere f none) ])

-- and those of two lists, one behind the other, are more together
pub joined : {F : Type 0} (a b c d e : List F) → ((f : F) → Contains b f ↔ (Contains a f ⊎ Contains d f)) → ((f : F) → Contains c f ↔ (Contains b f ⊎ Contains e f))
    → (f : F) → Contains c f ↔ (Contains a f ⊎ Contains (d ++ e) f)
joined a b c d e first then f = (
  λ x. elim ((then f).0 x) [
    | inl y ↦ elim ((first f).0 y) [ inl z ↦ inl z | inr z ↦ inr (Contains-append_left d e f z) ]
    | inr z ↦ inr (Contains-append_right d e f z)
  ],
  λ x. elim x [
    | inl z ↦ (then f).1 (inl ((first f).1 (inl z)))
    | inr y ↦ elim (Contains-append_cases d e f y) [ inl z ↦ (then f).1 (inl ((first f).1 (inr z))) | inr z ↦ (then f).1 (inr z) ]
  ],
)

-- ---- facts

-- no fact stands before itself
not_before : {F : Type 0} (key number : F → ℕ) (f : F) → IsBefore key number f f → ⊥
not_before key number f (inl less) = omega (arith, less)
not_before key number f (inr both) = let less = both.1 in omega (arith, less)

-- facts in order that were taken from these and those are no more than both
pub no_more_facts : {F : Type 0} (key number : F → ℕ) (was more now : List F) → IsOrdered key number now → ((f : F) → Contains now f ↔ (Contains was f ⊎ Contains more f)) → length now ≤ length was + length more
no_more_facts key number was more now ordered taken =
    let few = no_more_than (IsBefore key number) (not_before key number) now (was ++ more) ordered (λ f c. elim ((taken f).0 c) [
      | inl a ↦ Contains-append_left was more f a
      | inr b ↦ Contains-append_right was more f b
    ]) in
    omega (arith, few, length-append was more)

-- in order, or newer
abbrev Apart : {F : Type 0} → (F → ℕ) → (F → ℕ) → F → F → Type 0
Apart key number f g = IsBefore key number f g ⊎ (number f < number g)

not_apart : {F : Type 0} (key number : F → ℕ) (f : F) → Apart key number f f → ⊥
not_apart key number f (inl before) = not_before key number f before
not_apart key number f (inr less) = omega (arith, less)

-- nor fewer, where those are newer
pub no_fewer_facts : {F : Type 0} (key number : F → ℕ) (was more now : List F) → IsOrdered key number was → Ascends key more → ((f g : F) → Contains was f → Contains more g → number f < number g)
    → ((f : F) → Contains was f ⊎ Contains more f → Contains now f) → length was + length more ≤ length now
no_fewer_facts key number was more now ordered up newer kept =
    let few = no_more_than (Apart key number) (not_apart key number) (was ++ more) now
    (pairs_append (Apart key number) was more (λ i j d l m. inl (ordered i j d l m)) (λ i j d l m. inl (inl (up i j d l m))) (λ f g c d. inr (newer f g c d)))
    (λ f c. kept f (Contains-append_cases was more f c)) in
    omega (arith, few, length-append was more)

-- and so where one was
pub one_fact_more : {F : Type 0} (key number : F → ℕ) (was : List F) (x : F) (now : List F) → IsOrdered key number now → ((f : F) → Contains now f ↔ (Contains was f ⊎ (f ≡ x))) → length now ≤ length was + 1
one_fact_more key number was x now ordered taken =
    let few = no_more_than (IsBefore key number) (not_before key number) now (was ++ x ∷ []) ordered (λ f c. elim ((taken f).0 c) [
      | inl a ↦ Contains-append_left was (x ∷ []) f a
      | inr e ↦ Contains-append_right was (x ∷ []) f (subst (λ z. Contains (x ∷ []) z) (sym e) (here x []))
    ]) in
    omega (arith, few, length-append was (x ∷ []))

pub with_one_more : {F : Type 0} (key number : F → ℕ) (was : List F) (x : F) (now : List F) → IsOrdered key number was → ((f : F) → Contains was f → number f < number x)
    → ((f : F) → Contains was f ⊎ (f ≡ x) → Contains now f) → length was + 1 ≤ length now
with_one_more {F} key number was x now ordered newer kept =
    no_fewer_facts key number was (x ∷ []) now ordered one (λ f g c d. subst (λ (y : F). number f < number y) (sym (only x g d)) (newer f c)) (λ f c. kept f (elim c [ inl a ↦ inl a | inr b ↦ inr (only x f b) ]))
  where
    one : Ascends key (x ∷ [])
    one i j d l m = absurd (omega (arith, l, m))

-- a new patch has no more facts than were unflushed
pub flushed_fewer : {F : Type 0} (key number : F → ℕ) (unflushed new : List F) → IsFlushed key number unflushed new → length new ≤ length unflushed
flushed_fewer key number unflushed new h = no_more_than (λ f g. key f < key g) (λ f less. omega (arith, less)) new unflushed h.ascends h.source
