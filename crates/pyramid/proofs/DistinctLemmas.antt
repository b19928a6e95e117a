-- No two facts of a table have one key and one number.
use Rattle.pyramid.proofs.Prelude.{◌≡◌, ◌⊎◌, ◌↔◌, ℕ, suc, Bool, List, [], ◌∷◌, ◌++◌, get_or, sym, ap, ◌∙◌, arith, inl, inr, All, Contains, AllPairs, Result, Ok, Err, OnOk, eqb-true, append_assoc, cases_order, get_or_default, All-append, Contains-append_left, Contains-append_right, Contains-append_cases, Ascends, has_key, says, facts_of, IsOrdered, IsLayered, Rises, here, there, either, nowhere, all_contained, below_at, same_passing}
use Rattle.pyramid.proofs.InsertLemmas.{pairs-cons}
use Rattle.pyramid.proofs.SaysLemmas.{alike_says}

module _ {F : Type 0} (key number : F → ℕ) where
  -- they haven't one key and one number
  abbrev pub Differ : F → F → Type 0
  Differ f g = key f ≡ key g → number f ≡ number g → ⊥

  differ-append : (xs ys : List F) → AllPairs Differ xs → AllPairs Differ ys → ((f g : F) → Contains xs f → Contains ys g → Differ f g) → AllPairs Differ (xs ++ ys)
  differ-append [] ys a b c = b
  differ-append (x ∷ xs) ys a b c =
      let heads : All (λ y. Differ x y) xs = λ k d l. a 0 (suc k) d (omega arith) (omega (arith, l)) in
      pairs-cons Differ x (xs ++ ys) (All-append (λ y. Differ x y) xs ys heads (all_contained (λ y. Differ x y) ys (λ g d. c x g (here x xs) d)))
      (differ-append xs ys (λ i j d l m. a (suc i) (suc j) d (omega (arith, l)) (omega (arith, m))) b (λ f g e d. c f g (there x f xs e) d))

  differ_ordered : (us : List F) → IsOrdered key number us → AllPairs Differ us
  differ_ordered us h i j d l m e n = elim (h i j d l m) [ inl less ↦ omega (arith, less, e) | inr both ↦ (let more = both.1 in omega (arith, more, n)) ]

  -- no two facts of a table
  pub differ_layers : (ps : List (List F)) (us : List F) → All (Ascends key) ps → IsOrdered key number us → Rises number ps us → AllPairs Differ (facts_of ps ++ us)
  differ_layers [] us a o h = differ_ordered us o
  differ_layers (p ∷ ps) us a o h =
      let up : Ascends key p = a 0 p (omega arith) in
      let inner : AllPairs Differ (facts_of ps ++ us) = differ_layers ps us (λ k d l. a (suc k) d (omega (arith, l))) o h.1 in
      rw (append_assoc p (facts_of ps) us) (differ-append p (facts_of ps ++ us) (λ i j d l m e n. let less = up i j d l m in omega (arith, less, e)) inner
      (λ f g c d e n. let less = below_at number p (facts_of ps ++ us) f g h.0 c d in omega (arith, less, n)))

  -- facts of one key and one number are one
  pub differ_same : (xs : List F) → AllPairs Differ xs → (f g : F) → Contains xs f → Contains xs g → key f ≡ key g → number f ≡ number g → f ≡ g
  differ_same xs h f g c d e n = elim (cases_order c.0 d.0) [
    | inl same ↦ sym c.2 ∙ get_or_default xs c.0 f g c.1 ∙ ap (λ i. get_or xs i g) same ∙ d.2
    | inr either ↦ elim either [
      | inl less ↦
          let at : get_or xs d.0 f ≡ g = get_or_default xs d.0 f g d.1 ∙ d.2 in
          absurd (h c.0 d.0 f less d.1 (ap key c.2 ∙ e ∙ sym (ap key at)) (ap number c.2 ∙ n ∙ sym (ap number at)))
      | inr less ↦
          let at : get_or xs c.0 g ≡ f = get_or_default xs c.0 g f c.1 ∙ c.2 in
          absurd (h d.0 c.0 g less c.1 (ap key d.2 ∙ sym e ∙ sym (ap key at)) (ap number d.2 ∙ sym n ∙ sym (ap number at)))
    ]
  ]

module _ {F : Type 0} (key number : F → ℕ) (empty : F → Bool) where
  -- a table says what other facts say that are the same in another order
  pub says_as : (ps : List (List F)) (us others : List F) → IsLayered key number ps us → ((f : F) → Contains others f ↔ Contains (facts_of ps ++ us) f)
      → (elided : ℕ → Bool) (k : ℕ) → says key number empty (facts_of ps ++ us) elided k ≡ says key number empty others elided k
  says_as ps us others h same = alike_says key number empty others (facts_of ps ++ us) (λ k. sym (same_passing number (has_key key k) others (facts_of ps ++ us) same
      (λ f g c d p q n. differ_same key number (facts_of ps ++ us) (differ_layers key number ps us h.ascend h.ordered h.rises) f g c d (eqb-true (key f) k p ∙ sym (eqb-true (key g) k q)) n)))

-- other facts in place of the unflushed ones, and more behind all
pub moved_behind : {F : Type 0} (fs us vs ws : List F) → ((f : F) → Contains vs f ↔ (Contains us f ⊎ Contains ws f)) → (f : F) → Contains ((fs ++ us) ++ ws) f ↔ Contains (fs ++ vs) f
moved_behind fs us vs ws h f = (
  λ c. elim (Contains-append_cases (fs ++ us) ws f c) [
    | inl a ↦ elim (Contains-append_cases fs us f a) [ inl b ↦ Contains-append_left fs vs f b | inr b ↦ Contains-append_right fs vs f ((h f).1 (inl b)) ]
    | inr a ↦ Contains-append_right fs vs f ((h f).1 (inr a))
  ],
  λ c. elim (Contains-append_cases fs vs f c) [
    | inl a ↦ Contains-append_left (fs ++ us) ws f (Contains-append_left fs us f a)
    | inr a ↦ elim ((h f).0 a) [ inl b ↦ Contains-append_left (fs ++ us) ws f (Contains-append_right fs us f b) | inr b ↦ Contains-append_right (fs ++ us) ws f b ]
  ],
)

-- one more fact as a list of one
pub one_more : {F : Type 0} (us vs : List F) (y : F) → ((f : F) → Contains vs f ↔ (Contains us f ⊎ (f ≡ y))) → (f : F) → Contains vs f ↔ (Contains us f ⊎ Contains (y ∷ []) f)
one_more us vs y h f = (
  λ c. elim ((h f).0 c) [ inl a ↦ inl a | inr e ↦ inr (rw e (here y [])) ],
  λ c. elim c [ inl a ↦ (h f).1 (inl a) | inr a ↦ elim (either y f [] a) [ inl e ↦ (h f).1 (inr e) | inr n ↦ absurd (nowhere f n) ] ],
)

-- what follows from what holds at an Ok
pub from_ok : {T E : Type 0} (r : Result T E) (P Q : Type 0) → OnOk r P → (P → Q) → OnOk r Q
from_ok (Ok x) P Q h f = f h
from_ok (Err e) P Q h f = tt
