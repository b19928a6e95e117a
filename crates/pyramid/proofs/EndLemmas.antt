-- The first and the last key of facts.
use Rattle.pyramid.proofs.Prelude.{nat_tests, ◌≡◌, ◌⊎◌, ◌++◌, ◌∙◌, ℕ, ◌+◌, ◌-◌, ◌<◌, ◌≤◌, List, length, get_or, take, refl, sym, ap, arith, inl, inr, Contains, Option, Some, None, IfSome, option_and_then, if◌then◌else◌, Bool, true, false, ne_eqb, eqb-true, cases_lt, Contains-append_left, Contains-append_right, Contains-append_cases, Contains-get_or, id_of, has_key, says, unless_empty, facts_of, newest_of, IsOrdered, newest_none, newest_found}
use Rattle.pyramid.specs.Ends.{IsFirstSaid, IsLastSaid}
use Rattle.pyramid.proofs.SearchLemmas.{rises}
use Rattle.pyramid.proofs.SpanLemmas.{facts_more}

module _ {F : Type 0} (key number : F → ℕ) where
  -- the last of the facts up to a key
  pub last_in : (fs : List F) (to e : ℕ) (x f : F) → IsOrdered key number fs → 0 < e → e ≤ length fs
      → ((i : ℕ) (d : F) → e ≤ i → i < length fs → to < key (get_or fs i d)) → x ≡ get_or fs (e - 1) x → Contains fs f → key f ≤ to → key f ≤ key x
  last_in fs to e x f ordered some within above is c le = elim (cases_lt c.0 e) [
    | inl before ↦
        let up = rises key number fs c.0 (e - 1) f x ordered (omega (arith, before)) (omega (arith, some, within)) is in
        let same = ap key c.2 in
        omega (arith, up, same)
    | inr after ↦
        let up = above c.0 f after c.1 in
        let same = ap key c.2 in
        absurd (omega (arith, up, same, le))
  ]

  -- the facts up to a key are none

  -- the first of the facts from a key on
  pub first_in : (fs : List F) (from s : ℕ) (x f : F) → IsOrdered key number fs → s < length fs
      → ((i : ℕ) (d : F) → i < s → key (get_or fs i d) < from) → x ≡ get_or fs s x → Contains fs f → from ≤ key f → key x ≤ key f
  first_in fs from s x f ordered less below is c le = elim (cases_lt c.0 s) [
    | inl before ↦
        let down = below c.0 f before in
        let same = ap key c.2 in
        absurd (omega (arith, down, same, le))
    | inr after ↦ rw (← is) at (rises key number fs s c.0 x f ordered after c.1 (sym c.2))
  ]

  -- what holds of the facts of a patch more
  pub hold_more : (P : F → Type 0) (ps : List (List F)) (i : ℕ) (p : List F) → i < length ps → p ≡ get_or ps i p
      → ((f : F) → Contains (facts_of (take i ps)) f → P f) → ((f : F) → Contains p f → P f) → (f : F) → Contains (facts_of (take (i + 1) ps)) f → P f
  hold_more P ps i p l is older here f c =
      let more = facts_more key number ps i p l is in
      elim (Contains-append_cases (facts_of (take i ps)) p f (rw more at c)) [ inl a ↦ older f a | inr b ↦ here f b ]

module _ {F : Type 0} (key number : F → ℕ) where
  -- a key is the first one, or that of one of the facts
  abbrev pub IsOneOf : ℕ → List F → ℕ → Type 0
  IsOneOf first fs k = (k ≡ first) ⊎ ((f : F) × Contains fs f × (key f ≡ k))

  -- the same with a patch more
  pub one_of_more : (ps : List (List F)) (i : ℕ) (p us : List F) (first old new : ℕ) → i < length ps → p ≡ get_or ps i p
      → IsOneOf first (facts_of (take i ps) ++ us) old → IsOneOf old p new → IsOneOf first (facts_of (take (i + 1) ps) ++ us) new
  one_of_more ps i p us first old new l is before here = one here
    where
      wider : (f : F) → Contains (facts_of (take i ps) ++ us) f → Contains (facts_of (take (i + 1) ps) ++ us) f
      wider f c = elim (Contains-append_cases (facts_of (take i ps)) us f c) [
        | inl a ↦ Contains-append_left (facts_of (take (i + 1) ps)) us f (rw (facts_more key number ps i p l is) (Contains-append_left (facts_of (take i ps)) p f a))
        | inr b ↦ Contains-append_right (facts_of (take (i + 1) ps)) us f b
      ]

      two : new ≡ old → IsOneOf first (facts_of (take i ps) ++ us) old → IsOneOf first (facts_of (take (i + 1) ps) ++ us) new
      two same (inl e) = inl (same ∙ e)
      two same (inr (f, c, e)) = inr (f, wider f c, e ∙ sym same)

      one : IsOneOf old p new → IsOneOf first (facts_of (take (i + 1) ps) ++ us) new
      one (inl same) = two same before
      one (inr (f, c, e)) = inr (f, Contains-append_left (facts_of (take (i + 1) ps)) us f (rw (facts_more key number ps i p l is) (Contains-append_right (facts_of (take i ps)) p f c)), e)

module _ {F : Type 0} (key number : F → ℕ) (empty : F → Bool) where
  -- nothing is said of a key that no fact has
  pub unsaid : (fs : List F) (elided : ℕ → Bool) (k : ℕ) → ((f : F) → Contains fs f → key f ≡ k → ⊥) → says key number empty fs elided k ≡ None
  unsaid fs elided k h = one (elided (id_of k)) (newest_of key number k fs) none
    where
      none : newest_of key number k fs ≡ None
      none = newest_none number (has_key key k) fs (λ i d l. ne_eqb _ _ (h (get_or fs i d) (Contains-get_or fs i d l)))

      one : (b : Bool) (o : Option F) → o ≡ None → (if b then None else option_and_then (unless_empty empty) o) ≡ None
      one true o e = refl
      one false o e = rw e refl

  -- what is said of a key has it
  pub said_key : (fs : List F) (elided : ℕ → Bool) (k : ℕ) (f : F) → says key number empty fs elided k ≡ Some f → key f ≡ k
  said_key fs elided k f e = one (elided (id_of k)) (newest_of key number k fs) (newest_found number (has_key key k) fs) e
    where
      two : (g : F) (b : Bool) → key g ≡ k → (if b then None else Some g) ≡ Some f → key f ≡ k
      two g true h e = cc
      two g false h e = let same : g ≡ f = cc in rw same at h

      one : (b : Bool) (o : Option F) → IfSome o (λ g. Contains fs g × (has_key key k g ≡ true)) → (if b then None else option_and_then (unless_empty empty) o) ≡ Some f → key f ≡ k
      one true o h e = cc
      one false None h e = cc
      one false (Some g) h e = two g (empty g) (eqb-true (key g) k h.1) e

  -- no facts behind a key, up to an end behind which nothing is said
  pub silent_from : (fs : List F) (elided : ℕ → Bool) (to end at : ℕ) → ((g : F) → Contains fs g → key g ≤ end → key g ≤ at)
      → ((k : ℕ) → end < k → k ≤ to → says key number empty fs elided k ≡ None) → (k : ℕ) → at < k → k ≤ to → says key number empty fs elided k ≡ None
  silent_from fs elided to end at last silent k less le = elim (cases_lt end k) [
    | inl past ↦ silent k past le
    | inr not_past ↦ unsaid fs elided k (λ g c e. let small = last g c (omega (arith, e, not_past)) in omega (arith, small, e, less))
  ]

  -- and nothing at it either
  pub silent_at : (fs : List F) (elided : ℕ → Bool) (to end at : ℕ) → ((g : F) → Contains fs g → key g ≤ end → key g ≤ at)
      → ((k : ℕ) → end < k → k ≤ to → says key number empty fs elided k ≡ None) → says key number empty fs elided at ≡ None
      → (k : ℕ) → at ≤ k → k ≤ to → says key number empty fs elided k ≡ None
  silent_at fs elided to end at last silent none k low le = elim (cases_lt at k) [
    | inl less ↦ silent_from fs elided to end at last silent k less le
    | inr not_less ↦ (let same : at ≡ k = omega (arith, low, not_less) in rw (← same) none)
  ]

  pub last_said : (fs : List F) (elided : ℕ → Bool) (from to end at : ℕ) (f : F) → from ≤ at → at ≤ end → end ≤ to → ((g : F) → Contains fs g → key g ≤ end → key g ≤ at)
      → ((k : ℕ) → end < k → k ≤ to → says key number empty fs elided k ≡ None) → says key number empty fs elided at ≡ Some f → IsLastSaid key (says key number empty fs elided) from to f
  last_said fs elided from to end at f low high within last silent e =
      let same : key f ≡ at = said_key fs elided at f e in
      record {
        begun = omega (arith, same, low);
        within = omega (arith, same, high, within);
        is_said = rw same e;
        behind = λ k less le. silent_from fs elided to end at last silent k (omega (arith, same, less)) le;
      }

  -- no facts in front of a key, from a start on in front of which nothing is said
  pub silent_up_to : (fs : List F) (elided : ℕ → Bool) (from start at : ℕ) → ((g : F) → Contains fs g → start ≤ key g → at ≤ key g)
      → ((k : ℕ) → from ≤ k → k < start → says key number empty fs elided k ≡ None) → (k : ℕ) → from ≤ k → k < at → says key number empty fs elided k ≡ None
  silent_up_to fs elided from start at first silent k le less = grind (arith, nat_tests, unsaid)

  -- and nothing at it either
  pub silent_through : (fs : List F) (elided : ℕ → Bool) (from start at : ℕ) → ((g : F) → Contains fs g → start ≤ key g → at ≤ key g)
      → ((k : ℕ) → from ≤ k → k < start → says key number empty fs elided k ≡ None) → says key number empty fs elided at ≡ None
      → (k : ℕ) → from ≤ k → k ≤ at → says key number empty fs elided k ≡ None
  silent_through fs elided from start at first silent none k low le = elim (cases_lt k at) [
    | inl less ↦ silent_up_to fs elided from start at first silent k low less
    | inr not_less ↦ (let same : at ≡ k = omega (arith, le, not_less) in rw (← same) none)
  ]

  pub first_said : (fs : List F) (elided : ℕ → Bool) (from to start at : ℕ) (f : F) → from ≤ start → start ≤ at → at ≤ to → ((g : F) → Contains fs g → start ≤ key g → at ≤ key g)
      → ((k : ℕ) → from ≤ k → k < start → says key number empty fs elided k ≡ None) → says key number empty fs elided at ≡ Some f → IsFirstSaid key (says key number empty fs elided) from to f
  first_said fs elided from to start at f low high within first silent e =
      let same : key f ≡ at = said_key fs elided at f e in
      record {
        begun = omega (arith, same, low, high);
        within = omega (arith, same, within);
        is_said = rw same e;
        before = λ k le less. silent_up_to fs elided from start at first silent k le (omega (arith, same, less));
      }
