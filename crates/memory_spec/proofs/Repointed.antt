-- Facts that are repointed say the placed targets.
use Rattle.memory_spec.proofs.Prelude.{nat_tests, ◌≡◌, ℕ, ◌≤◌, Bool, true, false, List, refl, sym, ap, ◌∙◌, arith, inl, inr, subst, Option, Some, None, IfSome, option_map, option_and_then, if◌then◌else◌, Contains, eq-eqb, eqb-true, Facts, address_key, never, key_of, id_of, has_key, unless_empty, address, is_elided, Location, Target, AddressFact, not_both, same_some, AreDistinct, newest_of, newest_found, newest_over, no_newest, placed_target, repointed, AreRepointed}
use Rattle.pur_base.specs.declared.request.Table.TheVariants as table

-- the newest fact of a key
abbrev pub Newest : ℕ → List AddressFact → Option AddressFact
Newest k fs = newest_of address_key (λ f. f.seq.0) k fs

-- it is there, of that key, and no fact of the key is newer
newest_in : (k : ℕ) (fs : List AddressFact) (g : AddressFact) → Newest k fs ≡ Some g → Contains fs g × (address_key g ≡ k)
newest_in k fs g e =
    let found : IfSome (Some g) (λ f. Contains fs f × (has_key address_key k f ≡ true)) = rw e at (newest_found (λ (f : AddressFact). f.seq.0) (has_key address_key k) fs) in
    (found.0, eqb-true (address_key g) k found.1)

no_newer : (k : ℕ) (fs : List AddressFact) (g f : AddressFact) → Newest k fs ≡ Some g → Contains fs f → address_key f ≡ k → f.seq.0 ≤ g.seq.0
no_newer k fs g f e c is =
    let w = newest_over (λ (f : AddressFact). f.seq.0) (has_key address_key k) fs f c (eq-eqb (address_key f) k is) in
    subst (λ z. f.seq.0 ≤ z.seq.0) (same_some (Newest k fs) w.1 e) w.2

module _ (place : ℕ → Location) (old new : List AddressFact) (r : AreRepointed place old new) where
  -- the newest fact of a key isn't left out
  pub newest_stays : (k : ℕ) (g : AddressFact) → Newest k old ≡ Some g → Contains new (repointed place g)
  newest_stays k g e = elim (r.stays g (newest_in k old g e).0) [
    | inl c ↦ c
    | inr n ↦
        let most = no_newer k old g n.0 e n.1 (n.2 ∙ (newest_in k old g e).1) in
        absurd (omega (arith, most, n.3))
  ]

  module _ (distinct : AreDistinct (λ (f : AddressFact). f.seq.0) old) where
    pub newest_placed : (k : ℕ) → Newest k new ≡ option_map (repointed place) (Newest k old)
    newest_placed k = one (Newest k old) refl
      where
        one : (o : Option AddressFact) → Newest k old ≡ o → Newest k new ≡ option_map (repointed place) o
        one None e = no_newest address_key (λ f. f.seq.0) new k (λ f c is.
            let w = r.source f c in
            let key : address_key w.0 ≡ k = sym (ap address_key w.2) ∙ is in
            let over = newest_over (λ (f : AddressFact). f.seq.0) (has_key address_key k) old w.0 w.1 (eq-eqb (address_key w.0) k key) in
            not_both (Newest k old) over.1 e)
        one (Some g) e =
            let own = newest_in k old g e in
            let over = newest_over (λ (f : AddressFact). f.seq.0) (has_key address_key k) new (repointed place g) (newest_stays k g e) (eq-eqb (address_key g) k own.1) in
            let found = newest_in k new over.0 over.1 in
            let from = r.source over.0 found.0 in
            let key : address_key from.0 ≡ k = sym (ap address_key from.2) ∙ found.1 in
            let most = no_newer k old g from.0 e from.1 key in
            let number : over.0.seq.0 ≡ from.0.seq.0 = ap (λ z. z.seq.0) from.2 in
            let same : from.0 ≡ g = distinct from.0 g from.1 own.0 (omega (arith, most, number, over.2)) in
            over.1 ∙ ap (λ z. Some z) (from.2 ∙ ap (λ z. repointed place z) same)

-- what is said of a key, by its newest fact
abbrev Said : Bool → Option AddressFact → Option Target
Said b o = option_map (λ f. f.target) (if b then None else option_and_then (unless_empty never) o)

-- an address is the placed one
pub address_placed : (place : ℕ → Location) (old new : Facts) → AreRepointed place old.addresses new.addresses → AreDistinct (λ (f : AddressFact). f.seq.0) old.addresses → new.elisions ≡ old.elisions
    → (m x : ℕ) → address new m x ≡ option_map (placed_target place) (address old m x)
address_placed place old new r distinct elisions m x =
    ap (λ o. Said (is_elided new.elisions table.Address (id_of (key_of m x))) o) (newest_placed place old.addresses new.addresses r distinct (key_of m x))
    ∙ ap (λ l. Said (is_elided l table.Address (id_of (key_of m x))) (option_map (repointed place) (Newest (key_of m x) old.addresses))) elisions
    ∙ one (is_elided old.elisions table.Address (id_of (key_of m x))) (Newest (key_of m x) old.addresses)
  where
    one : (b : Bool) (o : Option AddressFact) → Said b (option_map (repointed place) o) ≡ option_map (placed_target place) (Said b o)
    one true o = refl
    one false None = refl
    one false (Some g) = refl

-- a visible address is of a fact that stays
pub visible_stays : (place : ℕ → Location) (old new : Facts) → AreRepointed place old.addresses new.addresses → (m x : ℕ) (t : Target) → address old m x ≡ Some t
    → (g : AddressFact) × Contains old.addresses g × Contains new.addresses (repointed place g) × (g.target ≡ t)
visible_stays place old new r m x t e = grind (arith, nat_tests, option_map, option_and_then, true, false, newest_in, newest_stays, same_some)
