-- What ranges lead to.
use Rattle.medium_table.proofs.Prelude.{nat_tests, ◌≡◌, ◌⊎◌, ◌↔◌, ℕ, suc, ◌<◌, ◌≤◌, List, length, get_or, refl, sym, ap, subst, ◌∙◌, arith, inl, inr, Contains, IsNonDecreasingBy, cases_lt, get_or_default, MediumId, MediumFact, medium_of, LeadsTo, itself, onward, IsReached}
use Rattle.medium_table.proofs.IdLemmas.{one_id}

module _ (P : MediumFact → Type 0) where
  -- one range more at the end
  pub leads_further : (a b : ℕ) (r : MediumFact) → P r → b ≡ r.medium.0 → LeadsTo P a b → LeadsTo P a r.target.0
  leads_further a b r p e itself = subst (λ (x : ℕ). LeadsTo P x r.target.0) (sym e) (onward r p itself)
  leads_further a b r p e (onward s q rest) = onward s q (leads_further s.target.0 b r p e rest)

  -- what is closed under the ranges has all that its members lead to
  pub closed_leads : (reached : List MediumId) → ((r : MediumFact) → P r → Contains reached r.medium → Contains reached r.target)
      → (a b : ℕ) → LeadsTo P a b → (m n : MediumId) → m.0 ≡ a → n.0 ≡ b → Contains reached m → Contains reached n
  closed_leads reached closed a b itself m n p q c = subst (λ (x : MediumId). Contains reached x) (one_id m n (p ∙ sym q)) c
  closed_leads reached closed a b (onward r is rest) m n p q c =
      closed_leads reached closed r.target.0 b rest r.target n refl q (closed r is (subst (λ (x : MediumId). Contains reached x) (one_id m r.medium p) c))

  pub leads_wider : (Q : MediumFact → Type 0) → ((r : MediumFact) → P r → Q r) → (a b : ℕ) → LeadsTo P a b → LeadsTo Q a b
  leads_wider Q h a b itself = itself
  leads_wider Q h a b (onward r p rest) = onward r (h r p) (leads_wider Q h r.target.0 b rest)

module _ (ranges : List MediumFact) (old new : List MediumId) (i p : ℕ) (x : MediumFact) where
  -- one range more, to whose medium nothing leads
  pub closed_past : i ≡ suc p → x ≡ get_or ranges p x → (Contains old x.medium → ⊥)
      → ((j : ℕ) (d : MediumFact) → i ≤ j → j < length ranges → Contains old (get_or ranges j d).medium → Contains old (get_or ranges j d).target)
      → (j : ℕ) (d : MediumFact) → p ≤ j → j < length ranges → Contains old (get_or ranges j d).medium → Contains old (get_or ranges j d).target
  closed_past step is absent closed j d le l c = elim (cases_lt p j) [
    | inl past ↦ closed j d (omega (arith, step, past)) l c
    | inr at ↦ grind (arith, nat_tests, get_or, get_or_default)
  ]

  -- one range more, whose target is added
  pub closed_more : i ≡ suc p → x ≡ get_or ranges p x → IsNonDecreasingBy medium_of ranges → x.target.0 < x.medium.0
      → ((m : MediumId) → Contains new m ↔ (Contains old m ⊎ (m ≡ x.target)))
      → ((j : ℕ) (d : MediumFact) → i ≤ j → j < length ranges → Contains old (get_or ranges j d).medium → Contains old (get_or ranges j d).target)
      → (j : ℕ) (d : MediumFact) → p ≤ j → j < length ranges → Contains new (get_or ranges j d).medium → Contains new (get_or ranges j d).target
  closed_more step is rise down more closed j d le l c =
      let here : get_or ranges p d ≡ x = get_or_default ranges p d x (omega (arith, le, l)) ∙ sym is in
      elim (cases_lt p j) [
        | inl past ↦ elim ((more (get_or ranges j d).medium).0 c) [
          | inl before ↦ (more (get_or ranges j d).target).1 (inl (closed j d (omega (arith, step, past)) l before))
          | inr same ↦ grind (arith, nat_tests, get_or, here)
        ]
        | inr at ↦
            let same : j ≡ p = omega (arith, le, at) in
            (more (get_or ranges j d).target).1 (inr (ap (λ n. (get_or ranges n d).target) same ∙ ap (λ y. y.target) here))
      ]

  -- and is reached
  pub sound_more : (first : List MediumId) → Contains ranges x → Contains old x.medium → ((m : MediumId) → Contains new m ↔ (Contains old m ⊎ (m ≡ x.target)))
      → ((m : MediumId) → Contains old m → IsReached (Contains ranges) first m) → (m : MediumId) → Contains new m → IsReached (Contains ranges) first m
  sound_more first there has more sound m c = elim ((more m).0 c) [
    | inl before ↦ sound m before
    | inr same ↦
        let r = sound x.medium has in
        (r.0, r.1, subst (λ (y : MediumId). LeadsTo (Contains ranges) r.0.0 y.0) (sym same) (leads_further (Contains ranges) r.0.0 x.medium.0 x there refl r.2))
  ]

-- what is closed under the ranges, and has no more than is reached by them, is what is reached
pub all_reached : (IsRange : MediumFact → Type 0) (from found : List MediumId) → ((m : MediumId) → Contains from m → Contains found m)
    → ((r : MediumFact) → IsRange r → Contains found r.medium → Contains found r.target) → ((m : MediumId) → Contains found m → IsReached IsRange from m)
    → (m : MediumId) → Contains found m ↔ IsReached IsRange from m
all_reached IsRange from found kept closed sound m = (sound m, (λ r. closed_leads IsRange found closed r.0.0 m.0 r.2 r.0 m refl refl (kept r.0 r.1)))

-- ranges that are the same reach the same
pub same_reached : (P Q : MediumFact → Type 0) (from : List MediumId) (m : MediumId) → ((r : MediumFact) → P r ↔ Q r) → IsReached P from m ↔ IsReached Q from m
same_reached P Q from m same = (
  (λ r. (r.0, r.1, leads_wider P Q (λ s. (same s).0) r.0.0 m.0 r.2)),
  (λ r. (r.0, r.1, leads_wider Q P (λ s. (same s).1) r.0.0 m.0 r.2)),
)
