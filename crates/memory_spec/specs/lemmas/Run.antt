-- The facts of a run of addresses, and what the addresses are once it was added.
use Rattle.std.proofs.lemmas.Bool.Decides.{nat_tests}
use Rattle.std.proofs.Common.{◌≡◌, ◌⊎◌, ◌↔◌, ℕ, zero, suc, ◌+◌, ◌-◌, ◌<◌, ◌≤◌, false, List, [], ◌∷◌, length, refl, sym, ap, ◌∙◌, arith, inl, inr, subst, Option, Some, None, option_map, option_and_then, slice_get, get_or, if◌then◌else◌, Contains, nat_le, nat_lt, eqb-true, leb-true, ltb-true}
use Rattle.std.proofs.lemmas.Bool.{cases_lt, cases_eq, and_parts}
use Rattle.std.proofs.lemmas.Option.{slice_get_past, slice_get_within, slice_get-get_or}
use Rattle.array_spec.specs.Prelude.{Facts, address_key, never, key_of, id_of, unless_empty, address, is_elided, OBJECT_SECTORS, Target, Zero, AddressFact, not_both, same_some}
use Rattle.pur_base.specs.declared.request.Table.TheVariants as table
use Rattle.pyramid.specs.Prelude.{AreDistinct, newest_of, here, there, either, nowhere, id_of_key}
use Rattle.memory_spec.specs.Adding.{address_facts, overlaid}
use Rattle.memory_spec.specs.lemmas.Adding.{only_newest, no_newest, newest_kept, newest_given}
use Rattle.memory_spec.specs.lemmas.Overlay.{overlaid_out, overlaid_in}

abbrev pub fact : ℕ → ℕ → Target → ℕ → AddressFact
fact medium sector t number = record { medium = record { 0 = medium }; sector = sector; target = t; seq = record { 0 = number } }

fact_same : (medium x y n k : ℕ) (t : Target) → x ≡ y → n ≡ k → fact medium x t n ≡ fact medium y t k
fact_same medium x y n k t e f = ap (λ z. fact medium z t n) e ∙ ap (λ z. fact medium y t z) f

-- the run has a fact of each target
pub in_run : (medium sector number : ℕ) (ts : List Target) (j x n : ℕ) (t : Target) → slice_get ts j ≡ Some t → x ≡ sector + j → n ≡ number + j
    → Contains (address_facts medium sector number ts) (fact medium x t n)
in_run medium sector number [] j x n t e p q = absurd (not_both (slice_get [] j) e (slice_get_past [] j (omega arith)))
in_run medium sector number (u ∷ ts) zero x n t e p q =
    let same : u ≡ t = same_some (Some u) refl e in
    subst (λ f. Contains (address_facts medium sector number (u ∷ ts)) f) (fact_same medium sector x number n u (omega (arith, p)) (omega (arith, q)) ∙ ap (λ z. fact medium x z n) same)
    (here (fact medium sector u number) (address_facts medium (sector + 1) (number + 1) ts))
in_run medium sector number (u ∷ ts) (suc j) x n t e p q =
    there (fact medium sector u number) (fact medium x t n) (address_facts medium (sector + 1) (number + 1) ts)
    (in_run medium (sector + 1) (number + 1) ts j x n t e (omega (arith, p)) (omega (arith, q)))

-- what a fact of the run is
pub record IsOfRun (medium sector number : ℕ) (ts : List Target) (f : AddressFact) : Type 0 where
  pub place : ℕ
  pub target : Target
  pub at : slice_get ts place ≡ Some target
  pub is : f ≡ fact medium (sector + place) target (number + place)

-- and each of its facts is of one
pub of_run : (medium sector number : ℕ) (ts : List Target) (f : AddressFact) → Contains (address_facts medium sector number ts) f → IsOfRun medium sector number ts f
of_run medium sector number [] f c = absurd (nowhere f c)
of_run medium sector number (u ∷ ts) f c = elim (either (fact medium sector u number) f (address_facts medium (sector + 1) (number + 1) ts) c) [
  | inl same ↦ record { place = 0; target = u; at = refl; is = same ∙ fact_same medium sector (sector + 0) number (number + 0) u (omega arith) (omega arith) }
  | inr rest ↦
      let w = of_run medium (sector + 1) (number + 1) ts f rest in
      record { place = suc w.place; target = w.target; at = w.at; is = w.is ∙ fact_same medium (sector + 1 + w.place) (sector + suc w.place) (number + 1 + w.place) (number + suc w.place) w.target (omega arith) (omega arith) }
]

module _ (medium sector number : ℕ) (ts : List Target) where
  abbrev Run : List AddressFact
  Run = address_facts medium sector number ts

  -- the numbers of a run tell its facts apart
  pub run_distinct : AreDistinct (λ f. f.seq.0) (address_facts medium sector number ts)
  run_distinct f g c d e =
      let v = of_run medium sector number ts f c in
      let w = of_run medium sector number ts g d in
      let numbers : number + v.place ≡ number + w.place = sym (ap (λ z. z.seq.0) v.is) ∙ e ∙ ap (λ z. z.seq.0) w.is in
      let places : v.place ≡ w.place = omega (arith, numbers) in
      let targets : v.target ≡ w.target = same_some (slice_get ts w.place) (subst (λ j. slice_get ts j ≡ Some v.target) places v.at) w.at in
      v.is ∙ fact_same medium (sector + v.place) (sector + w.place) (number + v.place) (number + w.place) v.target (omega (arith, places)) numbers ∙ ap (λ t. fact medium (sector + w.place) t (number + w.place)) targets ∙ sym w.is

  module _ (small : sector + length ts ≤ OBJECT_SECTORS) where
    -- a key of its own for each
    one_of_key : (x : ℕ) (t : Target) → sector ≤ x → slice_get ts (x - sector) ≡ Some t
        → newest_of address_key (λ f. f.seq.0) (key_of medium x) (address_facts medium sector number ts) ≡ Some (fact medium x t (number + (x - sector)))
    one_of_key x t low e = only_newest address_key (λ f. f.seq.0) (address_facts medium sector number ts) (key_of medium x) (fact medium x t (number + (x - sector)))
        (in_run medium sector number ts (x - sector) x (number + (x - sector)) t e (omega (arith, low)) refl) refl same
      where
        same : (f : AddressFact) → Contains (address_facts medium sector number ts) f → address_key f ≡ key_of medium x → f ≡ fact medium x t (number + (x - sector))
        same f c key =
            let w = of_run medium sector number ts f c in
            let own : key_of medium (sector + w.place) ≡ key_of medium x = sym (ap address_key w.is) ∙ key in
            let at : w.place ≡ x - sector = omega (arith, own, low) in
            let targets : w.target ≡ t = same_some (slice_get ts (x - sector)) (subst (λ j. slice_get ts j ≡ Some w.target) at w.at) e in
            w.is ∙ fact_same medium (sector + w.place) x (number + w.place) (number + (x - sector)) w.target (omega (arith, own)) (omega (arith, at)) ∙ ap (λ z. fact medium x z (number + (x - sector))) targets

    none_of_key : (m x : ℕ) → x < OBJECT_SECTORS → (m ≡ medium → (x < sector) ⊎ (sector + length ts ≤ x))
        → newest_of address_key (λ f. f.seq.0) (key_of m x) (address_facts medium sector number ts) ≡ None
    none_of_key m x l out = no_newest address_key (λ f. f.seq.0) (address_facts medium sector number ts) (key_of m x) none
      where
        none : (f : AddressFact) → Contains (address_facts medium sector number ts) f → address_key f ≡ key_of m x → ⊥
        none f c key =
            let w = of_run medium sector number ts f c in
            let within : w.place < length ts = slice_get_within ts w.place w.target w.at in
            let own : key_of medium (sector + w.place) ≡ key_of m x = sym (ap address_key w.is) ∙ key in
            let medium_is : m ≡ medium = omega (arith, own, within, small, l) in
            let place_is : x ≡ sector + w.place = omega (arith, own, within, small, l) in
            elim (out medium_is) [ inl low ↦ omega (arith, low, place_is) | inr high ↦ omega (arith, high, place_is, within) ]

    module _ (old new : Facts) (elisions : new.elisions ≡ old.elisions) (kept : is_elided old.elisions table.Address medium ≡ false)
        (added : (f : AddressFact) → Contains new.addresses f ↔ (Contains old.addresses f ⊎ Contains (address_facts medium sector number ts) f))
        (below : (f g : AddressFact) → Contains old.addresses f → Contains (address_facts medium sector number ts) g → f.seq.0 < g.seq.0)
        (distinct : AreDistinct (λ f. f.seq.0) old.addresses) where
      -- what is said of a key, by its newest fact
      abbrev Said : Facts → ℕ → Option AddressFact → Option Target
      Said f k o = option_map (λ g. g.target) (if is_elided f.elisions table.Address (id_of k) then None else option_and_then (unless_empty never) o)

      outside : (m x : ℕ) → x < OBJECT_SECTORS → (m ≡ medium → (x < sector) ⊎ (sector + length ts ≤ x)) → address new m x ≡ address old m x
      outside m x l out =
          ap (λ o. Said new (key_of m x) o) (newest_kept address_key (λ f. f.seq.0) old.addresses new.addresses (address_facts medium sector number ts) added below distinct run_distinct (key_of m x) (none_of_key m x l out))
          ∙ ap (λ e. option_map (λ (g : AddressFact). g.target) (if is_elided e table.Address (id_of (key_of m x)) then None else option_and_then (unless_empty never) (newest_of address_key (λ f. f.seq.0) (key_of m x) old.addresses))) elisions

      inside : (x : ℕ) (t : Target) → x < OBJECT_SECTORS → sector ≤ x → slice_get ts (x - sector) ≡ Some t → address new medium x ≡ Some t
      inside x t l low e =
          let id : id_of (key_of medium x) ≡ medium = id_of_key medium x (omega (arith, l)) in
          ap (λ o. Said new (key_of medium x) o) (newest_given address_key (λ f. f.seq.0) old.addresses new.addresses (address_facts medium sector number ts) added below distinct run_distinct (key_of medium x)
          (fact medium x t (number + (x - sector))) (one_of_key x t low e))
          ∙ ap (λ b. option_map (λ (g : AddressFact). g.target) (if b then None else Some (fact medium x t (number + (x - sector)))))
          (ap (λ i. is_elided new.elisions table.Address i) id ∙ ap (λ l. is_elided l table.Address medium) elisions ∙ kept)

      -- the addresses are those of before, with the targets in their span
      pub address_put : (m x : ℕ) → x < OBJECT_SECTORS → address new m x ≡ overlaid medium sector ts (address old) m x
      address_put m x l = elim (cases_eq m medium) [
        | inr ne ↦ outside m x l (λ e. absurd (ne e)) ∙ sym (overlaid_out medium sector ts (address old) m x (λ e. absurd (ne e)))
        | inl same ↦ elim (cases_lt x sector) [
          | inl low ↦ outside m x l (λ e. inl low) ∙ sym (overlaid_out medium sector ts (address old) m x (λ e. inl low))
          | inr from ↦ elim (cases_lt x (sector + length ts)) [
            | inr high ↦ outside m x l (λ e. inr high) ∙ sym (overlaid_out medium sector ts (address old) m x (λ e. inr high))
            | inl within ↦
                let at : slice_get ts (x - sector) ≡ Some (get_or ts (x - sector) Zero) = slice_get-get_or ts (x - sector) Zero (omega (arith, from, within)) in
                subst (λ n. address new n x ≡ overlaid medium sector ts (address old) n x) (sym same)
                (inside x (get_or ts (x - sector) Zero) l from at ∙ sym (overlaid_in medium sector ts (address old) x from within ∙ at))
          ]
        ]
      ]

-- an address of them all is an old one, or one of the span
pub overlaid_is : (medium lba : ℕ) (ts : List Target) (before : ℕ → ℕ → Option Target) (m x : ℕ) (t : Target) → overlaid medium lba ts before m x ≡ Some t
    → (before m x ≡ Some t) ⊎ ((m ≡ medium) × (lba ≤ x) × (x < lba + length ts) × (slice_get ts (x - lba) ≡ Some t))
overlaid_is medium lba ts before m x t e = grind (arith, nat_tests, nat_le, nat_lt, slice_get, and_parts, eqb-true, leb-true, ltb-true)
