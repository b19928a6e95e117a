-- Runs of facts and their numbers.
use Rattle.std.proofs.Common.{◌≡◌, ◌≢◌, ◌⊎◌, ℕ, ◌+◌, ◌<◌, ◌≤◌, List, [], ◌∷◌, ◌++◌, ap, ◌∙◌, arith, inl, inr, All, Contains, Option, Result, Ok, Err, OnOk, ◌↔◌, append-nil}
use Rattle.std.proofs.lemmas.List.Elements.{All-push, All-contains, Contains-append_left, Contains-append_right, Contains-append_cases}
use Rattle.pyramid.specs.Prelude.{key_of, Ascends, address_key, never, AddressFact, AreBelow, facts_of, patch_facts, patches_of, all_below, all_contained, ascends_push}
use Rattle.pyramid.proofs.PlaceLemmas.{facts_append, facts_patches}
use Rattle.storage_bench.specs.Numbers.{AreAmong}

-- the first facts of a run
pub record IsRun (medium sector first n : ℕ) (facts : List AddressFact) : Type 0 where
  pub ascends : Ascends address_key facts
  pub keys : All (λ f. address_key f < key_of medium (sector + n)) facts
  pub numbers : AreAmong first n facts

pub run_next : (medium sector first n : ℕ) (facts : List AddressFact) (f : AddressFact) → f.medium.0 ≡ medium → f.sector ≡ sector + n → f.seq.0 ≡ first + n → IsRun medium sector first n facts
    → IsRun medium sector first (n + 1) (facts ++ f ∷ [])
run_next medium sector first n facts f m s q h = record {
  ascends = ascends_push address_key (λ (f : AddressFact). f.seq.0) never facts f (λ i d l. let less = h.keys i d l in omega (arith, less, m, s)) h.ascends;
  keys = All-push (λ f. address_key f < key_of medium (sector + (n + 1))) facts f (λ i d l. let less = h.keys i d l in omega (arith, less)) (omega (arith, m, s));
  numbers = All-push (λ f. (first ≤ f.seq.0) × (f.seq.0 < first + (n + 1))) facts f (λ i d l. let in_it = h.numbers i d l in (in_it.0, omega (arith, in_it.1))) (omega (arith, q), omega (arith, q));
}

number : AddressFact → ℕ
number f = f.seq.0

module _ (ps : List (List AddressFact)) (us run : List AddressFact) (first count : ℕ) (below : All (λ f. f.seq.0 < first) (facts_of ps ++ us)) (among : AreAmong first count run) where
  pub run_fresh : (f g : AddressFact) → Contains run f → Contains us g → f.seq.0 ≢ g.seq.0
  run_fresh f g c d e =
      let low = (All-contains (λ f. (first ≤ f.seq.0) × (f.seq.0 < first + count)) run f among c).0 in
      let high = All-contains (λ f. f.seq.0 < first) (facts_of ps ++ us) g below (Contains-append_right (facts_of ps) us g d) in
      omega (arith, low, high, e)

  pub run_rising : AreBelow (λ f. f.seq.0) (facts_of ps) run
  run_rising = all_below (λ f. f.seq.0) (facts_of ps) run (λ f g c d.
      let low = (All-contains (λ f. (first ≤ f.seq.0) × (f.seq.0 < first + count)) run g among d).0 in
      let high = All-contains (λ f. f.seq.0 < first) (facts_of ps ++ us) f below (Contains-append_left (facts_of ps) us f c) in
      omega (arith, low, high))

  pub run_below : (new : List AddressFact) → ((f : AddressFact) → Contains new f ↔ (Contains us f ⊎ Contains run f)) → All (λ f. f.seq.0 < first + count) (facts_of ps ++ new)
  run_below new taken = all_contained (λ f. f.seq.0 < first + count) (facts_of ps ++ new) (λ f c. elim (Contains-append_cases (facts_of ps) new f c) [
    | inl a ↦ let less = All-contains (λ f. f.seq.0 < first) (facts_of ps ++ us) f below (Contains-append_left (facts_of ps) us f a) in omega (arith, less)
    | inr b ↦ elim ((taken f).0 b) [
      | inl a ↦ let less = All-contains (λ f. f.seq.0 < first) (facts_of ps ++ us) f below (Contains-append_right (facts_of ps) us f a) in omega (arith, less)
      | inr d ↦ (All-contains (λ f. (first ≤ f.seq.0) × (f.seq.0 < first + count)) run f among d).1
    ]
  ])

pub flush_below : (ps : List (List AddressFact)) (us : List AddressFact) (patch : Option (List AddressFact)) (next : ℕ) → ((f : AddressFact) → Contains (patch_facts patch) f → Contains us f)
    → All (λ f. f.seq.0 < next) (facts_of ps ++ us) → All (λ f. f.seq.0 < next) (facts_of (ps ++ patches_of patch) ++ [])
flush_below ps us patch next source below =
    let is : facts_of (ps ++ patches_of patch) ++ [] ≡ facts_of ps ++ patch_facts patch = append-nil (facts_of (ps ++ patches_of patch)) ∙ facts_append ps (patches_of patch) ∙ ap (λ fs. facts_of ps ++ fs) (facts_patches patch) in
    rw is (all_contained (λ (f : AddressFact). f.seq.0 < next) (facts_of ps ++ patch_facts patch) (λ f c. elim (Contains-append_cases (facts_of ps) (patch_facts patch) f c) [
      | inl a ↦ All-contains (λ f. f.seq.0 < next) (facts_of ps ++ us) f below (Contains-append_left (facts_of ps) us f a)
      | inr b ↦ All-contains (λ f. f.seq.0 < next) (facts_of ps ++ us) f below (Contains-append_right (facts_of ps) us f (source f b))
    ]))

pub on_any : {T E : Type 0} (r : Result T E) (P : Type 0) → P → OnOk r P
on_any (Ok x) P p = p
on_any (Err e) P p = tt
