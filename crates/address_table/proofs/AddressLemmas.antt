-- What facts of addresses say.
use Rattle.address_table.proofs.Prelude.{◌≡◌, ℕ, ◌+◌, ◌^◌, ◌≤◌, arith, inl, inr, Bool, true, false, List, ◌++◌, refl, sym, ap, ◌∙◌, Option, Some, None, if◌then◌else◌, option_and_then, option_or, AddressFact, Facts, address_key, never, id_of, key_of, says, unless_empty, address, is_within, AreElidedRanges, newest_of, AreBelow, within_elided, number, target_of}
use Rattle.pyramid.specs.Prelude.{id_of_key}
use Rattle.pur_base.specs.declared.request.Table.TheVariants as table
use Rattle.std.specs.Prelude.{slice_get}
use Rattle.std.proofs.lemmas.Option.{slice_get_cases}
use Rattle.pyramid.proofs.WalkLemmas.{newer_over}
use Rattle.pyramid.specs.Runs.{IsNewestRun}
use Rattle.address_table.specs.Addresses.{IsVisibleRun}

unless_never : (o : Option AddressFact) → option_and_then (unless_empty never) o ≡ o
unless_never None = refl
unless_never (Some f) = refl

-- what is visible is the newest, unless it is elided
pub visible_newest : (facts : List AddressFact) (elided : ℕ → Bool) (k : ℕ) → says address_key number never facts elided k ≡ (if elided (id_of k) then None else newest_of address_key number k facts)
visible_newest facts elided k = ap (λ o. if elided (id_of k) then None else o) (unless_never (newest_of address_key number k facts))

key_behind : (medium sector i : ℕ) → key_of medium (sector + i) ≡ key_of medium sector + i
key_behind medium sector i = omega arith

-- what is visible of sectors is the newest of each
pub newest_run : (facts : List AddressFact) (elided : ℕ → Bool) (medium first len : ℕ) (run : List AddressFact) → IsVisibleRun facts elided medium first len run → IsNewestRun address_key number facts (key_of medium first) len run
newest_run facts elided medium first len run h = record {
  long = h.long;
  newest = λ i l.
      let shown = h.visible i l in
      let here : (f : AddressFact) × (slice_get run i ≡ Some f) = elim (slice_get_cases run i).1 [ inl at ↦ (at.0, at.2) | inr past ↦ absurd (omega (arith, l, h.long, past.0)) ] in
      rw (← key_behind medium first i) (one (elided (id_of (key_of medium (first + i)))) (newest_of address_key number (key_of medium (first + i)) facts) here.0 (sym (visible_newest facts elided (key_of medium (first + i))) ∙ shown ∙ here.1) ∙ sym here.1);
}
  where
    one : (b : Bool) (o : Option AddressFact) (f : AddressFact) → (if b then None else o) ≡ Some f → o ≡ Some f
    one true o f e = cc
    one false o f e = e

-- the newest of sectors of a medium that isn't elided is visible
pub visible_run : (facts : List AddressFact) (elided : ℕ → Bool) (medium first len : ℕ) (run : List AddressFact) → first + len ≤ 2 ^ 32 → elided medium ≡ false
    → IsNewestRun address_key number facts (key_of medium first) len run → IsVisibleRun facts elided medium first len run
visible_run facts elided medium first len run fits kept h = record {
  long = h.long;
  visible = λ i l.
      visible_newest facts elided (key_of medium (first + i)) ∙ rw (id_of_key medium (first + i) (omega (arith, fits, l)), kept, key_behind medium first i) (h.newest i l);
}

-- newer facts are visible in place of older ones
pub visible_over : (facts run : List AddressFact) (elided : ℕ → Bool) (k : ℕ) → AreBelow number facts run
    → says address_key number never (facts ++ run) elided k ≡ option_or (says address_key number never run elided k) (says address_key number never facts elided k)
visible_over facts run elided k below =
    visible_newest (facts ++ run) elided k ∙ one (elided (id_of k)) ∙ sym (ap (λ o. option_or o (says address_key number never facts elided k)) (visible_newest run elided k)
    ∙ ap (λ o. option_or (if elided (id_of k) then None else newest_of address_key number k run) o) (visible_newest facts elided k))
  where
    one : (b : Bool) → (if b then None else newest_of address_key number k (facts ++ run))
        ≡ option_or (if b then None else newest_of address_key number k run) (if b then None else newest_of address_key number k facts)
    one true = refl
    one false = newer_over address_key number k facts run below

-- ranges of elided ids elide the same
pub same_addresses : (facts : Facts) (ranges : List (ℕ × ℕ)) (medium sector : ℕ) → AreElidedRanges facts.elisions table.Address ranges
    → target_of facts.addresses (is_within ranges) medium sector ≡ address facts medium sector
same_addresses facts ranges medium sector h =
    rw (within_elided facts.elisions table.Address ranges (id_of (key_of medium sector)) h) refl
