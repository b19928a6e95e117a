-- Sets of drives that grow.
use Rattle.std.proofs.Common.{arith}
use Rattle.std.proofs.lemmas.Bool.Decides.{nat_tests}
use Rattle.std.proofs.Common.{◌≡◌, ◌≢◌, ◌⊎◌, ◌↔◌, inl, inr, ℕ, ◌<◌, ◌≤◌, Bool, true, false, ◌||◌, List, length, refl, sym, ◌∙◌, ap}
use Rattle.std.specs.Prelude.{slice_set}
use Rattle.std.proofs.lemmas.List.{get_or-set_same, get_or-set_other, get_or_past}
use Rattle.segment_io.specs.Lost.{is_in}

pub set_here : (drives : List Bool) (slot : ℕ) (b : Bool) → slot < length drives → is_in (slice_set drives slot b) slot ≡ b
set_here drives slot b within = get_or-set_same drives slot b false within

pub set_other : (drives : List Bool) (slot i : ℕ) (b : Bool) → i ≢ slot → is_in (slice_set drives slot b) i ≡ is_in drives i
set_other drives slot i b ne = get_or-set_other drives slot i b false ne

-- one drive more
pub still_in : (drives : List Bool) (slot i : ℕ) → slot < length drives → is_in drives i ≡ true → is_in (slice_set drives slot true) i ≡ true
still_in drives slot i within is = grind (arith, nat_tests, slice_set, set_here, set_other)

pub was_in : (drives : List Bool) (slot i : ℕ) → is_in (slice_set drives slot true) i ≡ true → (i ≡ slot) ⊎ (is_in drives i ≡ true)
was_in drives slot i is = grind (arith, nat_tests, set_other)

-- what is in one of two sets
pub in_either : (a b c : Bool) → c ≡ (a || b) → (c ≡ true) ↔ ((a ≡ true) ⊎ (b ≡ true))
in_either true b c e = (λ is. inl refl, λ one. e)
in_either false true c e = (λ is. inr refl, λ one. e)
in_either false false c e = (λ is. absurd (cc (is, e)), λ one. elim one [ inl i ↦ absurd (cc i) | inr i ↦ absurd (cc i) ])

-- past the end there is nothing
pub past_both : (a b : List Bool) (slot : ℕ) (c : Bool) → length a ≤ slot → length b ≤ slot → c ≡ is_in a slot → c ≡ (is_in a slot || is_in b slot)
past_both a b slot c la lb same = same ∙ get_or_past a slot false la ∙ sym (ap (λ x. x || is_in b slot) (get_or_past a slot false la) ∙ get_or_past b slot false lb)
