-- Drives that are left.
use Rattle.register.proofs.Prelude.{nat_tests, ◌≡◌, ◌↔◌, ◌&&◌, not, ℕ, ◌<◌, List, length, refl, arith, Bool, true, false, slice_index_or, IsMember, member_below}

both_or : (l d x : Bool) → l ≡ (d && not x) → (l ≡ true) ↔ ((d ≡ true) × ¬ (x ≡ true))
both_or l true true e = (λ is. absurd (cc (is, e)), λ both. absurd (both.1 refl))
both_or l true false e = (λ is. (refl, λ t. cc t), λ both. e)
both_or l false x e = (λ is. absurd (cc (is, e)), λ both. absurd (cc both.0))

-- flags that were set and are not among those that were lost
pub in_left : (drives lost left : List Bool) → length left ≡ 24 → length drives ≡ 24 → ((i : ℕ) → i < 24 → slice_index_or left i false ≡ (slice_index_or drives i false && not (slice_index_or lost i false)))
    → (i : ℕ) → IsMember left i ↔ (IsMember drives i × ¬ (IsMember lost i))
in_left drives lost left all all_before each i = grind (arith, nat_tests, member_below, both_or, slice_index_or)
