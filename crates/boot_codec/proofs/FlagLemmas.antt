-- Flags, and the number whose bits they are.
use Rattle.boot_codec.proofs.Prelude.{◌≡◌, ℕ, suc, ◌+◌, ◌-◌, ◌/◌, ◌%◌, ◌<◌, Bool, List, [], ◌∷◌, ◌++◌, length, take, nat_eq, slice_set, sym, ap, ◌∙◌, append_assoc, arith, length-set, add-one, take-suc-set, flags}

-- one more flag is set as its bit is
pub flags_go_on : (into : List Bool) (i left : ℕ) (all : List Bool) → i < length into → take i into ++ flags (length into - i) left ≡ all
    → take (i + 1) (slice_set into i (nat_eq (left % 2) 1)) ++ flags (length (slice_set into i (nat_eq (left % 2) 1)) - (i + 1)) (left / 2) ≡ all
flags_go_on into i left all lt so_far =
    let one : length into - i ≡ suc (length into - (i + 1)) = omega arith in
    let bit = nat_eq (left % 2) 1 in
    let front : take (i + 1) (slice_set into i bit) ≡ take i into ++ bit ∷ [] = rw add-one (take-suc-set into i bit lt) in
    let len : length (slice_set into i bit) - (i + 1) ≡ length into - (i + 1) = ap (λ (n : ℕ). n - (i + 1)) (length-set into i bit) in
    rw (front, len) (append_assoc (take i into) (bit ∷ []) (flags (length into - (i + 1)) (left / 2)) ∙ sym (ap (λ (n : ℕ). take i into ++ flags n left) one) ∙ so_far)
