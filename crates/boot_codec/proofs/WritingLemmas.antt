-- What several writers have written.
use Rattle.boot_codec.proofs.Prelude.{nat_tests, ◌≡◌, ℕ, ◌-◌, List, [], ◌++◌, length, take, sym, ap, ◌∙◌, append_assoc, arith, length-append, append-nil, take-length, zeros, padded, IsWritten}

-- a text, and then one after it
pub then_written : (a b c : List ℕ) (i j k : ℕ) (s t : List ℕ) → IsWritten a b i j s → IsWritten b c j k t → IsWritten a c i k (s ++ t)
then_written a b c i j k s t first second = grind (arith, nat_tests, length-append, append_assoc)

pub nothing_written : (a : List ℕ) (i : ℕ) → IsWritten a a i i []
nothing_written a i = record { end = omega arith; front = sym (append-nil (take i a)) }

-- a text that is as long as what it is written into
pub all_written : (a b : List ℕ) (k : ℕ) (t : List ℕ) → IsWritten a b 0 k t → length b ≡ length t → b ≡ t
all_written a b k t h len =
    let e : length b ≡ k = omega (arith, len, h.end) in
    sym (take-length b) ∙ ap (λ (n : ℕ). take n b) e ∙ h.front

-- a header of 88 bytes, and patches with zeros after them
pub padded_after : (header old lists patches : List ℕ) (stop : ℕ) → length header ≡ 88 → IsWritten old lists 0 stop patches → length lists ≡ 65448
    → header ++ (take stop lists ++ zeros (length lists - stop)) ≡ padded 65536 (header ++ patches)
padded_after header old lists patches stop len h room = grind (arith, nat_tests, length-append, zeros, append_assoc)
