-- What a stop leaves of two writes, the second behind the first.
use Rattle.world_clients.proofs.Prelude.{◌≡◌, ◌⊎◌, inl, inr, ℕ, ◌+◌, ◌≤◌, List, [], length, ◌∙◌, arith, Device, Shelved, Stop, Written, OneRange, LeavesBut, same_part, none_dirty}
use Rattle.world_clients.specs.Turns.{IsInTurn}

pub first_turn : (s : Shelved) (device : Device) (at : ℕ) (first : List ℕ) (then n : ℕ) → ((at + length first ≤ then) ⊎ (then + n ≤ at)) → (s.disk device).dirty ≡ []
    → (stop : Stop) → LeavesBut (OneRange device at (length first)) s stop → IsInTurn s device at first then n stop
first_turn s device at first then n apart clean stop left = inl (λ i is. (left.bytes device).same i (none_dirty (s.disk device) clean i) (λ w. elim apart [ inl h ↦ omega arith | inr h ↦ omega arith ]))

pub second_turn : (s mid : Shelved) (device : Device) (at : ℕ) (first : List ℕ) (then n : ℕ) → ((at + length first ≤ then) ⊎ (then + n ≤ at)) → (mid.disk device).dirty ≡ []
    → at + length first ≤ length (mid.disk device).bytes → Written at first (s.disk device).bytes (mid.disk device).bytes
    → (stop : Stop) → LeavesBut (OneRange device then n) mid stop → IsInTurn s device at first then n stop
second_turn s mid device at first then n apart clean fits written stop left =
    let fits_image : at + length first ≤ length (stop.image device) = omega (arith, fits, (left.bytes device).size) in
    inr (same_part (stop.image device) (mid.disk device).bytes at (length first) fits_image (left.bytes device).size
    (λ i is. (left.bytes device).same i (none_dirty (mid.disk device) clean i) (λ w. elim apart [ inl h ↦ omega arith | inr h ↦ omega arith ]))
    ∙ written.within)
