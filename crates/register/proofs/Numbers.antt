-- The generation of a record, as it is spelled, and the slot of the next one.
use Rattle.register.proofs.Prelude.{nat_tests, ◌≡◌, ℕ, ◌+◌, ◌^◌, ◌<◌, ◌≤◌, List, ◌++◌, length, take, drop, ◌∙◌, ap, subst, arith, length-append, length-drop, take_all, drop-append-le, take-append-le, bytes_at, BootRecord, IsBootRecord, spelling, opening_bytes, header_bytes, record_bytes, BootSlot, A, B, slot_of, other_slot, generation_in, Yields}
use Rattle.std.specs.Int.{w64, to_be_bytes, from_be_bytes}
use Rattle.std.proofs.lemmas.Nat.{from_be_bytes-to_be_bytes_8}
use Rattle.std.proofs.Math.Seq.{drop-append_seam}
use Rattle.boot_codec.proofs.SpellingLemmas.{length-opening_bytes}

-- the text shows these bytes in that place
abbrev StandsAt : ℕ → List ℕ → List ℕ → Type 0
StandsAt at part bytes = (at + length part ≤ length bytes) × (take (length part) (drop at bytes) ≡ part)

at_seam : (a b : List ℕ) → StandsAt (length a) b (a ++ b)
at_seam a b = grind (arith, nat_tests, length-append, drop-append_seam, take_all)

then_more : (at : ℕ) (part bytes more : List ℕ) → StandsAt at part bytes → StandsAt at part (bytes ++ more)
then_more at part bytes more h = grind (arith, nat_tests, length-append, length-drop, drop-append-le, take-append-le)

pub generation_spelled : (r : BootRecord) → IsBootRecord r → generation_in (spelling r) ≡ r.generation
unfolding header_bytes record_bytes
generation_spelled r is =
    let small : r.generation < 2 ^ 64 = omega (arith, is.generation.1) in
    let stands : StandsAt (length (opening_bytes r.slots r.units)) (to_be_bytes w64 r.generation) (spelling r) =
    then_more _ _ _ _ (then_more _ _ _ _ (then_more _ _ _ _ (then_more _ _ _ _ (then_more _ _ _ _ (then_more _ _ _ _ (at_seam (opening_bytes r.slots r.units) (to_be_bytes w64 r.generation))))))) in
    let place : bytes_at 16 8 (spelling r) ≡ to_be_bytes w64 r.generation =
    subst (λ (n : ℕ). take 8 (drop n (spelling r)) ≡ to_be_bytes w64 r.generation) (length-opening_bytes r.slots r.units) stands.1 in
    ap (from_be_bytes w64) place ∙ from_be_bytes-to_be_bytes_8 r.generation small

pub next_other : (n : ℕ) → slot_of (n + 1) ≡ other_slot (slot_of n)
next_other n = grind (arith, nat_tests)

-- what yields is of no higher generation
pub yields_le : (slot : BootSlot) (a b : ℕ) → Yields slot a b → a ≤ b
yields_le A a b h = h
yields_le B a b h = omega (arith, h)

-- and what is lower yields
pub lower_yields : (slot : BootSlot) (a b : ℕ) → a < b → Yields slot a b
lower_yields A a b h = omega (arith, h)
lower_yields B a b h = h

pub slots_differ : (t : BootSlot) → t ≡ other_slot t → ⊥
slots_differ A e = cc e
slots_differ B e = cc e
