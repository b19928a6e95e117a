-- A place at an index.
use Rattle.boot_codec.proofs.Prelude.{nat_tests, ◌≡◌, ℕ, ◌+◌, ◌≤◌, true, ◌&&◌, leb, ltb, List, [], ◌∷◌, length, drop, get_or, Ok, refl, arith, drop-cons, w16, from_be_bytes, Place, place_from}
use Rattle.boot_codec.proofs.FieldLemmas.{both_true}

three_bytes : (bytes : List ℕ) (i : ℕ) → i + 3 ≤ length bytes → drop i bytes ≡ get_or bytes i 0 ∷ get_or bytes (i + 1) 0 ∷ get_or bytes (i + 2) 0 ∷ drop (i + 3) bytes
three_bytes bytes i h = grind (arith, nat_tests, drop-cons)

place_in_front : (slots units least a b c : ℕ) (more : List ℕ) → (leb least a && ltb a slots) ≡ true → (leb 3 (from_be_bytes w16 (b ∷ c ∷ [])) && ltb (from_be_bytes w16 (b ∷ c ∷ [])) units) ≡ true
    → place_from slots units least (a ∷ b ∷ c ∷ more) ≡ Ok (record { slot = a; unit = from_be_bytes w16 (b ∷ c ∷ []) }, more)
unfolding place_from
place_in_front slots units least a b c more slot unit = rw (slot, unit) refl

-- three bytes that pass the tests of a place are read as it
pub place_here : (slots units least : ℕ) (bytes : List ℕ) (i : ℕ) (p : Place) → i + 3 ≤ length bytes → p.slot ≡ get_or bytes i 0 → p.unit ≡ from_be_bytes w16 (get_or bytes (i + 1) 0 ∷ get_or bytes (i + 2) 0 ∷ [])
    → ((leb least p.slot && ltb p.slot slots) && (leb 3 p.unit && ltb p.unit units)) ≡ true → place_from slots units least (drop i bytes) ≡ Ok (p, drop (i + 3) bytes)
place_here slots units least bytes i p long slot unit passes = grind (arith, nat_tests, both_true, leb, ltb, three_bytes, place_in_front)
