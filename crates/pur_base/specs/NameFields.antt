-- How a name lies in its fields.
use Rattle.std.specs.Prelude.{IsTrue, bytes_eq, [], ◌∷◌, ◌≡◌, ℕ, ◌-◌, ◌≤◌, List, ◌++◌, length, take, drop, replicate, refl}
use Rattle.std.specs.Cmp.Lexicographic.{bytes_decides}
use Rattle.std.proofs.Common.{arith, ap}
use Rattle.std.proofs.lemmas.List.{take-append-drop, length-take}
use Rattle.pur_base.specs.declared.name.Name.TheInside.{Inside}

-- The text stands in front, and zeros behind it.
pub record IsPadded (bytes : List ℕ) (len : ℕ) : Type 0 where
  pub size : length bytes ≡ 24
  pub within : len ≤ 24
  pub zeros : drop len bytes ≡ replicate (24 - len) 0

-- the fields are decided by the text
pub inverse-view : (n : Inside) → IsPadded n.bytes n.len
    → record { bytes = take n.len n.bytes ++ replicate (24 - length (take n.len n.bytes)) 0; len = length (take n.len n.bytes) } ≡ n
inverse-view n h =
    let len : length (take n.len n.bytes) ≡ n.len = omega (arith, length-take n.len n.bytes, h.size, h.within) in
    rw (len, ← h.zeros, take-append-drop) refl

-- Equal names are hashed alike.
pub hashed-alike : (x y : List ℕ) → IsTrue (bytes_eq x y) → x ∷ [] ≡ y ∷ []
hashed-alike x y e = ap (λ (n : List ℕ). n ∷ []) ((bytes_decides x y).0 e)
