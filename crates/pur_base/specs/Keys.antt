-- Keys of facts: an id, and below it a second number of 64 bits.
use Rattle.std.specs.Prelude.{ℕ, ◌+◌, ◌*◌, ◌/◌, ◌^◌, Bool, IsTrue}

-- the key of an id and a second number
abbrev pub key_of : ℕ → ℕ → ℕ
key_of id second = id * 2 ^ 64 + second

-- the id of a key
abbrev pub id_of : ℕ → ℕ
id_of key = key / 2 ^ 64

-- what lies in a second that lies in a third lies in the third
abbrev pub IsTransitive : {F : Type 0} → (F → F → Bool) → Type 0
IsTransitive {F} within = (f g h : F) → IsTrue (within f g) → IsTrue (within g h) → IsTrue (within f h)
