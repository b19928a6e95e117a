-- Bytes, and numbers as bytes, the greatest place first.
use Rattle.std.specs.Prelude.{◌≡◌, ℕ, ◌-◌, ◌<◌, List, [], ◌∷◌, ◌++◌, length, take, drop, replicate, slice_index}
use Rattle.std.specs.Int.{w16, w32, w64, to_be_bytes}

-- each is a byte
abbrev pub IsBytes : List ℕ → Type 0
IsBytes bytes = (i : ℕ) → slice_index bytes i < 256

-- so many bytes, and nothing but bytes
abbrev pub IsBytesOf : ℕ → List ℕ → Type 0
IsBytesOf n bytes = (length bytes ≡ n) × IsBytes bytes

-- n bytes from a place on
abbrev pub bytes_at : ℕ → ℕ → List ℕ → List ℕ
bytes_at place n bytes = take n (drop place bytes)

-- numbers of 1, 2, 4 and 8 bytes
abbrev pub u8 : ℕ → List ℕ
u8 n = n ∷ []

-- a number of two bytes
abbrev pub u16 : ℕ → List ℕ
u16 n = to_be_bytes w16 n

-- a number of four bytes
abbrev pub u32 : ℕ → List ℕ
u32 n = to_be_bytes w32 n

-- a number of eight bytes
abbrev pub u64 : ℕ → List ℕ
u64 n = to_be_bytes w64 n

-- so many zeros
abbrev pub zeros : ℕ → List ℕ
zeros n = replicate n 0

-- the bytes, and zeros up to a length
abbrev pub padded : ℕ → List ℕ → List ℕ
padded n bytes = bytes ++ zeros (n - length bytes)
