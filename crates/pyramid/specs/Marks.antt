-- Marks that tell of which keys a patch may have facts.
use Rattle.std.specs.Prelude.{◌≡◌, ℕ, ◌+◌, ◌*◌, ◌/◌, ◌%◌, ◌^◌, true, Bool, List, Contains, slice_index_or, false}

-- 64 keys in a row are a group
abbrev pub group_of : ℕ → ℕ
group_of key = key / 64

-- where the mark of a group stands: by its place among those of its id, and by the id
unfoldable pub mark_of : ℕ → ℕ
mark_of group = (group / 2 ^ 58 % 1024 * 37 + group % 1024) % 1024

-- the mark of each fact's group is set
abbrev pub AreMarked : {F : Type 0} → (F → ℕ) → List F → List Bool → Type 0
AreMarked {F} key facts marks = (f : F) → Contains facts f → slice_index_or marks (mark_of (group_of (key f))) false ≡ true
