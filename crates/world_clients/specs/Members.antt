-- What a write on each member leaves.
use Rattle.std.specs.Prelude.{◌≡◌, ◌⊎◌, ℕ, List, [], Bool, true, false, slice_index_or}
use Rattle.world.specs.Prelude.{Device, Drive, Nv, Rises, Disk, IsIn, Written}

-- whether a drive is a member
abbrev pub IsMember : List Bool → ℕ → Type 0
IsMember members d = slice_index_or members d false ≡ true

-- the n bytes from there on, on each member
abbrev pub OnMembers : List Bool → ℕ → ℕ → Device → ℕ → Type 0
OnMembers members at n (Drive d) i = IsMember members d.0 × IsIn (record { start = at; size = n }) i
OnMembers members at n (Nv v) i = ⊥

-- A member holds the bytes and stays one, or its device failed. The others stay as they were.
pub record Outcome (honest was is : Type 0) (at : ℕ) (from : List ℕ) (old new : Disk) : Type 0 where
  pub before : is → was
  pub written : honest → is → Written at from old.bytes new.bytes
  pub clean : honest → is → new.dirty ≡ []
  pub dropped : was → is ⊎ Rises old.write_faults new.write_faults
  pub others : (was → ⊥) → new ≡ old
