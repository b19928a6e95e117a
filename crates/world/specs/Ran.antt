-- What a run of calls on a shelf leaves alone.
use Rattle.std.specs.Prelude.{◌≡◌, ℕ}
use Rattle.pur_base.specs.declared.device.Device.{Device}
use Rattle.world.specs.Shelf.{Shelved, Continues}
use Rattle.world.specs.Writes.{WritesOnly}

-- that device
abbrev pub Only : Device → Device → Type 0
Only device d = d ≡ device

-- Calls on devices of D alone, which write bytes of W alone, at every moment. Each other device is untouched.
pub record Runs (D : Device → Type 0) (W : Device → ℕ → Type 0) (old new : Shelved) : Type 0 where
  pub continues : Continues old new
  pub others : (d : Device) → (D d → ⊥) → new.disk d ≡ old.disk d
  pub writes : old.honest → WritesOnly W old new

-- so what a shelf means, and the rest of it stays
pub record Ran {X : Type 0} (shelf : X → Shelved) (same_rest : X → X → Type 0) (D : Device → Type 0) (W : Device → ℕ → Type 0) (old new : X) : Type 0 where
  pub on : Runs D W (shelf old) (shelf new)
  pub rest : same_rest old new
