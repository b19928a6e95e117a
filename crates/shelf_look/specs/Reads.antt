-- What a shelf is after reads alone.
use Rattle.std.specs.Prelude.{◌≡◌, ℕ}
use Rattle.session_spec.specs.Prelude.{Device, Shelved, Continues, IsSame, WritesOnly}

-- no byte
abbrev pub NoByte : Device → ℕ → Type 0
NoByte d i = ⊥

-- Each device is as it was, at every moment, and no write or sync of one failed.
pub record AreOnlyRead (old new : Shelved) : Type 0 where
  pub continues : Continues old new
  pub same : old.honest → (d : Device) → IsSame (old.disk d) (new.disk d)
  pub writes : old.honest → WritesOnly NoByte old new
  pub write_faults : (d : Device) → (new.disk d).write_faults ≡ (old.disk d).write_faults

-- so is what a shelf means, and the rest of it stays
pub record IsOnlyRead {X : Type 0} (shelf : X → Shelved) (same_rest : X → X → Type 0) (old new : X) : Type 0 where
  pub on : AreOnlyRead (shelf old) (shelf new)
  pub rest : same_rest old new
