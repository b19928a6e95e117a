-- The gate's sector.
use Rattle.std.specs.Prelude.{ℕ, ◌-◌, Bool, List, ◌∷◌, if◌then◌else◌}
use Rattle.pur_base.specs.Prelude.{zeros}
use Rattle.pur_base.specs.declared.limits.TheConstants.{SECTOR_BYTES}

-- the bytes of an open or a closed gate
unfoldable pub gate_bytes : Bool → List ℕ
gate_bytes is_open = (if is_open then 1 else 0) ∷ zeros (SECTOR_BYTES - 1)
