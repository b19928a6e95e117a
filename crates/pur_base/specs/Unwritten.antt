-- Where nothing says what a sector of a medium reads as.
use Rattle.std.specs.Prelude.{◌≡◌, ℕ, ◌+◌, ◌-◌, Option, Some, None}
use Rattle.pur_base.specs.declared.facts.Target.{Target}
use Rattle.pur_base.specs.declared.facts.MediumFact.{MediumFact}
use Rattle.pur_base.specs.Facts.{Facts}
use Rattle.pur_base.specs.Visible.{address}
use Rattle.pur_base.specs.Mediums.{IsOver, Reads}

-- no medium of the chain says what the sector reads as
pub data IsUnwritten (f : Facts) : ℕ → ℕ → Type 0 where
  -- it has no address, and no range is over it
  nowhere : {medium sector : ℕ} → address f medium sector ≡ None → ((r : MediumFact) → ¬ (IsOver f medium sector r)) → IsUnwritten f medium sector
  -- or the range over it leads to such a sector
  onward : {medium sector : ℕ} (r : MediumFact) → address f medium sector ≡ None → IsOver f medium sector r
      → IsUnwritten f r.target.0 (r.target_start + (sector - r.start)) → IsUnwritten f medium sector

-- what a sector of a medium reads as, if anything says it
abbrev pub ReadsAt : Facts → ℕ → ℕ → Option Target → Type 0
ReadsAt f medium sector (Some target) = Reads f medium sector target × (¬ (IsUnwritten f medium sector))
ReadsAt f medium sector None = IsUnwritten f medium sector
